-- The tables of agents and of ranges, as the maps in memory.
use Rattle.bsp_store_base.proofs.Std.{◌≡◌, get, List, nat_cmp, nat_cmp_total, None, refl, ℕ}
use Rattle.bsp_store_base.proofs.Entries.{range_cmp, range_of, range_total, RangeKey, Rows, with_agent_token, with_range}
use Rattle.bsp_store_base.proofs.Base.{agent_part, agent_row, IsAgentEntry, IsRangeEntry, stock_part, stock_row}
use Rattle.bsp_store_load.proofs.Loaders.{Loader}

abbrev pub agents_loader : Loader ℕ (List ℕ) Rows nat_cmp IsAgentEntry (λ e rows. get rows.agents e.0 ≡ None)
agents_loader = record {
  total = nat_cmp_total;
  part = agent_part;
  row_of = agent_row;
  step = λ e. with_agent_token e.0 e.1;
  of = λ rows. rows.agents;
  with = λ m rows. record rows { agents = m };
  in_content = λ c. c.agents;
  steps = λ e rows fit. refl;
  free = λ e rows fit none. none;
  alone = λ e rows. refl;
  with_of = λ rows. refl;
  with_with = λ m n rows. refl;
  rows_are = λ c. refl;
}

abbrev pub ranges_loader : Loader RangeKey ℕ Rows range_cmp IsRangeEntry (λ e rows. get rows.ranges e.0 ≡ None)
ranges_loader = record {
  total = range_total;
  part = stock_part;
  row_of = stock_row;
  step = λ e. with_range e.0.agent (range_of e);
  of = λ rows. rows.ranges;
  with = λ m rows. record rows { ranges = m };
  in_content = λ c. c.ranges;
  steps = λ e rows fit. refl;
  free = λ e rows fit none. none;
  alone = λ e rows. refl;
  with_of = λ rows. refl;
  with_with = λ m n rows. refl;
  rows_are = λ c. refl;
}
