-- The tables of callers and of a plan, as those of maps and of lists of the content.
use Rattle.std.proofs.Common.{ℕ, List, [], ◌∷◌, nat_cmp}
use Rattle.bsp_store_base.specs.Entries.{CommissionTax, memo_cmp, MemoFields, MemoKey, Period, range_cmp, RangeKey, Rate, Tally, tally_cmp, TallyKey}
use Rattle.bsp_store_base.specs.Base.{agent_row, agent_table, agent_text, airline_row, airline_table, airline_text, commission_tax_row, commission_tax_table, MapTable, memo_row, memo_table, number_text, period_row, period_table, period_text, rate_row, rate_table, stock_row, stock_table, tally_row, tally_table}
use Rattle.bsp_store_columns.specs.declared.airlines.AirlineEntry.{AirlineEntry}
use Rattle.bsp_store_rows.specs.PlacedTables.{PlacedList}

abbrev pub agents_map : MapTable ℕ (List ℕ) nat_cmp
agents_map = record {
  at = 5;
  table = agent_table;
  of = λ c. c.agents;
  with = λ m c. record c { agents = m };
  row_of = agent_row;
  key_of = (λ code. agent_text code ∷ []);
  keys = 1;
}

abbrev pub ranges_map : MapTable RangeKey ℕ range_cmp
ranges_map = record {
  at = 6;
  table = stock_table;
  of = λ c. c.ranges;
  with = λ m c. record c { ranges = m };
  row_of = stock_row;
  key_of = λ key. agent_text key.agent ∷ number_text key.first ∷ [];
  keys = 2;
}

abbrev pub memos_map : MapTable MemoKey MemoFields memo_cmp
memos_map = record {
  at = 8;
  table = memo_table;
  of = λ c. c.memos;
  with = λ m c. record c { memos = m };
  row_of = memo_row;
  key_of = λ key. airline_text key.airline ∷ number_text key.document ∷ [];
  keys = 2;
}

abbrev pub tallies_map : MapTable TallyKey Tally tally_cmp
tallies_map = record {
  at = 9;
  table = tally_table;
  of = λ c. c.tallies;
  with = λ m c. record c { tallies = m };
  row_of = tally_row;
  key_of = λ key. agent_text key.agent ∷ airline_text key.airline ∷ period_text key.period ∷ [];
  keys = 3;
}

abbrev pub airlines_map : MapTable ℕ AirlineEntry nat_cmp
airlines_map = record {
  at = 2;
  table = airline_table;
  of = λ c. c.airlines;
  with = λ m c. record c { airlines = m };
  row_of = airline_row;
  key_of = (λ code. airline_text code ∷ []);
  keys = 1;
}

abbrev pub rates_list : PlacedList Rate
rates_list = record {
  at = 3;
  table = rate_table;
  of = λ c. c.rates;
  with = λ entries c. record c { rates = entries };
  row_of = rate_row;
  place = 3;
}

abbrev pub periods_list : PlacedList Period
periods_list = record {
  at = 4;
  table = period_table;
  of = λ c. c.periods;
  with = λ entries c. record c { periods = entries };
  row_of = period_row;
  place = 2;
}

abbrev pub commission_taxes_list : PlacedList CommissionTax
commission_taxes_list = record {
  at = 10;
  table = commission_tax_table;
  of = λ c. c.commission_taxes;
  with = λ entries c. record c { commission_taxes = entries };
  row_of = commission_tax_row;
  place = 2;
}
