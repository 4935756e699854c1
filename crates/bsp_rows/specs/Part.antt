-- What of the rows is an agent's, and what is an airline's.
use Rattle.std.specs.Prelude.{ℕ, ◌==◌, Bool, List, Option}
use Rattle.std.specs.List.{filter}
use Rattle.std.specs.declared.cmp.Ordering.{Ordering}
use Rattle.std.specs.FinMap.{FinMap, get, entries, from_sorted}
use Rattle.bsp_rules.specs.declared.rows.Item.{Item}
use Rattle.bsp_memos.specs.declared.fields.MemoFields.{MemoFields}
use Rattle.bsp_rows.specs.Rows.{Rows, range_cmp, item_cmp, memo_cmp}

-- the entries of a map that pass a test
abbrev pub kept : {K X : Type 0} {R : K → K → Ordering} → (K × X → Bool) → FinMap R X → FinMap R X
kept test m = from_sorted (filter test (entries m))

-- of an agent: its token, ranges, items and memos, in the order of their keys
pub record AgentPart : Type 0 where
  pub token : Option (List ℕ)
  pub ranges : FinMap range_cmp ℕ
  pub items : FinMap item_cmp Item
  pub memos : FinMap memo_cmp MemoFields

abbrev pub agent_part : ℕ → Rows → AgentPart
agent_part agent rows = record {
  token = get rows.agents agent;
  ranges = kept (λ e. e.0.agent == agent) rows.ranges;
  items = kept (λ e. e.0.agent == agent) rows.items;
  memos = kept (λ e. e.1.agent == agent) rows.memos;
}

-- of an airline: its token, the items that bear it and its memos
pub record AirlinePart : Type 0 where
  pub token : Option (List ℕ)
  pub items : FinMap item_cmp Item
  pub memos : FinMap memo_cmp MemoFields

abbrev pub airline_part : ℕ → Rows → AirlinePart
airline_part airline rows = record {
  token = get rows.airlines airline;
  items = kept (λ e. e.1.transaction.document.airline == airline) rows.items;
  memos = kept (λ e. e.0.airline == airline) rows.memos;
}
