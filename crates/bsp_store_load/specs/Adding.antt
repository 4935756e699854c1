-- An entry whose key is new adds its row to those of its table.
use Rattle.std.proofs.Common.{◌≡◌, ℕ, List, ◌∷◌, map, None, sym, subst, IsPermutation, Ordering}
use Rattle.bsp_store_base.specs.Std.{entries, FinMap, get, insert, IsTotalOrder, nat_cmp_total}
use Rattle.std.proofs.lemmas.List.Sorted.{IsPermutation-sym}
use Rattle.sqlite_value.specs.Order.{Row}
use Rattle.bsp_store_base.specs.Entries.{Item, ItemKey, key_of, memo_key, MemoFields, MemoKey, range_of, RangeKey, Rows, with_agent_token, with_item, with_memo, with_range}
use Rattle.bsp_rows.proofs.KeyOrders.{item_total, memo_total, range_total}
use Rattle.bsp_store_base.specs.Columns.{agent_row, item_row, memo_row, stock_row}
use Rattle.bsp_store_base.proofs.Syncing.{rows_added}
use Rattle.bsp_store_load.specs.Beside.{LacksItem, Taxed}

-- to those of a map
pub entry_added : {K V : Type 0} {R : K → K → Ordering} (o : IsTotalOrder R) (row_of : K × V → Row) (e : K × V) (m : FinMap R V) → get m e.0 ≡ None → IsPermutation (row_of e ∷ map row_of (entries m)) (map row_of (entries (insert m e.0 e.1)))
entry_added {R = R} o row_of e m none = IsPermutation-sym _ _ (rows_added R o row_of m e.0 e.1 none)

pub agent_added : (e : ℕ × List ℕ) (rows : Rows) → get rows.agents e.0 ≡ None → IsPermutation (agent_row e ∷ map agent_row (entries rows.agents)) (map agent_row (entries (with_agent_token e.0 e.1 rows).agents))
agent_added e rows none = entry_added nat_cmp_total agent_row e rows.agents none

pub range_added : (e : RangeKey × ℕ) (rows : Rows) → get rows.ranges e.0 ≡ None → IsPermutation (stock_row e ∷ map stock_row (entries rows.ranges)) (map stock_row (entries (with_range e.0.agent (range_of e) rows).ranges))
range_added e rows none = entry_added range_total stock_row e rows.ranges none

pub item_added : (e : ItemKey × Item) (rows : Rows) → (key_of e.1 ≡ e.0) × (get rows.items e.0 ≡ None) → IsPermutation (item_row e ∷ map item_row (entries rows.items)) (map item_row (entries (with_item e.1 rows).items))
item_added e rows new =
    subst (λ k. IsPermutation (item_row e ∷ map item_row (entries rows.items)) (map item_row (entries (insert rows.items k e.1)))) (sym new.0) (entry_added item_total item_row e rows.items new.1)

-- and one whose tax is taken out of those that are left
pub taxed_added : (e : ItemKey × Item) (w : Taxed) → LacksItem e w → IsPermutation (item_row e ∷ map item_row (entries w.0.items)) (map item_row (entries (with_item e.1 w.0).items))
taxed_added e w new = item_added e w.0 (new.keyed, new.none)

pub memo_added : (e : MemoKey × MemoFields) (rows : Rows) → (memo_key e.1 ≡ e.0) × (get rows.memos e.0 ≡ None) → IsPermutation (memo_row e ∷ map memo_row (entries rows.memos)) (map memo_row (entries (with_memo e.1 rows).memos))
memo_added e rows new =
    subst (λ k. IsPermutation (memo_row e ∷ map memo_row (entries rows.memos)) (map memo_row (entries (insert rows.memos k e.1)))) (sym new.0) (entry_added memo_total memo_row e rows.memos new.1)
