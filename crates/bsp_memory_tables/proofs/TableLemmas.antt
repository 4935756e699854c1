-- The indexes of a table follow from its rows.
use Rattle.std.proofs.Common.{◌≡◌, ℕ, refl, sym, subst}
use Rattle.std.specs.Ordering.{nat_cmp}
use Rattle.std.specs.FinMap.{FinMap, empty}
use Rattle.bsp_rows.specs.Item.{Item}
use Rattle.bsp_rows.specs.MemoFields.{MemoFields}
use Rattle.bsp_maps.specs.Indexes.{entry_cmp}
use Rattle.bsp_maps.proofs.PlaceCountLemmas.{counts_same, nothing_counted}
use Rattle.bsp_maps.proofs.IndexLemmas.{index_same}
use Rattle.bsp_maps.proofs.IndexLemmas as rows
use Rattle.bsp_rows.specs.declared.keys.ItemKey.{ItemKey}
use Rattle.bsp_rows.specs.Rows.{item_cmp, memo_cmp}
use Rattle.bsp_memory_tables.specs.Numbers.{IsIndexed, number_cmp}
use Rattle.bsp_memory_tables.specs.Places.{agent_place, airline_cmp, item_place, one_cmp, parties_cmp, parties_of, tally_airline_place, tally_period_place, unbilled_place}
use Rattle.bsp_memory_tables.specs.MemoTables.{AreMemosIndexed}
use Rattle.bsp_memory_tables.specs.ItemTables.{AreItemsIndexed}
use Rattle.bsp_memory_tables.specs.TallyTables.{AreTalliesIndexed}
use Rattle.bsp_rows.specs.Tally.{Tally}
use Rattle.bsp_rows.specs.Tallies.{tally_cmp}
use Rattle.bsp_memory_tables.specs.Used.{block_cmp}
use Rattle.bsp_memory_tables.proofs.NumberLemmas.{nothing_indexed}
use Rattle.bsp_memory_tables.proofs.UsedLemmas.{nothing_used, used_same}

-- ---- memos

pub memos_same : (memos others : FinMap memo_cmp MemoFields) (agents other_agents : FinMap (entry_cmp nat_cmp memo_cmp) (Unit {0})) (due other_due : FinMap (entry_cmp one_cmp memo_cmp) (Unit {0})) (counts other_counts : FinMap parties_cmp ℕ)
    → others ≡ memos → other_agents ≡ agents → other_due ≡ due → other_counts ≡ counts → AreMemosIndexed memos agents due counts → AreMemosIndexed others other_agents other_due other_counts
memos_same memos others agents other_agents due other_due counts other_counts p q r s h = record {
  by_agent = index_same nat_cmp memo_cmp agent_place memos others agents other_agents p q h.by_agent;
  unbilled = index_same one_cmp memo_cmp unbilled_place memos others due other_due p r h.unbilled;
  issued = counts_same parties_cmp memo_cmp parties_of memos others counts other_counts p s h.issued;
}

pub no_memos : AreMemosIndexed empty empty empty empty
no_memos = record { by_agent = rows.nothing_indexed nat_cmp memo_cmp agent_place; unbilled = rows.nothing_indexed one_cmp memo_cmp unbilled_place; issued = nothing_counted parties_cmp memo_cmp parties_of }

-- ---- items

numbers_same : (items others : FinMap item_cmp Item) (numbers other_numbers : FinMap number_cmp ItemKey) → others ≡ items → other_numbers ≡ numbers → IsIndexed items numbers → IsIndexed others other_numbers
numbers_same items others numbers other_numbers p q h = subst (λ (m : FinMap item_cmp Item). IsIndexed m other_numbers) (sym p) (subst (λ (m : FinMap number_cmp ItemKey). IsIndexed items m) (sym q) h)

pub items_same : (items others : FinMap item_cmp Item) (numbers other_numbers : FinMap number_cmp ItemKey) (airlines other_airlines : FinMap (entry_cmp airline_cmp item_cmp) (Unit {0})) (counts other_counts : FinMap block_cmp ℕ)
    → others ≡ items → other_numbers ≡ numbers → other_airlines ≡ airlines → other_counts ≡ counts → AreItemsIndexed items numbers airlines counts → AreItemsIndexed others other_numbers other_airlines other_counts
items_same items others numbers other_numbers airlines other_airlines counts other_counts p q r s h = record {
  by_number = numbers_same items others numbers other_numbers p q h.by_number;
  by_airline = index_same airline_cmp item_cmp item_place items others airlines other_airlines p r h.by_airline;
  used = used_same items others counts other_counts p s h.used;
}

pub no_items : AreItemsIndexed empty empty empty empty
no_items = record { by_number = nothing_indexed empty empty refl; by_airline = rows.nothing_indexed airline_cmp item_cmp item_place; used = nothing_used }

-- ---- tallies

pub tallies_same : (tallies others : FinMap tally_cmp Tally) (airlines other_airlines : FinMap (entry_cmp airline_cmp tally_cmp) (Unit {0})) (periods other_periods : FinMap (entry_cmp nat_cmp tally_cmp) (Unit {0}))
    → others ≡ tallies → other_airlines ≡ airlines → other_periods ≡ periods → AreTalliesIndexed tallies airlines periods → AreTalliesIndexed others other_airlines other_periods
tallies_same tallies others airlines other_airlines periods other_periods p q r h = record {
  by_airline = index_same airline_cmp tally_cmp tally_airline_place tallies others airlines other_airlines p q h.by_airline;
  by_period = index_same nat_cmp tally_cmp tally_period_place tallies others periods other_periods p r h.by_period;
}

pub no_tallies : AreTalliesIndexed empty empty empty
no_tallies = record { by_airline = rows.nothing_indexed airline_cmp tally_cmp tally_airline_place; by_period = rows.nothing_indexed nat_cmp tally_cmp tally_period_place }
