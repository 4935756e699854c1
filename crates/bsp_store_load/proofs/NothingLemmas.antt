-- Tables that have nothing have no rows.
use Rattle.bsp_store_base.proofs.Std.{[], ◌∙◌, ◌≡◌, ap, empty, filter_map, from_entries, List, Ordering}
use Rattle.bsp_maps.specs.Present.{present, present_entry}
use Rattle.bsp_store_base.proofs.Entries.{no_entries, no_rows}
use Rattle.bsp_memory_rows.specs.Tables.{rows_of}
use Rattle.bsp_memory_rows.specs.declared.tables.Tables.{Tables}
use Rattle.bsp_store_load.specs.Nothing.{HasNothing}

of_none : {K X : Type 0} {R : K → K → Ordering} (es : List (K × X)) → es ≡ [] → from_entries {R = R} es ≡ empty
of_none {R = R} es none = ap (from_entries {R = R}) none

present_none : {K V : Type 0} {R : K → K → Ordering} (es : List (K × _)) → es ≡ [] → present (from_entries {R = R} es) ≡ empty {X = V} {R = R}
present_none {R = R} es none =
    ap (λ l. present (from_entries {R = R} l)) none ∙ ap (λ l. from_entries {R = R} (filter_map present_entry l)) (no_entries R)

pub no_rows_in : (t : Tables) → HasNothing t → rows_of t ≡ no_rows
no_rows_in t none = λ i. record {
  published = none.plan i;
  agents = of_none t.agents.map.entries none.callers.agents i;
  airlines = of_none t.airlines.map.entries none.callers.airlines i;
  ranges = present_none t.ranges.rows.map.entries none.callers.ranges i;
  items = of_none t.items.rows.map.entries none.sales.items i;
  memos = of_none t.memos.rows.map.entries none.sales.memos i;
}
