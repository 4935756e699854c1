use Rattle.bsp_store_base.proofs.Std.{◌∙◌, ◌≡◌, AllByRecursion, ap, entries, filter, FinMap, from_entries, IsStrictlySortedBy, keys_of, List, map, nat_cmp, nat_cmp_total, subst, sym, true, ℕ}
use Rattle.bsp_store_base.proofs.Entries.{all_pass, in_order}
use Rattle.bsp_store_base.proofs.Base.{airline_row, HasStoredPlace}
use Rattle.bsp_store_columns.specs.declared.airlines.AirlineEntry.{AirlineEntry}
use Rattle.bsp_store_load.proofs.airline_map.are_airlines.Goals as goal

-- the entries of a map in memory are those of the map that it is
entries_are : (es : List (ℕ × AirlineEntry)) (m : FinMap nat_cmp AirlineEntry) → IsStrictlySortedBy nat_cmp (keys_of es) → from_entries {R = nat_cmp} es ≡ m → filter (λ e. true) es ≡ entries m
entries_are es m up is = all_pass es ∙ sym (in_order nat_cmp_total es up) ∙ ap entries is

pub returns-clause-same : goal.returns-clause-same
returns-clause-same c = λ t.
    let all = entries_are c.in_ok-airlines.airlines.entries _ c.are_rows_of.ensures.ordered c.in_ok-airlines.ensures in
    c.are_rows_of.ensures.same t ∙ ap (map airline_row) all

pub returns-clause-whole : goal.returns-clause-whole
returns-clause-whole c = λ stored is.
    let all = entries_are c.in_ok-airlines.airlines.entries _ c.are_rows_of.ensures.ordered c.in_ok-airlines.ensures in
    c.are_rows_of.ensures.whole (subst (AllByRecursion (λ e. HasStoredPlace e.1)) (sym all) stored) (is ∙ ap (map airline_row) (sym all))
