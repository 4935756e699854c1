use Rattle.bsp_store_base.proofs.Std.{◌∙◌, ◌≡◌, ap, deref_pair, empty, FinMap, from_entries, IsStrictlySortedBy, keys_of, List, map, nat_cmp, nat_cmp-IsAntisymmetric, nat_cmp_total, rest_all, rest_more, subst, sym, ℕ}
use Rattle.sqlite_trees.proofs.ListLemmas.{map-map}
use Rattle.bsp_store_base.proofs.Entries.{in_order, written}
use Rattle.bsp_store_base.proofs.Base.{registered, unplaced}
use Rattle.bsp_store_columns.specs.declared.airlines.AirlineEntry.{AirlineEntry}
use Rattle.bsp_store_load.proofs.PutLemmas.{inserted, inserted_all}
use Rattle.bsp_store_load.proofs.airline_map.registered.Goals as goal

-- the registered airlines are put one after another
registered_all : (es : List (ℕ × List ℕ)) → IsStrictlySortedBy nat_cmp (keys_of es) → inserted empty (map unplaced es) ≡ registered (from_entries es)
registered_all es up =
    let made : FinMap nat_cmp AirlineEntry = from_entries (map unplaced es) in
    let rise : IsStrictlySortedBy nat_cmp (keys_of (map unplaced es)) = subst (IsStrictlySortedBy nat_cmp) (sym (map-map (λ (e : ℕ × AirlineEntry). e.0) unplaced es)) up in
    ap (inserted empty) (sym (in_order nat_cmp_total (map unplaced es) rise)) ∙ inserted_all nat_cmp_total made
    ∙ ap (λ l. from_entries (map unplaced l)) (sym (in_order nat_cmp_total es up))

pub loop-code-preserved : goal.loop-code-preserved
loop-code-preserved c =
    let made = from_entries {R = nat_cmp} c.loop-code.airlines.entries in
    let more = rest_more deref_pair c.loop-code.code-iterator c.next.new.self c.next.result (c.in-Some.code, c.in-Some.token) c.in-Some.is c.next.ensures.steps in
    ap (λ m. inserted m (map unplaced c.next.new.self)) (written nat_cmp_total nat_cmp-IsAntisymmetric c.loop-code.airlines c.insert.new.self _ _ c.in_ok-insert.ensures.updates.0)
    ∙ ap (λ l. inserted made (map unplaced l)) (sym more) ∙ c.loop-code.invariant

pub returns : goal.returns
returns c =
    let made = from_entries {R = nat_cmp} c.loop-code.airlines.entries in
    ap (λ l. inserted made (map unplaced l)) (sym (rest_all deref_pair c.loop-code.code-iterator c.next.new.self c.next.result c.in-None.is c.next.ensures.steps))
    ∙ c.loop-code.invariant ∙ registered_all c.args.tokens.now.entries c.len-count.ensures.ordered
