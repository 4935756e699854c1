use Rattle.std.proofs.Common.{◌≡◌, ◌<◌, ◌+◌, ◌++◌, ◌∷◌, ◌∙◌, [], List, ap, arith, get_or, length, refl, sym, take, take_all, ℕ}
use Rattle.std.proofs.lemmas.List.{drop-replicate, drop-set-lt, map-append, map_more, take_more_set}
use Rattle.std.proofs.lemmas.Grind.{common_steps}
use Rattle.std.proofs.Math.ListN.{set}
use Rattle.sqlite_value.specs.declared.value.ValueRef.{ValueRef}
use Rattle.sqlite_value.specs.declared.value.ValueRef.TheVariants.{Null}
use Rattle.sqlite.specs.Values.{bound, bound_value}
use Rattle.sqlite_value.specs.Value.{owned}
use Rattle.bsp_store_columns.specs.Cells.{cell, widest, written}
use Rattle.bsp_store_columns.specs.declared.cells.Cell.{Cell}
use Rattle.bsp_store_columns.proofs.cells.values_of.Goals as goal

-- the value of the next cell is put behind those before it
one_more : (cells : List Cell) (values : List ValueRef) (i : ℕ) (d : Cell) (v : ValueRef) → i < length cells → i < length values → bound_value (owned v) ≡ cell (get_or cells i d)
    → bound (take i values) ≡ written (take i cells) → bound (take (i + 1) (set values i v)) ≡ written (take (i + 1) cells)
one_more cells values i d v below room is so_far =
    ap bound (take_more_set values i v room) ∙ map-append (λ (w : ValueRef). bound_value (owned w)) (take i values) (v ∷ []) ∙ (λ j. so_far j ++ is j ∷ []) ∙ sym (map_more cell cells i d below)

pub loop-at-init : goal.loop-at-init
loop-at-init c = record { wide = refl; so_far = refl; rest = λ k _. refl }

pub loop-at-preserved : goal.loop-at-preserved
loop-at-preserved c =
    let i = c.loop-at in
    record {
      wide = grind (arith, common_steps, i.invariant.wide);
      so_far = one_more c.args.cells.now i.values i.at c.index-cells-at.result c.value.result c.loop-at-test.true (omega (arith, c.requires, c.loop-at-test.true, i.invariant.wide)) (c.value.ensures ∙ ap cell c.index-cells-at.is) i.invariant.so_far;
      rest = λ k behind. drop-set-lt k i.values i.at c.value.result (omega (arith, behind)) ∙ i.invariant.rest k (omega (arith, behind));
    }

pub returns-clause-values : goal.returns-clause-values
returns-clause-values c =
    let i = c.loop-at in
    let whole : i.at ≡ length c.args.cells.now = omega (arith, c.loop-at-test.false, i.auto.at-end) in
    ap (λ n. bound (take n i.values)) (sym whole) ∙ i.invariant.so_far ∙ ap written (take_all i.at c.args.cells.now c.loop-at-test.false)

pub returns-clause-rest : goal.returns-clause-rest
returns-clause-rest c =
    let i = c.loop-at in
    i.invariant.rest (length c.args.cells.now) (omega (arith, c.loop-at-test.false, i.auto.at-end)) ∙ drop-replicate (length c.args.cells.now) widest Null
