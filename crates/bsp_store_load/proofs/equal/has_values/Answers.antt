use Rattle.bsp_store_base.proofs.Std.{◌+◌, ◌<◌, ◌∙◌, ◌≡◌, ◌≤◌, arith, get_or, get_or-map, length, length-map, List, sym, take, take_all, take_more_same, ℕ}
use Rattle.bsp_store_base.specs.Sqlite.{bound, bound_value, column, Null, owned, Row}
use Rattle.sqlite_value.specs.declared.value.ValueRef.{ValueRef}
use Rattle.bsp_store_load.proofs.equal.has_values.Goals as goal

-- the columns of a row, one after another
long : (values : List ValueRef) → length (bound values) ≡ length values
long values = length-map values (λ w. bound_value (owned w))

same_so_far : (row : Row) (values : List ValueRef) (i : ℕ) (d : ValueRef) → length row ≡ length values → i < length values
    → column row i ≡ bound_value (owned (get_or values i d)) → take i row ≡ take i (bound values) → take (i + 1) row ≡ take (i + 1) (bound values)
same_so_far row values i d same below at so_far =
    let m = long values in
    take_more_same row (bound values) i Null (omega arith) (omega arith) so_far (at ∙ sym (get_or-map (λ w. bound_value (owned w)) values i d Null below))

same_whole : (row : Row) (values : List ValueRef) (i : ℕ) → length row ≡ length values → length values ≤ i → take i row ≡ take i (bound values) → row ≡ bound values
same_whole row values i same end so_far =
    let m = long values in
    sym (take_all i row (omega arith)) ∙ so_far ∙ take_all i (bound values) (omega arith)

pub loop-at-preserved : goal.loop-at-preserved
loop-at-preserved c = same_so_far c.args.row.now c.args.values.now c.loop-at.at _ (omega arith) c.loop-at-test.true (c.is_in_column.ensures.same c.if-not-is_in_column.false) c.loop-at.invariant

pub returns-clause-same : goal.returns-clause-same
returns-clause-same c = λ _. same_whole c.args.row.now c.args.values.now c.loop-at.at (omega arith) (omega arith) c.loop-at.invariant
