-- Sums with one more.
use Rattle.std.proofs.Common.{◌≡◌, List, [], ◌∷◌, ◌++◌, sym, ap, ◌∙◌, add_assoc, zero-add, add-zero, refl}
use Rattle.std.proofs.Math.IntN.{+ℤ_assoc, +ℤ_idl, +ℤ_idr}
use Rattle.bsp_hot_records.specs.declared.totals.Sums.{Sums}
use Rattle.bsp_hot_records.specs.Sums.{no_sums, add, sum_of}

pub plus_assoc : (x y z : Sums) → add (add x y) z ≡ add x (add y z)
unfolding add
plus_assoc x y z =
    rw (add_assoc x.documents y.documents z.documents, +ℤ_assoc x.cash y.cash z.cash, +ℤ_assoc x.credit y.credit z.credit, +ℤ_assoc x.commission y.commission z.commission, +ℤ_assoc x.tax y.tax z.tax) refl

pub none_left : (x : Sums) → add no_sums x ≡ x
unfolding add
none_left x = rw (zero-add x.documents, +ℤ_idl x.cash, +ℤ_idl x.credit, +ℤ_idl x.commission, +ℤ_idl x.tax) refl

pub none_right : (x : Sums) → add x no_sums ≡ x
unfolding add
none_right x = rw (add-zero x.documents, +ℤ_idr x.cash, +ℤ_idr x.credit, +ℤ_idr x.commission, +ℤ_idr x.tax) refl

pub sum_of_snoc : (xs : List Sums) (x : Sums) → sum_of (xs ++ x ∷ []) ≡ add (sum_of xs) x
sum_of_snoc [] x = none_right x ∙ sym (none_left x)
sum_of_snoc (y ∷ xs) x = ap (add y) (sum_of_snoc xs x) ∙ sym (plus_assoc y (sum_of xs) x)
