use Rattle.std.proofs.Common.{◌≡◌, ℤ, eqb, sym, ap, ◌∙◌, refl, rules, of_z, to_z}
use Rattle.std.specs.Int.{w128}
use Rattle.std.specs.Prelude.{FitsSigned}
use Rattle.std.specs.Ordering.{int_eq}
use Rattle.std.proofs.lemmas.Int.{to_z-of_z}
use Rattle.std.proofs.lemmas.Bool.{eqb-true, eq-eqb}
use Rattle.std.proofs.lemmas.Bool.Decides.{same_from_decides, Decides-int_eq}
use Rattle.bsp_hot_records.specs.Sums.{has_totals}
use Rattle.bsp_hot_records.proofs.totals.Sums.has.Goals as goal

-- `==` at numbers in the places of an `i128`
same_stored : (a b r : ℤ) → FitsSigned w128 a → FitsSigned w128 r → r ≡ b → eqb (of_z w128 a) (of_z w128 r) ≡ int_eq a b
same_stored a b r fits also is_b =
    rw (← is_b) (same_from_decides _ _ (λ e. sym (to_z-of_z w128 a fits) ∙ ap (to_z w128) (eqb-true _ _ e) ∙ to_z-of_z w128 r also, λ e. eq-eqb _ _ (ap (of_z w128) e)) (Decides-int_eq a r))

pub returns-then-is_same : goal.returns-then-is_same
unfolding has_totals
returns-then-is_same c = rw (← c.if-is_same.ensures) (search (rules, same_stored))

pub returns-else-is_same : goal.returns-else-is_same
unfolding has_totals
returns-else-is_same c = rw (c.if-is_same.false, ← c.if-is_same.ensures) refl
