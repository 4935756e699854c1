use Rattle.std.proofs.Common.{◌≡◌, ◌∙◌, refl, arith, to_z, of_z, w64}
use Rattle.std.proofs.lemmas.Int.{ints, to_z-of_z}
use Rattle.std.proofs.lemmas.Bool.Decides.{Decides-int_eq}
use Rattle.std.specs.Int.{w128}
use Rattle.bsp_rules.proofs.CommissionLemmas.{commission_from_test, commission_number}
use Rattle.bsp_rules.proofs.rounding.commission.Goals as goal

-- the amount that is returned is the one that `rounded` gave
told : (c : goal.After-rounded) → to_z w64 (of_z w64 (to_z w128 (of_z w128 c.rounded.result))) ≡ c.rounded.result
told c = let f = c.rounded.ensures.fits c.requires in grind (arith, ints)

pub returns-clause-only : goal.returns-clause-only
returns-clause-only c k =
    let e = rw (to_z-of_z _ _ c.ranges.basis) at (c.rounded.ensures.value k) in
    rw (told c) e

pub returns-clause-value : goal.returns-clause-value
returns-clause-value c =
    let k = c.rounded.result in
    let e = rw (to_z-of_z _ _ c.ranges.basis) at (c.rounded.ensures.value k) in
    rw (told c) (commission_from_test c.args.rate c.args.basis k (e ∙ (Decides-int_eq k k).1 refl))

pub returns-clause-number : goal.returns-clause-number
returns-clause-number c =
    let k = c.rounded.result in
    let e = rw (to_z-of_z _ _ c.ranges.basis) at (c.rounded.ensures.value k) in
    rw (told c) (commission_number c.args.rate c.args.basis k (e ∙ (Decides-int_eq k k).1 refl))

pub returns-clause-size : goal.returns-clause-size
returns-clause-size c =
    let within = rw (to_z-of_z _ _ c.ranges.basis) at (c.rounded.ensures.size c.requires) in
    rw (told c) within
