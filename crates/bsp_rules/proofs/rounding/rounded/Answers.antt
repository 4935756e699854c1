use Rattle.std.proofs.Common.{◌∙◌, ap, arith}
use Rattle.std.proofs.lemmas.Int.{ints, to_z-of_z}
use Rattle.std.specs.Ordering.{int_eq}
use Rattle.bsp_rules.proofs.CommissionLemmas.{commission_above, commission_below, size_within}
use Rattle.bsp_rules.proofs.rounding.rounded.Goals as goal

pub returns-then-basis-lt0-clause-value : goal.returns-then-basis-lt0-clause-value
returns-then-basis-lt0-clause-value c k =
    let s = c.rounded_size-size.result in
    let e = rw (to_z-of_z _ _ c.ranges.basis) at c.unsigned_abs.ensures.value in
    let n = rw (to_z-of_z _ _ c.ranges.basis) at c.if-basis-lt0.true in
    let l = rw e at c.rounded_size-size.ensures.not_above in
    let h = rw e at c.rounded_size-size.ensures.not_below in
    commission_below c.args.rate c.args.basis s l h n k ∙ ap (int_eq k) (omega (arith, ints))

pub returns-else-basis-lt0-clause-value : goal.returns-else-basis-lt0-clause-value
returns-else-basis-lt0-clause-value c k =
    let s = c.rounded_size-size.result in
    let e = rw (to_z-of_z _ _ c.ranges.basis) at c.unsigned_abs.ensures.value in
    let n = rw (to_z-of_z _ _ c.ranges.basis) at c.if-basis-lt0.false in
    let l = rw e at c.rounded_size-size.ensures.not_above in
    let h = rw e at c.rounded_size-size.ensures.not_below in
    commission_above c.args.rate c.args.basis s l h n k ∙ ap (int_eq k) (omega (arith, ints))

pub returns-then-basis-lt0-clause-fits : goal.returns-then-basis-lt0-clause-fits
returns-then-basis-lt0-clause-fits c small =
    let within = size_within c.args.rate c.unsigned_abs.result c.rounded_size-size.result small c.rounded_size-size.ensures.not_above in
    let e = rw (to_z-of_z _ _ c.ranges.basis) at c.unsigned_abs.ensures.value in
    let n = rw (to_z-of_z _ _ c.ranges.basis) at c.if-basis-lt0.true in
    grind (arith, ints)

pub returns-else-basis-lt0-clause-fits : goal.returns-else-basis-lt0-clause-fits
returns-else-basis-lt0-clause-fits c small =
    let within = size_within c.args.rate c.unsigned_abs.result c.rounded_size-size.result small c.rounded_size-size.ensures.not_above in
    let e = rw (to_z-of_z _ _ c.ranges.basis) at c.unsigned_abs.ensures.value in
    let n = rw (to_z-of_z _ _ c.ranges.basis) at c.if-basis-lt0.false in
    grind (arith, ints)

pub returns-then-basis-lt0-clause-size : goal.returns-then-basis-lt0-clause-size
returns-then-basis-lt0-clause-size c small =
    let within = size_within c.args.rate c.unsigned_abs.result c.rounded_size-size.result small c.rounded_size-size.ensures.not_above in
    let e = rw (to_z-of_z _ _ c.ranges.basis) at c.unsigned_abs.ensures.value in
    grind (arith, ints)

pub returns-else-basis-lt0-clause-size : goal.returns-else-basis-lt0-clause-size
returns-else-basis-lt0-clause-size c small =
    let within = size_within c.args.rate c.unsigned_abs.result c.rounded_size-size.result small c.rounded_size-size.ensures.not_above in
    let e = rw (to_z-of_z _ _ c.ranges.basis) at c.unsigned_abs.ensures.value in
    grind (arith, ints)
