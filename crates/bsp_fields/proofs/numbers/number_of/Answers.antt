use Rattle.std.proofs.Common.{get_or, arith, ap, ◌∙◌}
use Rattle.std.proofs.lemmas.List.{take_all}
use Rattle.bsp_fields.specs.Decimal.{number_of}
use Rattle.bsp_fields.proofs.DecimalLemmas.{number_of-take_more}
use Rattle.bsp_fields.proofs.DigitLemmas.{digit_at, digit_from, number-below}
use Rattle.bsp_fields.proofs.numbers.number_of.Goals as goal

pub overflow_mul-number : goal.overflow_mul-number
overflow_mul-number c =
    omega (arith, number-below c.args.text.now c.loop-digit.digit-index c.loop-digit.number c.requires.few c.requires.digits c.loop-digit-test.true c.loop-digit.invariant)

pub overflow_sub-number : goal.overflow_sub-number
overflow_sub-number c =
    let text = c.args.text.now in
    omega (arith, digit_from (get_or text c.loop-digit.digit-index 0) (digit_at text c.loop-digit.digit-index c.loop-digit-test.true c.requires.digits))

pub overflow_add-number : goal.overflow_add-number
overflow_add-number c =
    omega (arith, number-below c.args.text.now c.loop-digit.digit-index c.loop-digit.number c.requires.few c.requires.digits c.loop-digit-test.true c.loop-digit.invariant)

pub loop-digit-preserved : goal.loop-digit-preserved
loop-digit-preserved c =
    let text = c.args.text.now in
    let inside = c.loop-digit-test.true in
    omega (arith, number_of-take_more text c.loop-digit.digit-index inside (digit_at text c.loop-digit.digit-index inside c.requires.digits), c.loop-digit.invariant)

pub returns : goal.returns
returns c =
    c.loop-digit.invariant ∙ ap number_of (take_all c.loop-digit.digit-index c.args.text.now c.loop-digit-test.false)
