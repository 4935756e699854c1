use Rattle.std.proofs.Common.{◌≡◌, ◌∙◌, ◌%◌, ap, refl, arith}
use Rattle.std.specs.Int.{w128}
use Rattle.std.specs.Prelude.{unsigned_abs}
use Rattle.std.specs.Fmt.{styled_decimal}
use Rattle.std.proofs.lemmas.Int.{to_z-of_z}
use Rattle.bsp_fields.specs.Decimal.{fixed_digits}
use Rattle.bsp_fields.proofs.MoneyLemmas.{two_places}
use Rattle.bsp_fields.proofs.money.write_money.Goals as goal
use Rattle.bsp_fields.proofs.money.write_money.Goals.{then-amount-lt0, else-amount-lt0}

pub returns : goal.returns
returns c =
    let same = to_z-of_z w128 c.args.amount c.ranges.amount in
    let size : c.unsigned_abs-size.result ≡ unsigned_abs c.args.amount = rw same at c.unsigned_abs-size.ensures.value in
    let cents : styled_decimal c.laid_out.result (c.unsigned_abs-size.result % 100) ≡ fixed_digits 2 (c.unsigned_abs-size.result % 100) = rw c.laid_out.ensures (two_places (c.unsigned_abs-size.result % 100) (omega arith)) in
    elim c.if-amount-lt0.branch [
      | then-amount-lt0 w ↦ (let negative = rw same at w.if-amount-lt0.true in let sign = ap (λ s. s.now) w.sign-is in
          c.in_ok-format.ensures.ok ∙ rw (sign, cents, size, negative) refl)
      | else-amount-lt0 w ↦ (let positive = rw same at w.if-amount-lt0.false in let sign = ap (λ s. s.now) w.sign-is in
          c.in_ok-format.ensures.ok ∙ rw (sign, cents, size, positive) refl)
    ]
