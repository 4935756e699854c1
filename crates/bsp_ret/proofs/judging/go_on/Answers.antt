use Rattle.std.proofs.Common.{◌∙◌, ap, arith}
use Rattle.std.specs.Int.{w64}
use Rattle.std.proofs.lemmas.Int.{to_z-of_z, fits_signed_from_abs}
use Rattle.bsp_ret.specs.Judging.{with_payment}
use Rattle.bsp_ret.proofs.judging.go_on.Goals as goal

pub returns-in-Form-clause-goes_on : goal.returns-in-Form-clause-goes_on
returns-in-Form-clause-goes_on c =
    let same = to_z-of_z w64 c.get.result (fits_signed_from_abs w64 c.get.result (omega (arith, c.get.ensures.bound))) in
    rw c.in-Form.is (c.with_payment.ensures.value ∙ ap (with_payment c.args.begun) (same ∙ c.get.ensures.value))
