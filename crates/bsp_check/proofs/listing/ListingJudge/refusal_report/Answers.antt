use Rattle.std.proofs.Common.{refl}
use Rattle.std.specs.Prelude.{true}
use Rattle.bsp_check.proofs.listing.ListingJudge.refusal_report.Goals as goal

pub returns : goal.returns
returns c = λ bytes is. c.refusal_report.ensures true bytes (is bytes refl)
