use Rattle.std.proofs.Common.{refl}
use Rattle.std.specs.Prelude.{false}
use Rattle.bsp_check.proofs.hot_judging.StandingJudge.refusal_report.Goals as goal

pub returns : goal.returns
returns c = λ bytes is. c.refusal_report.ensures false bytes (is bytes refl)
