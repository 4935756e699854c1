use Rattle.std.proofs.Common.{inr, refl}
use Rattle.bsp_check.proofs.ret_report.refusal_report.Goals as goal

pub returns : goal.returns
returns c = λ bytes is. (inr (refl, record { fault = c.args.refusal.fault; is_first = is.is_first; text_is = c.in_ok-fault_line.ensures }), is.says)
