use Rattle.std.proofs.Common.{ap, inr, refl, ◌∙◌}
use Rattle.std.proofs.Common.{ℕ, Global, Vec}
use Rattle.bsp_check.proofs.hot_report.refusal_report.Goals as goal

pub returns : goal.returns
returns c = λ listed bytes says.
    (inr (refl, record { at = c.args.explanation.record; is_first = says.is_first; text_is = ap (λ (v : Vec ℕ Global). v.items) c.into_bytes.ensures.value ∙ c.in_ok-fault_line.ensures }), says)
