use Rattle.std.proofs.Common.{sym, ◌∙◌}
use Rattle.bsp_fields.specs.Lines.{lines}
use Rattle.bsp_explain.proofs.FaultLemmas.{clear_file, says_of_missing}
use Rattle.bsp_explain.proofs.explanation.explain_ret.Goals as goal

pub returns-then-has_ended-clause-none : goal.returns-then-has_ended-clause-none
returns-then-has_ended-clause-none c =
    clear_file (lines c.args.text.now) c.in-Ok.at c.in-Ok.ensures.state c.in-Ok.ensures.clear (sym c.has_ended.ensures ∙ c.if-has_ended.true)

pub returns-else-has_ended-clause-explained : goal.returns-else-has_ended-clause-explained
returns-else-has_ended-clause-explained c =
    says_of_missing (lines c.args.text.now) c.in-Ok.at c.explain_missing.result c.in-Ok.ensures.state c.in-Ok.ensures.clear (sym c.has_ended.ensures ∙ c.if-has_ended.false) c.explain_missing.ensures.number c.explain_missing.ensures.trailer
