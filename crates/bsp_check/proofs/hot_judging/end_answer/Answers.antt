use Rattle.bsp_ret.specs.Lines.{lines}
use Rattle.bsp_hot_explain.proofs.HeadingLemmas.{heading_of_state}
use Rattle.bsp_check.proofs.HotLemmas.{says_of_missing}
use Rattle.bsp_check.proofs.hot_judging.end_answer.Goals as goal

pub returns-in-Some : goal.returns-in-Some
returns-in-Some c = λ bytes is. (c.in-Some.ensures.found (lines bytes) is, heading_of_state (lines bytes) c.args.at.now is)

pub returns-in-None : goal.returns-in-None
returns-in-None c = λ bytes is.
    says_of_missing bytes c.args.at.now c.explain_missing.result is c.explain_missing.ensures.number (c.in-None.ensures.missing (lines bytes) is)
