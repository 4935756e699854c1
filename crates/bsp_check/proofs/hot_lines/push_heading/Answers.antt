use Rattle.std.proofs.Common.{◌∙◌}
use Rattle.std.proofs.lemmas.Result.{on_ok_weaker}
use Rattle.bsp_check.specs.HotLines.{heading_text}
use Rattle.bsp_check.proofs.hot_lines.push_heading.Goals as goal

pub returns : goal.returns
unfolding heading_text
returns c = on_ok_weaker c.push_all.result (λ was. was ∙ simp (c.digits-airline.ensures.text, c.digits-period.ensures.text)) c.push_all.ensures
