use Rattle.std.proofs.Common.{◌∙◌}
use Rattle.std.proofs.lemmas.Result.{on_ok_weaker}
use Rattle.bsp_check.specs.HotLines.{document_key}
use Rattle.bsp_check.proofs.hot_lines.push_key.Goals as goal

pub returns : goal.returns
unfolding document_key
returns c = on_ok_weaker c.push_all.result (λ was. was ∙ simp (c.digits-number.ensures.text, c.text-code.ensures.text, c.write_digits-agent.ensures, c.number.ensures)) c.push_all.ensures
