use Rattle.std.proofs.Common.{append-nil, append_assoc, ◌∙◌}
use Rattle.std.proofs.lemmas.Result.{on_ok_weaker}
use Rattle.bsp_check.specs.HotLines.{listed_totals_text}
use Rattle.bsp_check.proofs.hot_lines.push_totals.Goals as goal

pub returns : goal.returns
unfolding listed_totals_text
returns c =
    on_ok_weaker
    c.push_amounts.result
    (λ was. was ∙ simp (c.in_ok-push_all.ensures, c.as_bytes.ensures.value, c.in_ok-documents.ensures.ok, append_assoc, append-nil))
    c.push_amounts.ensures
