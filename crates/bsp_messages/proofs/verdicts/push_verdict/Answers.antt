use Rattle.std.proofs.Common.{◌++◌, ◌∙◌, List, ℕ, ap, sym, codes}
use Rattle.bsp_messages.specs.VerdictTexts.{outcome_text}
use Rattle.bsp_messages.proofs.TextLemmas.{appended, verdict_text}
use Rattle.bsp_messages.proofs.verdicts.push_verdict.Goals as goal

pub returns : goal.returns
returns c =
    appended c.args.text.now.items _ _ _ _ _ _
    c.in_ok-extend_from_slice.ensures.items c.in_ok-extend_from_slice-2.ensures.items c.in_ok-push_outcome.ensures
    ∙ ap (λ (t : List ℕ). c.args.text.now.items ++ t)
    (ap (λ (n : List ℕ). codes "{\"n\":" ++ (n ++ outcome_text c.args.verdict)) (c.as_bytes.ensures.value ∙ c.format.ensures.text)
    ∙ sym (verdict_text c.args.number c.args.verdict))
