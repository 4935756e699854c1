use Rattle.std.proofs.Common.{List, ℕ, ◌++◌, ap, append_assoc, ◌∙◌, sym}
use Rattle.std.proofs.lemmas.List.Folds.{flat_map-map}
use Rattle.std.proofs.lemmas.Result.{on_ok_weaker}
use Rattle.bsp_fault_texts.specs.Texts.{cause_text, said_text}
use Rattle.bsp_fault_texts.proofs.texts.push_entry.Goals as goal

pub returns : goal.returns
unfolding said_text
returns c =
    on_ok_weaker
    c.push_causes.result
    (λ was.
    was
    ∙ ap (λ (l : List ℕ). c.push_all.new.text.items ++ l) (sym (flat_map-map cause_text (λ cause. cause.now) c.args.entry.now.causes.now))
    ∙ simp (c.in_ok-push_all.ensures, c.in_ok-push_status.ensures, append_assoc))
    c.push_causes.ensures
