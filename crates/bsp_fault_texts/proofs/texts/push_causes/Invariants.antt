use Rattle.std.proofs.Common.{◌≡◌, ◌++◌, take}
use Rattle.std.specs.List.{flat_map}
use Rattle.bsp_fault_texts.specs.Texts.{cause_text}
use Rattle.bsp_fault_texts.proofs.texts.push_causes.Given as goal

abbrev pub invariant-loop-cause : goal.invariant-loop-cause
invariant-loop-cause l = l.text.items ≡ l.initial.text.items ++ flat_map (λ cause. cause_text cause.now) (take l.cause-index l.causes)
