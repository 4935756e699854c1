use Rattle.std.proofs.Common.{◌≡◌, ◌++◌, codes, false, take}
use Rattle.bsp_messages.specs.Answers.{verdicts_from}
use Rattle.bsp_messages.proofs.TextLemmas.{items_so_far}
use Rattle.bsp_messages.proofs.verdicts.results_text.Given as goal

abbrev pub invariant-loop-index : goal.invariant-loop-index
invariant-loop-index l = l.text.items ≡ codes "{\"results\":[" ++ items_so_far false (verdicts_from 1 (take l.index l.verdicts))
