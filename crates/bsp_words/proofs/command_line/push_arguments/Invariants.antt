use Rattle.std.proofs.Common.{◌≡◌, ◌++◌, map, take}
use Rattle.bsp_words.specs.Commands.{rule_at}
use Rattle.bsp_words.specs.Filling.{of_one, rules_in}
use Rattle.bsp_words.proofs.command_line.push_arguments.Given as goal

abbrev pub invariant-loop-row : goal.invariant-loop-row
invariant-loop-row l = rules_in l.arguments.items ≡ rules_in l.initial.arguments.items ++ of_one (map rule_at (take l.row-index l.rows))
