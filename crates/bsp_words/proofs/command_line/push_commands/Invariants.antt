use Rattle.std.proofs.Common.{◌≡◌, ◌++◌, map, take}
use Rattle.bsp_words.specs.Commands.{shape_at}
use Rattle.bsp_words.specs.Filling.{of_one, shapes_in}
use Rattle.bsp_words.proofs.command_line.push_commands.Given as goal

abbrev pub invariant-loop-row : goal.invariant-loop-row
invariant-loop-row l = shapes_in l.commands.items ≡ shapes_in l.initial.commands.items ++ of_one (map shape_at (take l.row-index l.rows))
