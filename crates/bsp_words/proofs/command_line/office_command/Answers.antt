use Rattle.std.proofs.Common.{codes}
use Rattle.clap.specs.Simple.{on_top}
use Rattle.clap.specs.Words.{new_app}
use Rattle.bsp_words.specs.CommandLine.{needs_subcommand, office_shapes}
use Rattle.bsp_words.proofs.FillingLemmas.{filled_from}
use Rattle.bsp_words.proofs.command_line.office_command.Goals as goal

pub returns : goal.returns
returns c =
    filled_from c.program.result (on_top needs_subcommand (new_app (codes "bsp_office"))) c.push_office.new.commands.items
    office_shapes c.subcommands.result
    c.program.ensures (rw (c.new-filled.ensures.items) at c.in_ok-push_office.ensures) c.subcommands.ensures
