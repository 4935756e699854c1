use Rattle.std.proofs.Common.{map}
use Rattle.clap.specs.Words.{new_app}
use Rattle.bsp_words.specs.Commands.{rule_at}
use Rattle.bsp_words.proofs.FillingLemmas.{command_added}
use Rattle.bsp_words.proofs.command_line.push_command.Goals as goal

pub returns : goal.returns
returns c =
    command_added c.titled.result (new_app c.args.row.now.name.now) c.push_arguments.new.arguments.items (map rule_at c.args.row.now.arguments.now) c.args-command.result c.push_made.result
    c.args.commands.now.items c.push_made.new.items.items
    c.titled.ensures.local c.titled.ensures.app (rw (c.new-arguments.ensures.items) at c.in_ok-push_arguments.ensures) c.args-command.ensures c.push_made.ensures
