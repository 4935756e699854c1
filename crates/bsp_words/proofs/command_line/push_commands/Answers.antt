use Rattle.bsp_words.specs.Commands.{shape_at}
use Rattle.bsp_words.specs.Filling.{shapes_in}
use Rattle.bsp_words.proofs.FillingLemmas.{all_of, one_more}
use Rattle.bsp_words.proofs.command_line.push_commands.Goals as goal

pub loop-row-preserved : goal.loop-row-preserved
loop-row-preserved c =
    one_more shape_at c.args.rows.now c.loop-row.row-index _ (shapes_in c.args.commands.now.items) (shapes_in c.loop-row.commands.items) (shapes_in c.push_command.new.commands.items) c.loop-row-test.true c.loop-row.invariant
    c.in_ok-push_command.ensures

pub returns : goal.returns
returns c =
    all_of shape_at c.args.rows.now c.loop-row.row-index (shapes_in c.args.commands.now.items) (shapes_in c.loop-row.commands.items) c.loop-row-test.false c.loop-row.invariant
