use Rattle.bsp_words.specs.Commands.{rule_at}
use Rattle.bsp_words.specs.Filling.{rules_in}
use Rattle.bsp_words.proofs.FillingLemmas.{all_of, argument_added, one_more}
use Rattle.bsp_words.proofs.command_line.push_arguments.Goals as goal

pub loop-row-preserved : goal.loop-row-preserved
loop-row-preserved c =
    one_more rule_at c.args.rows.now c.loop-row.row-index _ (rules_in c.args.arguments.now.items) (rules_in c.loop-row.arguments.items) (rules_in c.push.new.items.items) c.loop-row-test.true c.loop-row.invariant
    (argument_added c.loop-row.arguments.items c.push.new.items.items c.argument.result _ c.argument.ensures.rule c.argument.ensures.local c.in_ok-push.ensures)

pub returns : goal.returns
returns c =
    all_of rule_at c.args.rows.now c.loop-row.row-index (rules_in c.args.arguments.now.items) (rules_in c.loop-row.arguments.items) c.loop-row-test.false c.loop-row.invariant
