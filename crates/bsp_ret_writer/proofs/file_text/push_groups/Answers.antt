use Rattle.std.proofs.Common.{arith}
use Rattle.bsp_ret_writer.proofs.WrittenFile.{more_written}
use Rattle.bsp_ret_writer.proofs.file_text.push_groups.Goals as goal

pub loop-index-preserved : goal.loop-index-preserved
loop-index-preserved c =
    more_written c.args.out.now.items c.loop-index.out.items c.push_group.new.out.items c.args.file.now.groups c.loop-index.index c.in-Some.found (omega (arith, c.loop-index-test.true, c.transactions-index-end.ensures, c.loop-index.auto.index-end)) c.loop-index.invariant c.in-Some.ensures c.stored.ensures c.in_ok-push_group.ensures
