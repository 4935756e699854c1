use Rattle.std.proofs.Common.{take}
use Rattle.bsp_ret_writer.specs.Writing.{AreWritten}
use Rattle.bsp_ret_writer.proofs.file_text.push_groups.Given as goal

abbrev pub invariant-loop-index : goal.invariant-loop-index
invariant-loop-index l = AreWritten l.initial.out.items (take l.index l.file.groups) l.out.items
