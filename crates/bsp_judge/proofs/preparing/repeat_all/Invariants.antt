use Rattle.std.proofs.Common.{map, take}
use Rattle.std.specs.List.{FoldsTo}
use Rattle.bsp_judge.specs.Asked.{Takes, earlier_task}
use Rattle.bsp_judge.specs.Steps.{IsSettled, rows_in}
use Rattle.bsp_judge.proofs.preparing.repeat_all.Given as goal

abbrev pub invariant-loop-place : goal.invariant-loop-place
invariant-loop-place l = record {
  taken : FoldsTo Takes (rows_in l.initial.desk.book) (map (earlier_task l.setup.agent) (take l.place l.setup.earlier.now)) (rows_in l.desk.book);
  settled : IsSettled l.desk.book;
}
