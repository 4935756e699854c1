use Rattle.std.proofs.Common.{map, take}
use Rattle.std.specs.List.{FoldsTo}
use Rattle.bsp_judge.specs.Asked.{Takes}
use Rattle.bsp_judge.specs.Asked.Task.{Close}
use Rattle.bsp_judge.specs.Steps.{IsSettled, rows_in}
use Rattle.bsp_judge.proofs.stating.close_all.Given as goal

abbrev pub invariant-loop-place : goal.invariant-loop-place
invariant-loop-place l = record {
  taken : FoldsTo Takes (rows_in l.initial.desk.book) (map (λ code. Close code) (take l.place l.codes)) (rows_in l.desk.book);
  settled : IsSettled l.desk.book;
}
