use Rattle.std.proofs.Common.{refl}
use Rattle.bsp_rows.specs.Writes.{with_memo}
use Rattle.bsp_book.proofs.Writing.{answered, made, undone}
use Rattle.bsp_book.proofs.list.ListBookBook.add_memo.Goals as goal

pub returns-in-Ok : goal.returns-in-Ok
returns-in-Ok c = record {
  ok = λ now last may h. made _ _ (with_memo c.args.memo.now) now last h refl c.in-Ok.ensures.ok c.in-Ok.ensures.committed c.in-Ok.ensures.derived c.in-Ok.ensures.was_derived h.apart;
  fault = answered _ _ _;
}

pub returns-in-Err : goal.returns-in-Err
returns-in-Err c = record {
  ok = tt;
  fault = undone _ _ _ _ c.undo.ensures.undone c.undo.ensures.fault c.in-Err.ensures.committed c.in-Err.ensures.was_derived;
}
