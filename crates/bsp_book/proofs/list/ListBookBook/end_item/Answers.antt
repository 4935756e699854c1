use Rattle.bsp_book.proofs.Writing.{undone}
use Rattle.bsp_book.proofs.list.ListBookBook.end_item.Goals as goal

pub returns-in-Err : goal.returns-in-Err
returns-in-Err c = record {
  ok = tt;
  fault = undone _ _ _ _ c.undo.ensures.undone c.undo.ensures.fault c.in-Err.ensures.committed c.in-Err.ensures.was_derived;
}
