use Rattle.std.proofs.Common.{refl, sym, ap, ◌∙◌}
use Rattle.bsp_rows.specs.History.Request.{Close}
use Rattle.bsp_rows.specs.Writes.{after_request, request_answer}
use Rattle.bsp_book.proofs.Writing.{answered, made, undone}
use Rattle.bsp_book.proofs.list.ListBookBook.close.Goals as goal

pub returns-in-Ok : goal.returns-in-Ok
returns-in-Ok c = record {
  found = λ t now last h. c.in-Ok.ensures.told ∙ ap (request_answer (Close c.args.code)) (sym h.rows);
  ok = λ now last h. made _ _ (after_request (Close c.args.code)) now last h refl c.in-Ok.ensures.ok c.in-Ok.ensures.committed c.in-Ok.ensures.derived c.in-Ok.ensures.was_derived h.apart;
  fault = answered _ _ _;
}

pub returns-in-Err : goal.returns-in-Err
returns-in-Err c = record {
  found = tt;
  ok = tt;
  fault = undone _ _ _ _ c.undo.ensures.undone c.undo.ensures.fault c.in-Err.ensures.committed c.in-Err.ensures.was_derived;
}
