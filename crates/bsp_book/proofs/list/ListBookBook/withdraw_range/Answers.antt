use Rattle.std.proofs.Common.{refl}
use Rattle.bsp_rows.specs.Rows.{range_key}
use Rattle.bsp_rows.specs.Writes.{without_range}
use Rattle.bsp_rows.proofs.StockLemmas.{apart_withdrawn}
use Rattle.bsp_book.proofs.Writing.{answered, made, undone}
use Rattle.bsp_book.proofs.list.ListBookBook.withdraw_range.Goals as goal

pub returns-in-Ok : goal.returns-in-Ok
returns-in-Ok c = record {
  ok = λ now last may h. made _ _ (without_range c.args.agent c.args.range) now last h refl c.in-Ok.ensures.ok c.in-Ok.ensures.committed c.in-Ok.ensures.derived c.in-Ok.ensures.was_derived (apart_withdrawn now.ranges (range_key c.args.agent c.args.range) h.apart);
  fault = answered _ _ _;
}

pub returns-in-Err : goal.returns-in-Err
returns-in-Err c = record {
  ok = tt;
  fault = undone _ _ _ _ c.undo.ensures.undone c.undo.ensures.fault c.in-Err.ensures.committed c.in-Err.ensures.was_derived;
}
