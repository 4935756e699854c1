use Rattle.std.proofs.Common.{refl, sym}
use Rattle.bsp_rows.proofs.StockLemmas.{none_apart}
use Rattle.bsp_book.proofs.list.ListBook.new.Goals as goal

pub returns : goal.returns
returns c = record {
  rows = sym c.new.ensures.rows;
  committed = sym c.new.ensures.committed;
  is_open = refl;
  apart = none_apart;
  was_apart = none_apart;
  derived = c.new.ensures.derived;
  was_derived = c.new.ensures.was_derived;
}
