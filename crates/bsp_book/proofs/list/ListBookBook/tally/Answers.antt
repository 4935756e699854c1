use Rattle.std.proofs.Common.{rules}
use Rattle.bsp_book.proofs.list.ListBookBook.tally.Goals as goal

pub returns : goal.returns
returns c = search rules
