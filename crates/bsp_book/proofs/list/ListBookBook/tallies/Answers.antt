use Rattle.std.proofs.Common.{rules}
use Rattle.bsp_book.proofs.list.ListBookBook.tallies.Goals as goal

pub returns-in-Ok : goal.returns-in-Ok
returns-in-Ok c = search rules
