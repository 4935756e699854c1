use Rattle.std.proofs.Common.{rules}
use Rattle.bsp_book.proofs.list.ListBookBook.commit.Goals as goal

pub returns-clause-ok : goal.returns-clause-ok
returns-clause-ok c = search rules
