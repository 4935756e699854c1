use Rattle.bsp_desk.proofs.BooksAlike.{books_alike, runs_alike}
use Rattle.bsp_desk.proofs.laws.books_reply_alike.Goals as goal

pub returns-clause-runs : goal.returns-clause-runs
returns-clause-runs g c = runs_alike

pub returns-clause-books : goal.returns-clause-books
returns-clause-books g c = books_alike g.A.Book.means g.B.Book.means
