-- What a book ends as, once a reference to its rows in memory has ended.
use Rattle.std.specs.Prelude.{Result}
use Rattle.std.specs.Borrow.{Fml, LendsIfOk, MutBor, RattleType}
use Rattle.bsp_book.specs.declared.fault.BookFault.{BookFault}
use Rattle.bsp_store.specs.declared.book.KeptBook.{KeptBook}
use Rattle.bsp_store.specs.contracts.book.KeptBook.{the_row}

-- it has the rows that the reference shows last, and at `Err` it stays as it is
abbrev pub LendsList : (L C : RattleType) → MutBor (KeptBook L.Denot C.Denot) → Result (MutBor L.Denot) BookFault → Fml
LendsList L C book r = LendsIfOk (the_row L C) L book r (λ w. record book.now { list = w }) book.now
