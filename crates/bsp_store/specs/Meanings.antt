-- What a book in tables contains.
use Rattle.std.specs.Prelude.{◌≡◌, Bool, false, true, None, Option, unwrap_or, ⊤}
use Rattle.bsp_store_base.specs.Sqlite.{Error, Ghosts, Held}
use Rattle.bsp_rows.specs.Rows.{Rows}
use Rattle.bsp_book.specs.Calls.{Meaning}
use Rattle.bsp_book.specs.Listed.{meaning as listed}
use Rattle.bsp_book.specs.declared.list.ListBook.{ListBook}
use Rattle.bsp_store_open.specs.Faults.{fault_for}
use Rattle.bsp_store_open.specs.Formed.{AreFormed}
use Rattle.bsp_store_open.specs.Opening.{KeepsAtRest}
use Rattle.bsp_store_open.specs.declared.fault.OpenFault.TheVariants.{NoRoom}
use Rattle.bsp_store.specs.declared.book.KeptBook.{KeptBook}
use Rattle.bsp_store.specs.declared.book.State.{State}
use Rattle.bsp_store.specs.declared.book.State.TheVariants.{Failed, Works}

-- whether a book has failed, and the error of the store with which it has
abbrev pub is_over : State → Bool
is_over Works = false
is_over (Failed cause) = true

abbrev pub cause_of : State → Option Error
cause_of Works = None
cause_of (Failed cause) = cause

-- the store has no memory, or a row is too big for it: B01 at an opening
abbrev pub IsOfRoom : Error → Type 0
IsOfRoom error = fault_for error ≡ NoRoom

-- ---- a book in memory, and what keeps its rows

module _ {L C : Type 0} (m : Meaning L Rows) (keeps : C → Rows → Type 0) where
  -- the rows now and at `begin` are in memory, their values are such as the program's types have, and those of the last
  -- commit are kept
  pub record IsKeptBook (book : KeptBook L C) (now : Rows) (begun : Option Rows) : Type 0 where
    pub works : book.state ≡ Works
    pub listed : m.holds book.list now begun
    pub formed : AreFormed now
    pub was_formed : AreFormed (unwrap_or begun now)
    pub kept : keeps book.conn (unwrap_or begun now)

  abbrev pub meaning : (C → Rows → Rows → Type 0) → Meaning (KeptBook L C) Rows
  meaning leaves = record {
    trusts = λ book. ⊤;
    holds = IsKeptBook;
    leaves = λ book a b. leaves book.conn a b;
    has_failed = λ book. is_over book.state;
  }

-- ---- a book in tables of a store

abbrev pub SqlBook : Type 0 → Type 0
SqlBook S = KeptBook ListBook (Held S)

-- the tables have the rows of the last commit
abbrev pub Holds : {S : Type 0} → Ghosts S → SqlBook S → Rows → Option Rows → Type 0
Holds g = IsKeptBook listed (KeepsAtRest g)
