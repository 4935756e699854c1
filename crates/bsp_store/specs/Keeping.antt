-- What keeps the rows of a book in memory.
use Rattle.std.specs.Prelude.{◌⊎◌, Some}
use Rattle.bsp_store_base.specs.Sqlite.{Ghosts, HasCleanDisk, Held, state, Trees}
use Rattle.bsp_rows.specs.Rows.{Rows}
use Rattle.bsp_book.specs.Calls.{Meaning}
use Rattle.bsp_store_open.specs.Contents.{IsContentOf}
use Rattle.bsp_store_open.specs.Formed.{AreFormed, IsBook}
use Rattle.bsp_store_base.specs.Base.{Content, form, HasCommitted}

-- where it keeps the rows with which the open transaction of the book began, this holds of them and of the rows now
abbrev pub IfKept : {L C : Type 0} → Meaning L Rows → (C → Rows → Type 0) → L → C → (Rows → Rows → Type 0) → Type 0
IfKept m keeps book it P = (now last : Rows) → m.holds book now (Some last) → AreFormed now → AreFormed last → keeps it last → P last now

module _ {S : Type 0} (g : Ghosts S) where
  -- a stop leaves one of these rows
  abbrev pub LeavesOne : Held S → Rows → Rows → Type 0
  LeavesOne h a b = HasCleanDisk (state g h) → (db : Trees) → (state g h).may_leave db → IsBook a db ⊎ IsBook b db

  -- the tables have the first rows, and a transaction that was to make them the second is to be given up
  pub record HasStopped (h : Held S) (last now : Rows) : Type 0 where
    pub was_formed : AreFormed last
    pub formed : AreFormed now
    pub before : Content
    pub after : Content
    pub before_of : IsContentOf last before
    pub after_of : IsContentOf now after
    pub committed : HasCommitted form g h before before after
