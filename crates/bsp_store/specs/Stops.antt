-- What an opening finds after a stop.
use Rattle.std.specs.Prelude.{◌≡◌, ◌⊎◌, false, IfErr, IfOk, None, Result}
use Rattle.bsp_store_base.specs.Sqlite.{Ghosts, HasCleanDisk, Held, IsClean, state, Trees}
use Rattle.bsp_store_base.specs.Entries.{Rows, Sound}
use Rattle.bsp_store_open.specs.Faults.{is_refusal}
use Rattle.bsp_store_open.specs.Formed.{IsBook}
use Rattle.bsp_store_open.specs.declared.fault.OpenFault.{OpenFault}
use Rattle.bsp_store_open.specs.Migrating.{IsOldBook}
use Rattle.bsp_store_open.specs.declared.old_versions.OldVersion.{OldVersion}
use Rattle.bsp_store.specs.Adopting.{LeavesWhole}
use Rattle.bsp_store.specs.Keeping.{LeavesOne}
use Rattle.bsp_store.specs.Meanings.{Holds, SqlBook}

-- trees with the tables of a book, of this version or of an earlier one, and nothing else, which keep these rows
abbrev pub IsAnyBook : Rows → Trees → Type 0
IsAnyBook rows trees = IsBook rows trees ⊎ ((version : OldVersion) × IsOldBook version rows trees)

module _ {S : Type 0} (g : Ghosts S) where
  -- while the disk is clean, an opening that succeeds finds these rows, and none is refused for what the store has: with
  -- `OtherVersion` or `Damaged`
  pub record FindsRows (rows : Rows) (result : Result (SqlBook S) (OpenFault × S)) : Type 0 where
    pub found : IfOk result (λ book. HasCleanDisk (state g book.conn) → Holds g book rows None)
    pub opened : IfErr result (λ e. IsClean (g.view e.1) → is_refusal e.0 ≡ false)

  -- the connection shows the whole of a book's tables, of whichever version, with sound rows: the opening finds these
  abbrev pub FindsBook : Held S → Result (SqlBook S) (OpenFault × S) → Type 0
  FindsBook h result = (rows : Rows) → Sound rows → IsAnyBook rows (state g h).committed.trees → FindsRows rows result

  -- a stop leaves these rows, in tables of whichever version
  abbrev pub LeavesRows : Held S → Rows → Type 0
  LeavesRows h rows = HasCleanDisk (state g h) → (db : Trees) → (state g h).may_leave db → IsAnyBook rows db

-- where a stop leaves one of two books, and a connection is opened over a store that shows what it left, the opening of
-- that connection finds one of the two
abbrev pub StopsAreFound : {S : Type 0} → Ghosts S → Type 0
StopsAreFound {S} g =
    (before now : Held S) (a b : Rows) (result : Result (SqlBook S) (OpenFault × S)) → LeavesOne g before a b → Sound a → Sound b → HasCleanDisk (state g before)
    → (state g before).may_leave (state g now).committed.trees → FindsBook g now result → FindsRows g a result ⊎ FindsRows g b result

-- where a store has a book of whichever version, and an opening of it fails, what a stop then leaves has the same rows, and
-- the opening after that finds them
abbrev pub OpeningsAreFound : {S : Type 0} → Ghosts S → Type 0
OpeningsAreFound {S} g =
    (before now : Held S) (left : S) (rows : Rows) (result : Result (SqlBook S) (OpenFault × S)) → Sound rows → IsAnyBook rows (state g before).committed.trees → LeavesRows g before rows
    → LeavesWhole g before left → IsClean (g.view left) → g.recovers left (state g now).committed.trees → FindsBook g now result → IsAnyBook rows (state g now).committed.trees × FindsRows g rows result
