-- What an opening finds of a book of an earlier version, and what it makes of it.
use Rattle.std.specs.Prelude.{◌≡◌, ◌⊎◌, ℕ, false, true, List, ◌∷◌, map, IsPermutation, IsTrue, None}
use Rattle.bsp_store_base.specs.Sqlite.{column, Ghosts, HasCleanDisk, Held, IsDatabase, IsLive, Row, Shows, state, Trees}
use Rattle.bsp_store_base.specs.Entries.{Rows, Sound}
use Rattle.bsp_book.specs.Listed.{meaning as listed}
use Rattle.bsp_book.specs.declared.list.ListBook.{ListBook}
use Rattle.bsp_store_base.specs.Base.{columns_of, Content, count, form, IsFormed, KeepsRows, meta_part, our_schema, Reads, width_of}
use Rattle.bsp_store_load.specs.Contents.{IsContentOf}
use Rattle.bsp_store_load.specs.Formed.{AreFormed, IsBook}
use Rattle.bsp_store_open.specs.Filled.{HasOldNumber, IsOfOld, KeepsOldRows}
use Rattle.bsp_store_open.specs.Old.{old_schema}
use Rattle.bsp_store_open.specs.declared.old_versions.OldVersion.{OldVersion}
use Rattle.bsp_store_open.specs.Opening.{AreAllInOrder, KeepsAtRest, Reports}
use Rattle.bsp_store_open.specs.declared.fault.OpenFault.{OpenFault}
use Rattle.bsp_store_open.specs.declared.fault.OpenFault.TheVariants.{OtherVersion}

-- ---- the number of an earlier version

-- the first row of `meta` has this number as its version
pub record HasNumber (number : ℕ) (rows : List Row) : Type 0 where
  pub row : Row
  pub more : List Row
  pub first : rows ≡ row ∷ more
  pub version : column row 1 ≡ count number

-- all rows of `meta`, in some order
abbrev pub AreMetaOf : Trees → List Row → Type 0
AreMetaOf trees rows = IsPermutation (map (columns_of (width_of meta_part.tree)) (trees meta_part.tree)) rows

-- ---- a book that is refused

-- the trees keep no sound rows, of values that the program's types have, as a book of an earlier version
abbrev pub KeepsNoOld : OldVersion → Trees → Type 0
KeepsNoOld version trees = (rows : Rows) (c : Content) → Sound rows → IsContentOf rows c → IsFormed c → IsOfOld version c → KeepsOldRows version c trees → ⊥

-- and the rows of `meta`, in some order, are such as the fault says
pub record ShowsNoOldBook (version : OldVersion) (fault : OpenFault) (trees : Trees) : Type 0 where
  pub none : KeepsNoOld version trees
  pub meta : List Row
  pub all : AreMetaOf trees meta
  pub reports : Reports fault meta

-- the tables of an earlier version have its number, and the fault says that it is another one than this; or they keep no
-- book of it, for what the fault says
abbrev pub IsEarlier : OldVersion → OpenFault → Trees → Type 0
IsEarlier version fault trees = ((fault ≡ OtherVersion) × HasOldNumber version trees) ⊎ ShowsNoOldBook version fault trees

-- ---- a book that is migrated

-- the trees keep these rows as a book of an earlier version, which has no commission tax or second document that the
-- version does not know
abbrev pub KeepsOldBook : OldVersion → Rows → Trees → Type 0
KeepsOldBook version rows trees = (c : Content) × IsContentOf rows c × IsOfOld version c × KeepsOldRows version c trees

-- these rows are all that the trees keep so, of sound rows whose values are such as the program's types have
abbrev pub KeepsOnlyOld : OldVersion → Rows → Trees → Type 0
KeepsOnlyOld version rows trees = (other : Rows) → Sound other → AreFormed other → KeepsOldBook version other trees → other ≡ rows

-- trees with the tables of an earlier version and nothing else, which keep these rows
pub record IsOldBook (version : OldVersion) (rows : Rows) (trees : Trees) : Type 0 where
  pub formed : AreFormed rows
  pub keeps : KeepsOldBook version rows trees
  pub sound : IsDatabase (record { schema = old_schema version; trees = trees })

-- the first trees keep sound rows, and no others, as a book of an earlier version, and the second ones are those of a book
-- of this one with the same rows
abbrev pub IsMigrationOf : OldVersion → Trees → Trees → Type 0
IsMigrationOf version old new = (rows : Rows) × Sound rows × KeepsOldBook version rows old × KeepsOnlyOld version rows old × IsBook rows new

module _ {S : Type 0} (g : Ghosts S) where
  -- the tables are those of an earlier version, and their rows are in order
  pub record IsOld (version : OldVersion) (h : Held S) : Type 0 where
    pub schema : h.schema ≡ old_schema version
    pub live : IsLive (state g h)
    pub ordered : AreAllInOrder g h

  -- what was read shows that there is no book of the earlier version
  abbrev pub HasNoOldBook : OldVersion → OpenFault → Held S → Held S → Type 0
  HasNoOldBook version fault old new = HasCleanDisk (state g new) → ShowsNoOldBook version fault (state g old).now.trees

  -- the book in memory has these rows, which are sound. The tables kept them, and no others, as a book of an earlier
  -- version, and keep them as one of this version, with no open transaction
  pub record IsMigrated (version : OldVersion) (old new : Held S) (list : ListBook) (rows : Rows) : Type 0 where
    pub listed : listed.holds list rows None
    pub sound : Sound rows
    pub formed : AreFormed rows
    pub kept : KeepsAtRest g new rows
    pub earlier : HasCleanDisk (state g new) → HasCleanDisk (state g old)
    pub found : HasCleanDisk (state g new) → KeepsOldBook version rows (state g old).now.trees
    pub only : HasCleanDisk (state g new) → KeepsOnlyOld version rows (state g old).now.trees

  -- a stop leaves what it left before, or the whole of the book that was migrated
  pub record LeavesMigration (version : OldVersion) (old new : Held S) : Type 0 where
    pub earlier : HasCleanDisk (state g new) → HasCleanDisk (state g old)
    pub leaves : HasCleanDisk (state g new) → (db : Trees) → (state g new).may_leave db → (state g old).may_leave db ⊎ IsMigrationOf version (state g old).now.trees db

  -- ---- step by step

  -- all rows of `meta` were read, and the tables are as they were. They have the number of the version
  pub record IsNumbered (version : OldVersion) (old new : Held S) : Type 0 where
    pub read : Reads g old new
    pub was_open : HasCleanDisk (state g new) → IsTrue (state g old).is_open
    pub number : HasCleanDisk (state g new) → HasOldNumber version (state g old).now.trees

  -- a transaction was opened over the tables as they were
  pub record HasBegun (old new : Held S) : Type 0 where
    pub earlier : HasCleanDisk (state g new) → HasCleanDisk (state g old)
    pub shown : HasCleanDisk (state g new) → Shows (state g old) (state g new) (state g old).now (state g old).committed true

  -- what the transaction had written was committed
  pub record HasEnded (old new : Held S) : Type 0 where
    pub earlier : HasCleanDisk (state g new) → HasCleanDisk (state g old)
    pub shown : HasCleanDisk (state g new) → Shows (state g old) (state g new) (state g old).now (state g old).now false

  -- a stop leaves what it left before, or what the transaction had written
  pub record MayEnd (old new : Held S) : Type 0 where
    pub earlier : HasCleanDisk (state g new) → HasCleanDisk (state g old)
    pub leaves : HasCleanDisk (state g new) → (db : Trees) → (state g new).may_leave db → (state g old).may_leave db ⊎ (db ≡ (state g old).now.trees)

  -- the open transaction shows a content as a book of this version, which the tables kept as one of an earlier version
  pub record IsFilledWith (version : OldVersion) (old new : Held S) (c : Content) : Type 0 where
    pub earlier : HasCleanDisk (state g new) → HasCleanDisk (state g old)
    pub schema : HasCleanDisk (state g new) → (state g new).now.schema ≡ our_schema
    pub listed : HasCleanDisk (state g new) → IsDatabase (state g new).now
    pub keeps : HasCleanDisk (state g new) → KeepsRows form c (state g new).now.trees
    pub of : HasCleanDisk (state g new) → IsOfOld version c
    pub kept : HasCleanDisk (state g new) → KeepsOldRows version c (state g old).now.trees
