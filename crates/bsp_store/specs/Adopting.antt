-- What an opening makes of a store: a book, or why it is refused.
use Rattle.std.specs.Prelude.{◌≡◌, ◌⊎◌, Result, IfErr, IfOk, true, None}
use Rattle.bsp_store_base.specs.Sqlite.{Ghosts, HasCleanDisk, Held, IsClean, state, Trees}
use Rattle.bsp_store_base.specs.Entries.{no_rows, Rows, Sound}
use Rattle.bsp_store_open.specs.Contents.{KeepsBook}
use Rattle.bsp_store_open.specs.Faults.{is_refusal}
use Rattle.bsp_store_open.specs.Formed.{IsBook}
use Rattle.bsp_store_open.specs.Opening.{IsAskedVersion, IsNoBook, KeepsOnly, Reopens}
use Rattle.bsp_store_open.specs.Schema.{no_schema, our_schema}
use Rattle.bsp_store_open.specs.declared.fault.OpenFault.{OpenFault}
use Rattle.bsp_store_open.specs.Migrating.{IsMigrationOf, KeepsOldBook, KeepsOnlyOld, ShowsNoOldBook}
use Rattle.bsp_store_open.specs.Old.{old_schema}
use Rattle.bsp_store_open.specs.declared.old_versions.OldVersion.{OldVersion}
use Rattle.bsp_store.specs.Meanings.{Holds, SqlBook}

module _ {S : Type 0} (g : Ghosts S) where
  -- ---- a store with tables

  -- the book has the rows that the tables kept so, and no others, and they are sound
  pub record IsReadIn (keeps alone : Rows → Trees → Type 0) (h : Held S) (book : SqlBook S) : Type 0 where
    pub rows : Rows
    pub sound : Sound rows
    pub holds : Holds g book rows None
    pub earlier : HasCleanDisk (state g book.conn) → HasCleanDisk (state g h)
    pub found : HasCleanDisk (state g book.conn) → keeps rows (state g h).now.trees
    pub only : HasCleanDisk (state g book.conn) → alone rows (state g h).now.trees

  -- they kept them as a book of this version, or of an earlier one
  abbrev pub IsFoundIn : Held S → SqlBook S → Type 0
  IsFoundIn = IsReadIn KeepsBook KeepsOnly

  abbrev pub IsMigratedIn : OldVersion → Held S → SqlBook S → Type 0
  IsMigratedIn version = IsReadIn (KeepsOldBook version) (KeepsOnlyOld version)

  -- a stop leaves of a store that is given up what it left before, or the whole of the book that was migrated
  pub record LeavesMigrated (version : OldVersion) (h : Held S) (left : S) : Type 0 where
    pub earlier : IsClean (g.view left) → HasCleanDisk (state g h)
    pub leaves : IsClean (g.view left) → (db : Trees) → g.recovers left db → g.recovers h.store db ⊎ IsMigrationOf version (state g h).now.trees db

  -- ---- a whole opening

  -- opened again, the store showed no table
  abbrev pub WasBare : Held S → Type 0
  WasBare h = (now : Held S) × Reopens g h now × ((state g now).now.schema ≡ no_schema)

  -- opened again, the store showed the tables of an earlier version
  abbrev pub WasOld : OldVersion → Held S → Type 0
  WasOld version h = (now : Held S) × Reopens g h now × ((state g now).now.schema ≡ old_schema version)

  -- the rows are none, in a store that was bare
  abbrev pub AreNone : Held S → Held S → Rows → Type 0
  AreNone before after rows = (bare : WasBare before) × (HasCleanDisk (state g after) → HasCleanDisk (state g bare.0)) × (rows ≡ no_rows)

  -- the rows are those that the store kept, and no others, as a book of an earlier version, whose tables it showed
  abbrev pub AreMigrated : Held S → Held S → Rows → Type 0
  AreMigrated before after rows =
      (version : OldVersion) × (old : WasOld version before) × (HasCleanDisk (state g after) → HasCleanDisk (state g old.0))
      × (HasCleanDisk (state g after) → KeepsOldBook version rows (state g before).committed.trees × KeepsOnlyOld version rows (state g before).committed.trees)

  -- the rows are those that the store kept, and no others, as a book of this version or of an earlier one, or none, in a
  -- store that was bare
  abbrev pub AreThoseOf : Held S → Held S → Rows → Type 0
  AreThoseOf before after rows = (HasCleanDisk (state g after) → KeepsBook rows (state g before).committed.trees × KeepsOnly rows (state g before).committed.trees) ⊎ (AreNone before after rows ⊎ AreMigrated before after rows)

  -- the book has sound rows, those of the store
  pub record Adopts (h : Held S) (book : SqlBook S) : Type 0 where
    pub rows : Rows
    pub sound : Sound rows
    pub holds : Holds g book rows None
    pub those : AreThoseOf h book.conn rows

  -- ---- an opening that is refused

  -- a connection shows tables and no book, for what the fault says: its tables keep none, as tables of this version or of an
  -- earlier one, or they are not a book's, and that is what they are asked for their version
  pub record ShowsNone (fault : OpenFault) (h : Held S) : Type 0 where
    pub some : h.schema ≡ no_schema → ⊥
    pub ours : IsNoBook fault (state g h).now
    pub older : (version : OldVersion) → h.schema ≡ old_schema version → ShowsNoOldBook version fault (state g h).now.trees
    pub others : (h.schema ≡ our_schema → ⊥) → ((version : OldVersion) → h.schema ≡ old_schema version → ⊥) → (later : Held S) × HasCleanDisk (state g later) × IsAskedVersion g fault h later

  -- opened again, the store showed no book, for what the fault says
  abbrev pub WasNoBook : OpenFault → Held S → S → Type 0
  WasNoBook fault h left = IsClean (g.view left) → (now : Held S) × HasCleanDisk (state g now) × Reopens g h now × ShowsNone fault now

  -- the trees have the whole of a new book: an empty one where the store, opened again, showed no table, and the migrated
  -- one where it showed those of an earlier version
  abbrev pub IsNewBookOf : Held S → Trees → Type 0
  IsNewBookOf h db = ((bare : WasBare h) × HasCleanDisk (state g bare.0) × IsBook no_rows db) ⊎ ((version : OldVersion) × (old : WasOld version h) × HasCleanDisk (state g old.0) × IsMigrationOf version (state g h).committed.trees db)

  -- a stop leaves what was committed, what it left before, or the whole of a new book
  pub record LeavesWhole (h : Held S) (left : S) : Type 0 where
    pub earlier : IsClean (g.view left) → HasCleanDisk (state g h)
    pub leaves : IsClean (g.view left) → (db : Trees) → g.recovers left db → ((db ≡ (state g h).committed.trees) ⊎ g.recovers h.store db) ⊎ IsNewBookOf h db

  -- what is made of a store: a book with its rows, or a fault, for which it was no book and which leaves it whole
  pub record IsMadeOf (h : Held S) (result : Result (SqlBook S) (OpenFault × S)) : Type 0 where
    pub adopts : IfOk result (Adopts h)
    pub refused : IfErr result (λ e. is_refusal e.0 ≡ true → WasNoBook e.0 h e.1)
    pub left : IfErr result (λ e. LeavesWhole h e.1)
