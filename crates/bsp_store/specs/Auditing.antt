-- What an audit finds in a store.
use Rattle.std.specs.Prelude.{◌≡◌, IfErr, IfOk, IsErrAnd, length, Result, true}
use Rattle.std.specs.FinMap.{entries}
use Rattle.bsp_store_base.specs.Sqlite.{Ghosts, HasCleanDisk, Held, IsClean, over_files, state}
use Rattle.sqlite_disk.specs.declared.start.Start as starts
use Rattle.bsp_store_base.specs.Entries.{Published, Rows, Sound}
use Rattle.bsp_store_open.specs.Contents.{KeepsBook}
use Rattle.bsp_store_open.specs.Schema.{our_schema}
use Rattle.bsp_store_open.specs.Faults.{fault_for, is_refusal}
use Rattle.bsp_store_open.specs.Opening.{HasNoBook, IsAskedVersion, LeavesCommitted, Reopens}
use Rattle.bsp_store_open.specs.declared.fault.OpenFault.{OpenFault}
use Rattle.bsp_store_open.specs.declared.fault.OpenFault.TheVariants as opening
use Rattle.bsp_store_open.specs.Migrating.{IsEarlier}
use Rattle.bsp_store_open.specs.Old.{old_schema}
use Rattle.bsp_store_open.specs.declared.old_versions.OldVersion.{OldVersion}
use Rattle.bsp_store.specs.Files.{AnswersFiles}
use Rattle.bsp_store.specs.declared.audit.AuditFault.{AuditFault}
use Rattle.bsp_store.specs.declared.audit.AuditFault.TheVariants.{Damaged, OtherVersion, Failed}
use Rattle.bsp_store.specs.declared.audit.Summary.{Summary}

-- the numbers of the rows
pub record IsSummaryOf (rows : Rows) (s : Summary) : Type 0 where
  pub day : s.day ≡ rows.published.day
  pub agents : s.agents ≡ length (entries rows.agents)
  pub items : s.items ≡ length (entries rows.items)
  pub memos : s.memos ≡ length (entries rows.memos)
  pub periods : s.periods ≡ length rows.published.closed

-- the fault of an opening that an audit answers
abbrev pub fault_in : AuditFault → OpenFault
fault_in (Damaged damage) = opening.Damaged
fault_in (OtherVersion number) = opening.OtherVersion
fault_in (Failed fault) = fault

-- the plan of the rows
abbrev pub IsPlanOf : Rows → Published → Type 0
IsPlanOf rows plan = plan ≡ rows.published

-- what is answered of the rows that are found
module _ {S X : Type 0} (IsOf : Rows → X → Type 0) (g : Ghosts S) where
  -- the tables of a connection keep sound rows, and this is answered of them
  pub record IsFound (old new : Held S) (x : X) : Type 0 where
    pub rows : Rows
    pub sound : Sound rows
    pub is_of : IsOf rows x
    pub earlier : HasCleanDisk (state g new) → HasCleanDisk (state g old)
    pub kept : HasCleanDisk (state g new) → KeepsBook rows (state g old).now.trees

  -- the tables of a store keep sound rows, and this is answered of them
  pub record IsAudited (h : Held S) (left : S) (x : X) : Type 0 where
    pub rows : Rows
    pub sound : Sound rows
    pub is_of : IsOf rows x
    pub kept : IsClean (g.view left) → KeepsBook rows (state g h).committed.trees

module _ {S : Type 0} (g : Ghosts S) where
  -- a connection has no book of this version, for what the fault says: its tables keep none, they are those of an earlier
  -- version, or they are not a book's, and that is what they are asked for their version
  pub record HasNone (fault : OpenFault) (old new : Held S) : Type 0 where
    pub ours : HasNoBook g fault old new
    pub older : HasCleanDisk (state g new) → (version : OldVersion) → old.schema ≡ old_schema version → IsEarlier version fault (state g old).now.trees
    pub others : HasCleanDisk (state g new) → (old.schema ≡ our_schema → ⊥) → ((version : OldVersion) → old.schema ≡ old_schema version → ⊥) → (later : Held S) × HasCleanDisk (state g later) × IsAskedVersion g fault old later

  -- opened again, the store showed no book of this version, for what the fault says
  abbrev pub WasRefused : OpenFault → Held S → S → Type 0
  WasRefused fault h left = IsClean (g.view left) → (now : Held S) × Reopens g h now × ((later : Held S) × HasCleanDisk (state g later) × HasNone fault now later)

-- what is answered of a connection, whose store is then let go; whatever it is, a stop leaves what was committed, or what it
-- left before
pub record IsAuditOf {S X : Type 0} (IsOf : Rows → X → Type 0) (g : Ghosts S) (h : Held S) (r : Result X AuditFault) : Type 0 where
  pub left : S
  pub leaves : LeavesCommitted g h left
  pub passed : IfOk r (IsAudited IsOf g h left)
  pub refused : IfErr r (λ e. is_refusal (fault_in e) ≡ true → WasRefused g (fault_in e) h left)

-- what is answered of the files at a path
abbrev pub IsAuditAt : {T X : Type 0} → starts.Ghosts T → (Rows → X → Type 0) → Result X AuditFault → Type 0
IsAuditAt start IsOf r = AnswersFiles start (λ conn. IsAuditOf IsOf over_files conn r) (λ error. IsErrAnd r (λ e. fault_in e ≡ fault_for error))
