-- The store of the file at a path and of its log, where `start` says what they held.
use Rattle.std.specs.Prelude.{[], ◌≡◌, ◌↔◌, ◌⊎◌, false, true, IfSome, IsTrue, List, None, Option, ℕ}
use Rattle.sqlite_disk.specs.Events.{replay}
use Rattle.sqlite_disk.specs.History.{MayLeave}
use Rattle.sqlite_disk.specs.Modelled.{start_of}
use Rattle.sqlite_disk.specs.declared.Disk as disk
use Rattle.sqlite_disk.specs.declared.Files.{Files}
use Rattle.sqlite_disk.specs.declared.calls.Calls as calls
use Rattle.sqlite_disk.specs.declared.modelled.Modelled.{Modelled}
use Rattle.sqlite_disk.specs.declared.start.Start as starts
use Rattle.sqlite_std_file.specs.File.{IsFresh}
use Rattle.sqlite_std_file.specs.declared.host.Host.{Host}
use Rattle.sqlite_store.specs.declared.store.FileStore.{FileStore}
use Rattle.sqlite_wal.specs.Files.{image_at}
use Rattle.sqlite_wal.specs.Recovery.{Pages, Recovers}
use Rattle.bsp_store_base.specs.Sqlite.{CannotOpen, DatabaseBusy, Error, FailsToOpenFiles, file_state, Ghosts, HasCleanDisk, Held, IsCleanLeft, LeavesFiles, OutOfMemory, SqliteFailure}
use Rattle.sqlite.specs.Start.{FindsIn}
use Rattle.sqlite.specs.declared.file.Leftover.{Leftover}
use Rattle.bsp_store_save.specs.Kept.{Spares}
use Rattle.bsp_store_open.specs.Opening.{AreAllInOrder, Reopens}

-- no file was opened, for one of these errors
abbrev pub OpensNone : Error → Type 0
OpensNone error = (error ≡ SqliteFailure CannotOpen) ⊎ ((error ≡ SqliteFailure OutOfMemory) ⊎ (error ≡ SqliteFailure DatabaseBusy))

-- while the disk is clean, a file recovers to the same pages with this log and without it
abbrev pub HasNoPage : {D : Type 0} → disk.Ghosts D → D → Type 0
HasNoPage g log =
    IsTrue (g.is_clean log) → (size : ℕ) (db : List ℕ) (pages : Pages) → Recovers size (record { log = g.seen log; db = db }) pages ↔ Recovers size (record { log = []; db = db }) pages

-- the calls of the system on a file
abbrev pub calls_of : calls.Ghosts Host
calls_of = record { history = λ f. f.log.events }

-- what is answered of a store that was opened, of which the connection shows this, or of the error for which it was not
abbrev pub Answers : {S : Type 0} → (Held S → Type 0) → (Error → Type 0) → (Held S → Type 0) → (Error → Type 0) → Type 0
Answers {S} finds fails Opened Unopened = ((conn : Held S) × finds conn × Opened conn) ⊎ ((error : Error) × fails error × Unopened error)

-- a connection that was just opened: it shows what is committed, and the rows of each table in the order of their rowids
pub record IsJustOpened {S : Type 0} (g : Ghosts S) (h : Held S) : Type 0 where
  pub reopens : Reopens g h h
  pub ordered : AreAllInOrder g h

-- whatever was read over a connection, it left to a stop no more than there was
abbrev pub IsSpared : {S : Type 0} → Ghosts S → Held S → Type 0
IsSpared {S} g h = (left : Held S) × Spares g h left

module _ {T : Type 0} (start : starts.Ghosts T) where
  abbrev pub OneFile : Type 0
  OneFile = Modelled Host T calls_of start

  -- what its calls say of it, as `sqlite_disk` has it of such a file
  abbrev pub one_file : disk.Ghosts OneFile
  one_file = record {
    seen = λ f. (replay (start_of start f) f.calls.log.events).seen;
    may_leave = λ f. let m = replay (start_of start f) f.calls.log.events in MayLeave start.is_mixing m.seen m.synced m.steps;
    is_usable = λ f. (replay (start_of start f) f.calls.log.events).is_usable;
    faults = λ f. (replay (start_of start f) f.calls.log.events).faults;
    tally_of = λ f. let m = replay (start_of start f) f.calls.log.events in record { caught = m.caught; refused = m.refused };
    is_clean = λ f. (replay (start_of start f) f.calls.log.events).is_honest;
    key_of = λ f. (replay (start_of start f) f.calls.log.events).key;
    is_fair = λ f. (replay (start_of start f) f.calls.log.events).is_fair;
    is_frozen = λ _. false;
    is_rotten = λ _ _ _. false;
    is_mixing = λ _. start.is_mixing;
  }

  -- the store of `Connection::open_from`
  abbrev pub StoreFrom : Type 0
  StoreFrom = FileStore OneFile one_file

  -- a connection that was opened over the files shows what they held
  abbrev pub FindsFiles : Held StoreFrom → Type 0
  FindsFiles conn = HasCleanDisk (file_state conn) → FindsIn (image_at start) (file_state conn)

  -- the files were not opened, for this error: none was, or what is left of them has what `sqlite` says of such an error
  pub record FailsToOpen (error : Error) : Type 0 where
    pub left : Option (Leftover OneFile one_file)
    pub unopened : left ≡ None → OpensNone error
    pub cause : IfSome left (λ it. (files : Files OneFile) × IsFresh true files.log × IsFresh false files.db × (IsCleanLeft it → FailsToOpenFiles files it error × LeavesFiles files it))

  -- what is answered of the files: of a connection that shows what they held, or of the error for which they were not opened
  abbrev pub AnswersFiles : (Held StoreFrom → Type 0) → (Error → Type 0) → Type 0
  AnswersFiles = Answers FindsFiles FailsToOpen
