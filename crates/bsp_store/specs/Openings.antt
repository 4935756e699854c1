-- What an opening answers, of a store and of the files at a path.
use Rattle.std.specs.Prelude.{◌≡◌, true, Err, IfErr, IfOk, MatchResult, Ok, Result}
use Rattle.sqlite_disk.specs.declared.start.Start as starts
use Rattle.bsp_store_base.specs.Sqlite.{Ghosts, Held, over_files}
use Rattle.bsp_store_open.specs.Faults.{fault_for, is_refusal}
use Rattle.bsp_store_open.specs.declared.fault.OpenFault.{OpenFault}
use Rattle.bsp_store.specs.Adopting.{Adopts, LeavesWhole, WasNoBook}
use Rattle.bsp_store.specs.Files.{AnswersFiles, StoreFrom}
use Rattle.bsp_store.specs.Meanings.{SqlBook}
use Rattle.bsp_store.specs.Stops.{FindsBook}

module _ {S : Type 0} (g : Ghosts S) where
  -- a book is opened with the rows of the store; it is refused only where there is none; whatever the fault, a stop leaves
  -- the store whole; and a book of sound rows is found
  pub record IsOpening (h : Held S) (result : Result (SqlBook S) (OpenFault × S)) : Type 0 where
    pub adopts : IfOk result (Adopts g h)
    pub refused : IfErr result (λ e. is_refusal e.0 ≡ true → WasNoBook g e.0 h e.1)
    pub left : IfErr result (λ e. LeavesWhole g h e.1)
    pub stops : FindsBook g h result

  -- an opening of which the store that comes with a fault was dropped
  pub record IsOpeningOf (h : Held S) (result : Result (SqlBook S) OpenFault) : Type 0 where
    pub whole : Result (SqlBook S) (OpenFault × S)
    pub opening : IsOpening h whole
    pub same : MatchResult whole (λ book. result ≡ Ok book) (λ e. result ≡ Err e.0)

module _ {T : Type 0} (start : starts.Ghosts T) where
  -- the files were opened, and their store as a book is; or they were not, and the fault is what the error means
  abbrev pub IsOpeningAt : Result (SqlBook (StoreFrom start)) OpenFault → Type 0
  IsOpeningAt result = AnswersFiles start (λ conn. IsOpeningOf over_files conn result) (λ error. result ≡ Err (fault_for error))
