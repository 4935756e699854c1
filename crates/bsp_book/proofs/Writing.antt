-- A book in memory after a write, and after one that found no room.
use Rattle.std.proofs.Common.{◌≡◌, Some, Result, Ok, Err, is_err, refl, sym, ap, ◌∙◌}
use Rattle.std.proofs.lemmas.Bool.{false≢true}
use Rattle.bsp_rows.specs.Rows.{Rows}
use Rattle.bsp_rows.specs.Sound.{AreApart}
use Rattle.bsp_memory_rows.specs.Tables.{IsDerived, WasDerived, committed_rows, rows_of}
use Rattle.bsp_book.specs.Calls.{FallsBack, Faults, LeavesLast, is_failed}
use Rattle.bsp_book.specs.Listed.{Holds, IsUndone, meaning}
use Rattle.bsp_book.specs.declared.fault.BookFault.{BookFault}
use Rattle.bsp_book.specs.declared.fault.BookFault.TheVariants.{NoRoom}
use Rattle.bsp_book.specs.declared.list.ListBook.{ListBook}

is_answered : {T : Type 0} (x : T) (e : BookFault) → (let answered : Result T BookFault = Ok x in answered ≡ Err e) → ⊥
is_answered x e h = false≢true (ap is_err h)

-- an answer owes nothing of a fault
pub answered : {T : Type 0} (old new : ListBook) (x : T) → Faults meaning old new (FallsBack meaning old new) (LeavesLast meaning old new) {T = T} (Ok x)
answered old new x = record {
  trust = λ t. tt;
  full = λ e. absurd (is_answered x NoRoom e);
  failed = refl;
  left = λ e f now last h. tt;
  dead = λ f. absurd (false≢true f);
}

-- a write that found no room is undone
pub undone : {T : Type 0} (old mid new : ListBook) (fault : BookFault) → IsUndone mid new → fault ≡ NoRoom → committed_rows mid.tables ≡ committed_rows old.tables → (WasDerived old.tables → WasDerived mid.tables) → Faults meaning old new (FallsBack meaning old new) (LeavesLast meaning old new) {T = T} (Err fault)
undone {T} old mid new fault u is kept was = record {
  trust = λ t. tt;
  full = λ e now last h. record {
    rows = h.committed ∙ (sym kept ∙ sym u.rows);
    committed = h.committed ∙ (sym kept ∙ sym u.committed);
    is_open = u.shut;
    apart = h.was_apart;
    was_apart = h.was_apart;
    derived = u.derived (was h.was_derived);
    was_derived = u.was_derived (was h.was_derived);
  };
  failed = ap (λ f. is_failed {T = T} (Err f)) (sym is);
  left = λ e f now last h. tt;
  dead = λ f. absurd (false≢true f);
}

-- the rows are made, and the rows of the last commit stay
pub made : (old new : ListBook) (make : Rows → Rows) (now last : Rows) → Holds old now (Some last) → new.is_open ≡ old.is_open → rows_of new.tables ≡ make (rows_of old.tables) → committed_rows new.tables ≡ committed_rows old.tables → (IsDerived old.tables → IsDerived new.tables) → (WasDerived old.tables → WasDerived new.tables) → AreApart (make now).ranges → Holds new (make now) (Some last)
made old new make now last h same rows kept derived was apart = record {
  rows = ap make h.rows ∙ sym rows;
  committed = h.committed ∙ sym kept;
  is_open = same ∙ h.is_open;
  apart = apart;
  was_apart = h.was_apart;
  derived = derived h.derived;
  was_derived = was h.was_derived;
}
