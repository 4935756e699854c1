-- What a call makes of a book in one transaction, by how far it came: a request, or an instruction.
use Rattle.std.proofs.Common.{◌≡◌, false, ℕ, List, None, Result, Ok, Err, refl, sym, ◌∙◌}
use Rattle.std.proofs.lemmas.Bool.{false≢true}
use Rattle.bsp_book.specs.Calls.{Begins, FallsBack, Faults, LeavesEither, LeavesLast, LeavesNow, Meaning, Stays}
use Rattle.bsp_book.specs.declared.fault.BookFault.{BookFault}
use Rattle.bsp_book.specs.declared.fault.BookFault.TheVariants.{NoRoom, Failed}
use Rattle.bsp_messages.specs.declared.answer.Answer.{Answer as Message}
use Rattle.bsp_routes.specs.declared.reply.Reply.{Reply}
use Rattle.bsp_rows.specs.Rows.{Rows}
use Rattle.bsp_rows.specs.Sound.{Sound}
use Rattle.bsp_desk_writes.specs.Serves.{EndsOnFault, FallsBackSound, Finds, LeavesLastSound}
use Rattle.bsp_desk.specs.Steps.{EndsUnsent, ServesRequest, left_by}
use Rattle.bsp_desk.specs.declared.request.Request.{Request}

-- whatever `q` the call is read as, the rows after it are `left rows q`
module _ {B : Type 0} (m : Meaning B Rows) (wider : (book : B) (a b : Rows) → m.leaves book a a → m.leaves book a b) {Q : Type 0} (Is : Q → Type 0) (left : Rows → Q → Rows) where
  abbrev pub Of : (old new : B) → (Rows → Q → Type 0) → Type 0
  Of old new P = (q : Q) → Is q → m.trusts new → (rows : Rows) → Sound rows → m.holds old rows None → P rows q

  -- what the whole transaction owes
  abbrev pub Ends : (old new : B) → {T : Type 0} → Result T BookFault → Type 0
  Ends old new result = Faults m old new (Of old new (λ rows q. m.holds new rows None)) (Of old new (λ rows q. m.leaves new rows (left rows q))) result

  -- what is owed in the open one
  abbrev pub EndsWithin : (old new : B) → {T : Type 0} → Result T BookFault → Type 0
  EndsWithin old new result = Faults m old new ((q : Q) → Is q → FallsBackSound m old new) ((q : Q) → Is q → LeavesLastSound m old new) result

  module _ (old begun : B) where
    -- the transaction does not begin
    pub unbegun : {T U : Type 0} (e : BookFault) → Faults m old begun (Stays m old begun) (LeavesNow m old begun) {T = T} (Err e) → Ends old begun {T = U} (Err e)
    unbegun NoRoom fault = record {
      trust = fault.trust;
      full = λ is q read t rows sound h. fault.full refl rows h;
      failed = fault.failed;
      left = λ is. absurd (cc is);
      dead = λ failed. let k = (fault.dead failed).0 in absurd (cc k);
    }
    unbegun Failed fault = record {
      trust = fault.trust;
      full = λ is. absurd (cc is);
      failed = fault.failed;
      left = λ is alive q read t rows sound h. wider begun rows (left rows q) (fault.left refl alive rows h);
      dead = λ failed. (refl, (fault.dead failed).1);
    }

    module _ {T : Type 0} (x : T) (begins : Begins m old begun) (alive : Faults m old begun (Stays m old begun) (LeavesNow m old begun) (Ok x)) where
      -- nothing is found
      pub unsent : {U V : Type 0} (new : B) (e : BookFault) → EndsWithin begun new {T = U} (Err e) → Ends old new {T = V} (Err e)
      unsent new NoRoom fault = record {
        trust = λ t. alive.trust (fault.trust t);
        full = λ is q read t rows sound h. fault.full refl q read t rows rows sound (begins rows h);
        failed = fault.failed;
        left = λ is. absurd (cc is);
        dead = λ failed. let k = (alive.dead failed).0 in absurd (cc k);
      }
      unsent new Failed fault = record {
        trust = λ t. alive.trust (fault.trust t);
        full = λ is. absurd (cc is);
        failed = fault.failed;
        left = λ is open_ q read t rows sound h. wider new rows (left rows q) (fault.left refl alive.failed q read t rows rows sound (begins rows h));
        dead = λ failed. let k = (alive.dead failed).0 in absurd (cc k);
      }

      module _ {F : Type 0} (IsRight : Rows → Q → F → Type 0) (sent new : B) (found : F) (finds : (q : Q) → Is q → Finds m begun sent (Ok found) (λ rows f. IsRight rows q f) (λ rows. left rows q)) (replied : EndsWithin begun sent {T = F} (Ok found)) where
        -- it is found, and the transaction is not committed
        pub uncommitted : {U V : Type 0} (e : BookFault) → Faults m sent new (FallsBack m sent new) (LeavesEither m sent new) {T = U} (Err e) → Ends old new {T = V} (Err e)
        uncommitted NoRoom fault = record {
          trust = λ t. alive.trust (replied.trust (fault.trust t));
          full = λ is q read t rows sound h. fault.full refl (left rows q) rows (finds q read (fault.trust t) rows rows sound (begins rows h)).1;
          failed = fault.failed;
          left = λ is. absurd (cc is);
          dead = λ failed. let k = (alive.dead failed).0 in absurd (cc k);
        }
        uncommitted Failed fault = record {
          trust = λ t. alive.trust (replied.trust (fault.trust t));
          full = λ is. absurd (cc is);
          failed = fault.failed;
          left = λ is open_ q read t rows sound h. fault.left refl replied.failed (left rows q) rows (finds q read (fault.trust t) rows rows sound (begins rows h)).1;
          dead = λ failed. let k = (alive.dead failed).0 in absurd (cc k);
        }

-- what was served is given up
pub gives_up : {B : Type 0} (m : Meaning B Rows) (request : Request) (office : List ℕ) (old mid new : B) (message : Message) (result : Result Reply BookFault) → m.has_failed old ≡ false →
    ServesRequest m old mid request office (Ok message) → EndsOnFault m old mid {T = Message} (Ok message) → Faults m mid new (FallsBack m mid new) (LeavesLast m mid new) result → EndsUnsent m old new request result
gives_up m request office old mid new message result works serves served fault = record {
  trust = λ t. served.trust (fault.trust t);
  full = λ is reading read t now last sound h. fault.full is (left_by office now reading) last (serves reading read (fault.trust t) now last sound h).1;
  failed = fault.failed;
  left = λ is open_ reading read t now last sound h. fault.left is served.failed (left_by office now reading) last (serves reading read (fault.trust t) now last sound h).1;
  dead = λ failed. absurd (false≢true (sym works ∙ failed));
}
