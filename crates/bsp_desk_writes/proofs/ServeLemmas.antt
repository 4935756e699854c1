-- A request that is served after a look-up, and by another answer that is the same.
use Rattle.std.proofs.Common.{◌≡◌, ℕ, true, Option, Some, None, is_some, Result, Ok, Err, refl, sym, subst}
use Rattle.bsp_book.specs.Calls.{FallsBack, Faults, GoesBack, Keeps, LeavesBegun, LeavesLast, Meaning}
use Rattle.bsp_book.specs.declared.fault.BookFault.{BookFault}
use Rattle.bsp_memos.specs.Memos.{is_amount}
use Rattle.bsp_memos.specs.Steps.{Action}
use Rattle.bsp_memos.specs.declared.fault.MemoFault.{MemoFault}
use Rattle.bsp_memos.specs.declared.fields.MemoFields.{MemoFields}
use Rattle.bsp_messages.specs.declared.airline_bodies.MemoIssue.{MemoIssue}
use Rattle.bsp_messages.specs.declared.answer.Answer.{Answer as Message}
use Rattle.bsp_messages.specs.declared.answer.Answer.TheVariants as message
use Rattle.bsp_messages.specs.declared.refusal.RequestRefusal.TheVariants as refusal
use Rattle.bsp_rows.specs.Rows.{Rows, agent_token, memo_at, memo_key}
use Rattle.bsp_rows.specs.declared.keys.MemoKey.{MemoKey}
use Rattle.bsp_desk_sales.specs.Serves.{Serves}
use Rattle.bsp_office_spec.specs.AirlineLedger.{airline_ledger_of, issuing, new_memo}
use Rattle.bsp_office_spec.specs.Answers.{Answer}
use Rattle.bsp_office_spec.specs.Answers.Answer.{Refused}
use Rattle.bsp_office_spec.specs.Ledger.{memo_answer}
use Rattle.bsp_office_spec.specs.Texts.{Says}
use Rattle.bsp_desk_writes.specs.Actions.{ActsOn, IsFound, ServesAction, acted_left}
use Rattle.bsp_desk_writes.specs.Issues.{Adds, ServesIssue, beside, issued_left, placed, placed_left, placing}
use Rattle.bsp_desk_writes.proofs.IssueLemmas.{placing_is}

-- ---- faults

-- after a look-up, which keeps the rows
pub faults_after : {B T U : Type 0} (m : Meaning B Rows) (old between new : B) (found : U) (result : Result T BookFault) → Faults m old between (GoesBack m old between) (LeavesBegun m old between) {T = U} (Ok found) → Keeps m old between →
    Faults m between new (FallsBack m between new) (LeavesLast m between new) result → Faults m old new (FallsBack m old new) (LeavesLast m old new) result
faults_after m old between new found result before kept after = record {
  trust = λ t. before.trust (after.trust t);
  full = λ e now last h. after.full e now last (kept now (Some last) h);
  failed = after.failed;
  left = λ e works now last h. after.left e before.failed now last (kept now (Some last) h);
  dead = λ failed. let e = (before.dead failed).0 in absurd (cc e);
}

-- ---- answers

-- the rows stay as they are, and another answer is the same
pub shown_alike : {B : Type 0} (m : Meaning B Rows) (old new : B) (result : Result Message BookFault) (answer other : Rows → Answer) → ((rows : Rows) → answer rows ≡ other rows) → Serves m old new result answer (λ rows. rows) → Serves m old new result other (λ rows. rows)
shown_alike m old new (Ok message) answer other same served = λ trust now last s h.
    let both = served trust now last s h in
    (subst (λ (a : Answer). Says a message) (same now) both.0, both.1)
shown_alike m old new (Err fault) answer other same served = tt

-- the memo that the caller has was looked up before
pub acts_for : {B : Type 0} (m : Meaning B Rows) (old between new : B) (result : Result Message BookFault) (action : Action) (key : MemoKey) (found : Option MemoFields) (has : MemoKey → Rows → Option MemoFields) →
    (m.trusts new → m.trusts between) → (m.trusts between → (now last : Rows) → m.holds old now (Some last) → found ≡ has key now) → Keeps m old between →
    ((rows : Rows) → found ≡ has key rows → IsFound key found rows) → ActsOn m between new result action found → ServesAction m old new result action key has
acts_for m old between new (Ok message) action key found has trusted looked kept is acted = λ trust now last s h.
    let e = looked (trusted trust) now last h in
    subst (λ (x : Option MemoFields). Says (memo_answer action now.published x) message × m.holds new (acted_left action key (memo_answer action now.published x) now) (Some last)) e
    (acted trust now last key s (is now e) (kept now (Some last) h))
acts_for m old between new (Err fault) action key found has trusted looked kept is acted = tt

-- nothing was found before at the key of the memo
pub places : {B : Type 0} (m : Meaning B Rows) (old between new : B) (result : Result Message BookFault) (memo : MemoFields) →
    (m.trusts new → m.trusts between) → (m.trusts between → (now last : Rows) → m.holds old now (Some last) → None ≡ memo_at (memo_key memo) now) → Keeps m old between →
    Adds m between new result memo → Serves m old new result (placing memo) (placed memo)
places m old between new (Ok message) memo trusted looked kept adds = λ trust now last s h.
    let e = looked (trusted trust) now last h in
    subst (λ (x : Option MemoFields). Says (beside memo now x) message × m.holds new (placed_left memo (beside memo now x) now) (Some last)) e
    (adds trust now last (sym e) (kept now (Some last) h))
places m old between new (Err fault) memo trusted looked kept adds = tt

-- ---- an issue to an agent

-- the agent is registered and the amount in range, so that the memo is placed
pub issues : {B : Type 0} (m : Meaning B Rows) (old between new : B) (result : Result Message BookFault) (airline agent : ℕ) (issue : MemoIssue) (memo : MemoFields) →
    (m.trusts new → m.trusts between) → (m.trusts between → (now last : Rows) → m.holds old now (Some last) → is_some (agent_token agent now) ≡ true) → Keeps m old between →
    is_amount issue.amount ≡ true → (m.trusts between → (now last : Rows) → m.holds between now (Some last) → memo ≡ new_memo airline agent issue now.published.day) →
    Serves m between new result (placing memo) (placed memo) → ServesIssue m old new result airline issue (Some agent)
issues m old between new (Ok message) airline agent issue memo trusted known kept right made served = λ trust now last s h.
    let at = kept now (Some last) h in
    let is : memo ≡ new_memo airline agent issue now.published.day = made (trusted trust) now last at in
    let answer : issuing airline issue (airline_ledger_of airline now) (Some agent) ≡ placing (new_memo airline agent issue now.published.day) now = placing_is airline agent issue now (known (trusted trust) now last h) right in
    subst (λ (a : Answer). Says a message × m.holds new (issued_left airline issue (Some agent) a now) (Some last)) (sym answer)
    (subst (λ (n : MemoFields). Says (placing n now) message × m.holds new (placed n now) (Some last)) is (served trust now last s at))
issues m old between new (Err fault) airline agent issue memo trusted known kept right made served = tt

pub refuses : {B : Type 0} (m : Meaning B Rows) (new : B) (airline agent : ℕ) (issue : MemoIssue) (now last : Rows) (fault : MemoFault) → issuing airline issue (airline_ledger_of airline now) (Some agent) ≡ Refused (refusal.Memo fault) → m.holds new now (Some last) →
    let answer = issuing airline issue (airline_ledger_of airline now) (Some agent) in Says answer (message.Refused (refusal.Memo fault)) × m.holds new (issued_left airline issue (Some agent) answer now) (Some last)
refuses m new airline agent issue now last fault e h =
    subst (λ (a : Answer). Says a (message.Refused (refusal.Memo fault)) × m.holds new (issued_left airline issue (Some agent) a now) (Some last)) (sym e) (refl, h)
