-- What actions and closes keep of a memo.
use Rattle.std.proofs.Common.{◌≡◌, ℕ, ℤ, pos, Bool, true, false, not, ◌&&◌, ◌||◌, List, [], ◌∷◌, None, is_some, refl, sym, ap, ◌∙◌, arith, if◌then◌else◌, int_le, int_lt, ◌+ℤ◌}
use Rattle.std.specs.Ordering.{int_eq}
use Rattle.std.specs.List.{list_all}
use Rattle.std.proofs.lemmas.Int.{ints}
use Rattle.std.proofs.lemmas.Bool.{and_parts, and_from, false≢true}
use Rattle.std.proofs.lemmas.Bool.Decides.{Decides-int_eq}
use Rattle.bsp_fields.specs.CivilDay.{CivilDay}
use Rattle.bsp_fields.specs.Days.{day_number}
use Rattle.bsp_memos.specs.declared.fields.MemoFields.{MemoFields}
use Rattle.bsp_memos.specs.declared.kind.MemoKind.{MemoKind}
use Rattle.bsp_memos.specs.declared.kind.MemoKind.TheVariants.{Debit, Credit}
use Rattle.bsp_memos.specs.States.{is_credit, is_open, is_agreed, is_disputed, is_upheld, is_reduced, is_withdrawn}
use Rattle.bsp_memos.specs.Memos.{is_memo, issued_memo, amount_fits, kind_fits, billing_fits}
use Rattle.bsp_memos.specs.Steps.{Action, is_past_review, answer_to}
use Rattle.bsp_memos.specs.Billing.{admits, billed_in, is_due, is_rightly_billed}
use Rattle.bsp_memos.specs.Lives.{Event, Acted, Closed, after_action, after_event, after_events}
use Rattle.bsp_memos.specs.Kept.{IsIssueSound, IsFitKept, IsBilledUnchanged, IsRightAtClose, IsRightLater, IsRightSinceIssue, is_closed_by}
use Rattle.bsp_memos.proofs.StepLemmas.{is_settled, settled_stays, billed-left_by, admitted_settles}
use Rattle.bsp_memos.proofs.LifeLemmas.{after_events-at_rest, billed_at_rest}
use Rattle.bsp_memos.proofs.FitLemmas.{is_memo-after_action, is_memo-billed_in}

-- ---- fields that fit together

either_kind : (kind : MemoKind) → (not (is_credit kind) || true) ≡ true
either_kind Debit = refl
either_kind Credit = refl

pub issue_sound : IsIssueSound
issue_sound airline document agent kind amount reason issued h = (record { state = refl; billed = refl; amount = refl }, fits) where
  fits : is_memo (issued_memo airline document agent kind amount reason issued) ≡ true
  fits = (let same : int_eq amount amount ≡ true = (Decides-int_eq amount amount).1 refl in rw (h, same, either_kind kind) refl)

closed_fit : (review period : ℕ) (day : CivilDay) (memo : MemoFields) (admitted : Bool) → admits memo day review ≡ admitted → is_memo memo ≡ true → is_memo (if admitted then billed_in period memo else memo) ≡ true
closed_fit review period day memo true h fit = is_memo-billed_in review period day memo fit h
closed_fit review period day memo false h fit = fit

pub fit_kept : IsFitKept
fit_kept review [] memo fit = fit
fit_kept review (Acted action day ∷ events) memo fit = fit_kept review events (after_action review action day memo) (is_memo-after_action review action day memo fit)
fit_kept review (Closed period day ∷ events) memo fit =
    fit_kept review events (after_event review (Closed period day) memo) (closed_fit review period day memo (admits memo day review) refl fit)

-- ---- a billed memo

billed_settled : (credit billed disputed withdrawn : Bool) → billed ≡ true → (not billed || not (disputed || withdrawn)) ≡ true → (credit || (billed && not disputed)) ≡ true
billed_settled true billed disputed withdrawn b h = refl
billed_settled false true false withdrawn b h = refl
billed_settled false true true withdrawn b h = absurd (false≢true h)
billed_settled false false disputed withdrawn b h = absurd (false≢true b)

pub billed_unchanged : IsBilledUnchanged
billed_unchanged review events memo fit billed =
    let a = and_parts (amount_fits memo) (kind_fits memo && billing_fits memo) fit in
    let b = and_parts (kind_fits memo) (billing_fits memo) a.1 in
    let settled : is_settled memo.kind memo.state (is_some memo.billed) ≡ true = billed_settled (is_credit memo.kind) (is_some memo.billed) (is_disputed memo.state) (is_withdrawn memo.state) billed b.1 in
    after_events-at_rest review events memo (billed_at_rest memo billed settled)

-- ---- rightly billed

pub right_at_close : IsRightAtClose
right_at_close review period day memo h = (and_parts (not (is_some memo.billed)) (is_due memo day review) h).1

past_later : (last day later : ℤ) → int_le day later ≡ true → int_lt last day ≡ true → int_lt last later ≡ true
past_later last day later up h = grind (arith, ints)

due_by : (credit done isopen past after : Bool) → (past ≡ true → after ≡ true) → (credit || done || (isopen && past)) ≡ true → (credit || done || (isopen && after)) ≡ true
due_by true done isopen past after f h = refl
due_by false true isopen past after f h = refl
due_by false false true past after f h = f h
due_by false false false past after f h = absurd (false≢true h)

due_later : (review : ℕ) (day later : CivilDay) (memo : MemoFields) → int_le (day_number day) (day_number later) ≡ true → is_due memo day review ≡ true → is_due memo later review ≡ true
due_later review day later memo up h =
    due_by (is_credit memo.kind) (is_agreed memo.state || (is_upheld memo.state || is_reduced memo.state)) (is_open memo.state) (is_past_review memo day review) (is_past_review memo later review)
    (past_later (day_number memo.issued +ℤ pos review) (day_number day) (day_number later) up) h

pub right_later : IsRightLater
right_later review day later memo up h =
    let p = and_parts (is_some memo.billed) (is_due memo day review) h in
    and_from (is_some memo.billed) (is_due memo later review) p.0 (due_later review day later memo up p.1)

-- ---- from the issue on

-- rightly billed on the day, if billed
abbrev IsRight : ℕ → CivilDay → MemoFields → Type 0
IsRight review day memo = is_some memo.billed ≡ true → is_rightly_billed memo day review ≡ true

acted_right : (review : ℕ) (action : Action) (d day : CivilDay) (memo : MemoFields) (billed : Bool) → is_some memo.billed ≡ billed → IsRight review day memo → IsRight review day (after_action review action d memo)
acted_right review action d day memo true b right =
    let due = (and_parts (is_some memo.billed) (is_due memo day review) (right b)).1 in
    let settled : is_settled memo.kind memo.state true ≡ true = admitted_settles review 0 day (record memo { billed = None }) due in
    let same = settled_stays review action d memo (rw b settled) in
    rw same right
acted_right review action d day memo false b right =
    λ now. absurd (false≢true (sym b ∙ (ap is_some (sym (billed-left_by (answer_to memo action d review) action memo)) ∙ now)))

closed_right : (review period : ℕ) (d day : CivilDay) (memo : MemoFields) (admitted : Bool) → admits memo d review ≡ admitted → int_le (day_number d) (day_number day) ≡ true →
    IsRight review day memo → IsRight review day (if admitted then billed_in period memo else memo)
closed_right review period d day memo true h up right = λ now. right_later review d day (billed_in period memo) up (right_at_close review period d memo h)
closed_right review period d day memo false h up right = right

right_on : (review : ℕ) (events : List Event) (memo : MemoFields) (day : CivilDay) → list_all (is_closed_by day) events ≡ true → IsRight review day memo → IsRight review day (after_events review events memo)
right_on review [] memo day up right = right
right_on review (Acted action d ∷ events) memo day up right = right_on review events (after_action review action d memo) day up (acted_right review action d day memo (is_some memo.billed) refl right)
right_on review (Closed period d ∷ events) memo day up right =
    let u = and_parts (int_le (day_number d) (day_number day)) (list_all (is_closed_by day) events) up in
    right_on review events (after_event review (Closed period d) memo) day u.1 (closed_right review period d day memo (admits memo d review) refl u.0 right)

pub right_since_issue : IsRightSinceIssue
right_since_issue review events memo day issued up = right_on review events memo day up (λ b. absurd (false≢true (sym (ap is_some issued.billed) ∙ b)))
