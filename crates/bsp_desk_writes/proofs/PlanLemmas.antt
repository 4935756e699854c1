-- What requests for the plan leave, by what they are answered.
use Rattle.std.proofs.Common.{◌≡◌, ℕ, ◌<◌, ◌^◌, ◌==◌, ◌&&◌, Bool, true, false, cond, List, length, Result, Ok, Err, refl, sym, ap, subst, ◌∙◌, inl, inr, ⊎_elim, arith}
use Rattle.std.specs.Prelude.{Some}
use Rattle.std.specs.Global.{Vec}
use Rattle.std.specs.Result.{result_map_both}
use Rattle.std.proofs.lemmas.Bool.{and_parts, eqb-true}
use Rattle.bsp_rows.specs.CivilDay.{CivilDay}
use Rattle.bsp_rows.specs.Change.{Change}
use Rattle.bsp_calendar.specs.DayOrder.{same_day}
use Rattle.bsp_calendar.specs.History.{Request, outcome}
use Rattle.bsp_calendar.specs.History.Request.{Publish, SetDay, Close}
use Rattle.bsp_calendar.specs.PlanDocument.{PlanData, plan_data, plan_reading}
use Rattle.bsp_calendar.specs.Published.{Published}
use Rattle.bsp_calendar.specs.Requests.{closing, extended, holds_already, with_entries}
use Rattle.bsp_calendar.specs.SoundPlan.{IsSoundPlan}
use Rattle.bsp_calendar.specs.declared.entries.PlanText.{PlanText}
use Rattle.bsp_calendar.specs.declared.fault.PlanFault.{PlanFault}
use Rattle.bsp_calendar.proofs.HeldLemmas.{held_same}
use Rattle.bsp_calendar.proofs.OutcomeLemmas.{closed_by, closed_now, day_set, published}
use Rattle.bsp_memos.specs.Lives.{after_event}
use Rattle.bsp_memos.specs.Lives.Event.{Closed}
use Rattle.bsp_messages.specs.declared.answer.Answer.{Answer as Message}
use Rattle.bsp_rows.specs.Changes.{each}
use Rattle.bsp_rows.specs.Rows.{Rows}
use Rattle.bsp_rows.specs.Sound.{Sound}
use Rattle.bsp_rows.specs.Writes.{after_request, change_or_fault, is_held, plan_left, request_answer}
use Rattle.bsp_desk_sales.specs.After.{office_after}
use Rattle.bsp_office_spec.specs.Answers.{is_done}
use Rattle.bsp_office_spec.specs.Ledger.{review_of}
use Rattle.bsp_office_spec.specs.Requests.{IsBeyondMemory, IsInMemory, IsPlanOf, PlanRead}
use Rattle.bsp_office_spec.specs.Requests.OfficeRequest.{ClosePeriod, PublishPlan, SetBusinessDay}
use Rattle.bsp_office_spec.specs.Step.{office_answer, outcome_answer, with_close}
use Rattle.bsp_office_spec.specs.Texts.{Says}
use Rattle.bsp_desk_writes.specs.Billings.{with_billings}

-- ---- what is held leaves the plan

same_days : (a b : CivilDay) → same_day a b ≡ true → a ≡ b
same_days a b h =
    let year = and_parts (a.year == b.year) ((a.month == b.month) && (a.day == b.day)) h in
    let rest = and_parts (a.month == b.month) (a.day == b.day) year.1 in
    let y = eqb-true a.year b.year year.0 in
    let m = eqb-true a.month b.month rest.0 in
    let d = eqb-true a.day b.day rest.1 in
    λ i. record { year = y i; month = m i; day = d i }

held_plan : (p : Published) (request : Request) (plan : Published) → IsSoundPlan p → is_held p request ≡ true → outcome p request ≡ Ok plan → plan ≡ p
held_plan p (Publish text) plan s held h =
    let is : with_entries p text ≡ plan = (published p text plan h).is in
    sym is ∙ held_same p text s (h ∙ ap (λ (q : Published). Ok q) (sym is)) held
held_plan p (SetDay day) plan s held h = sym (day_set p day plan h).1 ∙ ap (λ (d : CivilDay). record p { day = d }) (sym (same_days p.day day held))
held_plan p (Close code) plan s held h = sym (closed_by p code plan true held h)

left_by : (request : Request) (rows : Rows) → Sound rows → (held : Bool) → is_held rows.published request ≡ held → (wanted : Result Published PlanFault) → outcome rows.published request ≡ wanted →
    record rows { published = plan_left rows.published wanted } ≡ cond (is_done (outcome_answer (change_or_fault held wanted))) (record rows { published = plan_left rows.published wanted }) rows
left_by request rows s true held (Ok plan) h = ap (λ (p : Published). record rows { published = p }) (held_plan rows.published request plan s.plan held h)
left_by request rows s false held (Ok plan) h = refl
left_by request rows s held is (Err fault) h = refl

-- what is held or refused leaves the rows
pub left_after : (request : Request) (rows : Rows) → Sound rows → after_request request rows ≡ cond (is_done (outcome_answer (request_answer request rows))) (after_request request rows) rows
left_after request rows s = left_by request rows s (is_held rows.published request) refl (outcome rows.published request) refl

-- ---- the business day

pub day_served : (P : Rows → Type 0) (rows : Rows) (day : CivilDay) (answered : Result Change PlanFault) (message : Message) → Sound rows →
    answered ≡ request_answer (SetDay day) rows → Says (outcome_answer answered) message → P (after_request (SetDay day) rows) →
    Says (office_answer (SetBusinessDay (Some day)) rows) message × P (office_after (SetBusinessDay (Some day)) rows)
day_served P rows day answered message s is says h =
    (subst (λ (r : Result Change PlanFault). Says (outcome_answer r) message) is says, subst P (left_after (SetDay day) rows s) h)

-- ---- a text

-- texts of the same entries
same_outcome : (p : Published) (text other : PlanText) → plan_data text ≡ plan_data other → extended p text ≡ extended p other
same_outcome p text other same =
    let terms : text.terms ≡ other.terms = ap (λ (d : PlanData). d.terms) same in
    let airlines : text.airlines.items ≡ other.airlines.items = ap (λ (d : PlanData). d.airlines) same in
    let rates : text.rates.items ≡ other.rates.items = ap (λ (d : PlanData). d.rates) same in
    let periods : text.periods.items ≡ other.periods.items = ap (λ (d : PlanData). d.periods) same in
    let taxes : text.commission_taxes.items ≡ other.commission_taxes.items = ap (λ (d : PlanData). d.commission_taxes) same in
    rw (terms, airlines, rates, periods, taxes) refl

same_held : (p : Published) (text other : PlanText) → plan_data text ≡ plan_data other → holds_already p text ≡ holds_already p other
same_held p text other same =
    let airlines : text.airlines.items ≡ other.airlines.items = ap (λ (d : PlanData). d.airlines) same in
    let rates : text.rates.items ≡ other.rates.items = ap (λ (d : PlanData). d.rates) same in
    let periods : text.periods.items ≡ other.periods.items = ap (λ (d : PlanData). d.periods) same in
    let taxes : text.commission_taxes.items ≡ other.commission_taxes.items = ap (λ (d : PlanData). d.commission_taxes) same in
    rw (airlines, rates, periods, taxes) refl

same_left : (rows : Rows) (text other : PlanText) → plan_data text ≡ plan_data other → after_request (Publish text) rows ≡ after_request (Publish other) rows
same_left rows text other same = ap (λ (wanted : Result Published PlanFault). record rows { published = plan_left rows.published wanted }) (same_outcome rows.published text other same)

same_answer : (rows : Rows) (text other : PlanText) → plan_data text ≡ plan_data other → request_answer (Publish text) rows ≡ request_answer (Publish other) rows
same_answer rows text other same = λ i. change_or_fault (same_held rows.published text other same i) (same_outcome rows.published text other same i)

value_of : (read : PlanRead) (wanted : PlanData) → result_map_both plan_data (λ fault. fault) read ≡ Ok wanted → (text : PlanText) × (read ≡ Ok text) × (plan_data text ≡ wanted)
value_of (Ok text) wanted h = (text, refl, cc)
value_of (Err fault) wanted h = absurd (cc h)

-- a text that is read says no more than memory holds
not_beyond : (bytes : List ℕ) (text : PlanText) → plan_reading bytes ≡ Ok (plan_data text) → IsBeyondMemory bytes → ⊥
not_beyond bytes text is (said, also, beyond) =
    let same : plan_data text ≡ said = same_Ok (plan_data text) said (sym is ∙ also) in
    beyond (subst IsInMemory same (room text.airlines, room text.rates, room text.periods, room text.commission_taxes))
  where
    room : {A : Type 0} (v : Vec A) → length v.items < 2 ^ 63
    room v = omega (arith, v.ok.0, v.ok.1, v.small)

    same_Ok : (a b : PlanData) → ◌≡◌ {A = Result PlanData PlanFault} (Ok a) (Ok b) → a ≡ b
    same_Ok a b h = cc

-- a text that is read
pub text_served : (P : Rows → Type 0) (rows : Rows) (bytes : List ℕ) (read : PlanRead) (text : PlanText) (answered : Result Change PlanFault) (message : Message) → Sound rows →
    IsPlanOf bytes read → plan_reading bytes ≡ Ok (plan_data text) →
    answered ≡ request_answer (Publish text) rows → Says (outcome_answer answered) message → P (after_request (Publish text) rows) →
    Says (office_answer (PublishPlan read) rows) message × P (office_after (PublishPlan read) rows)
text_served P rows bytes read text answered message s of is answer says h =
    let known : result_map_both plan_data (λ fault. fault) read ≡ plan_reading bytes = ⊎_elim (λ h. h) (λ beyond. absurd (not_beyond bytes text is beyond.0)) of in
    let (other, value, same) = value_of read (plan_data text) (known ∙ is) in
    let Q : PlanRead → Type 0 = λ r. Says (office_answer (PublishPlan r) rows) message × P (office_after (PublishPlan r) rows) in
    subst Q (sym value) (
      subst (λ (r : Result Change PlanFault). Says (outcome_answer r) message) (answer ∙ sym (same_answer rows other text same)) says,
      subst P (sym (same_left rows other text same) ∙ left_after (Publish other) rows s) h,
    )

-- ---- a close

-- a close leaves the business day and the terms
record KeepsDays (p m : Published) : Type 0 where
  day : m.day ≡ p.day
  terms : m.terms ≡ p.terms

close_keeps : (p : Published) (code : ℕ) (wanted : Result Published PlanFault) → closing p code ≡ wanted → KeepsDays p (plan_left p wanted)
close_keeps p code (Ok m) h = elim (closed_now p code m h) [
  | inl same ↦ record { day = ap (λ (q : Published). q.day) (sym same.1); terms = ap (λ (q : Published). q.terms) (sym same.1) }
  | inr more ↦ record { day = ap (λ (q : Published). q.day) (sym more.1.is); terms = ap (λ (q : Published). q.terms) (sym more.1.is) }
]
close_keeps p code (Err fault) h = record { day = refl; terms = refl }

-- the close of the plan, and then the billings
pub closed_with : (period : ℕ) (rows : Rows) → with_billings period (after_request (Close period) rows) ≡ with_close period rows
closed_with period rows =
    let left = plan_left rows.published (closing rows.published period) in
    let kept = close_keeps rows.published period (closing rows.published period) refl in
    λ i. record rows { published = left; memos = each (after_event (review_of (kept.terms i)) (Closed period (kept.day i))) rows.memos }

not_done : (P : Rows → Type 0) (rows after : Rows) (b : Bool) → b ≡ false → P rows → P (cond b after rows)
not_done P rows after b h at = subst (λ c. P (cond c after rows)) (sym h) at

-- a close that is held or refused
pub close_kept : (P : Rows → Type 0) (rows : Rows) (period : ℕ) (answered : Result Change PlanFault) (message : Message) → Sound rows →
    answered ≡ request_answer (Close period) rows → is_done (outcome_answer answered) ≡ false → Says (outcome_answer answered) message → P (after_request (Close period) rows) →
    Says (office_answer (ClosePeriod (Some period)) rows) message × P (office_after (ClosePeriod (Some period)) rows)
close_kept P rows period answered message s is undone says h =
    let none : is_done (outcome_answer (request_answer (Close period) rows)) ≡ false = sym (ap (λ r. is_done (outcome_answer r)) is) ∙ undone in
    let same : after_request (Close period) rows ≡ rows = left_after (Close period) rows s ∙ ap (λ b. cond b (after_request (Close period) rows) rows) none in
    (subst (λ (r : Result Change PlanFault). Says (outcome_answer r) message) is says, not_done P rows (with_close period rows) (is_done (outcome_answer (request_answer (Close period) rows))) none (subst P same h))

-- a close that is done, with its billings
pub close_done : (P : Rows → Type 0) (rows : Rows) (period : ℕ) (answered : Result Change PlanFault) (message : Message) →
    answered ≡ request_answer (Close period) rows → is_done (outcome_answer answered) ≡ true → Says (outcome_answer answered) message → P (with_billings period (after_request (Close period) rows)) →
    Says (office_answer (ClosePeriod (Some period)) rows) message × P (office_after (ClosePeriod (Some period)) rows)
close_done P rows period answered message is done says h =
    let all : is_done (outcome_answer (request_answer (Close period) rows)) ≡ true = sym (ap (λ r. is_done (outcome_answer r)) is) ∙ done in
    (subst (λ (r : Result Change PlanFault). Says (outcome_answer r) message) is says, subst (λ b. P (cond b (with_close period rows) rows)) (sym all) (subst P (closed_with period rows) h))
