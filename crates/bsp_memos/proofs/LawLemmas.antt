-- The law of billing.
use Rattle.std.proofs.Common.{◌≡◌, ℕ, Bool, true, false, ◌||◌, List, [], ◌∷◌, ◌++◌, Some, None, is_some, refl, ap, ◌∙◌, ℤ}
use Rattle.std.specs.Prelude.{Option, MatchOption, if◌then◌else◌}
use Rattle.bsp_fields.specs.CivilDay.{CivilDay}
use Rattle.bsp_memos.specs.declared.fields.MemoFields.{MemoFields}
use Rattle.bsp_memos.specs.declared.state.MemoState.TheVariants.{Disputed, Withdrawn}
use Rattle.bsp_memos.specs.declared.kind.MemoKind.{MemoKind}
use Rattle.bsp_memos.specs.declared.kind.MemoKind.TheVariants.{Debit, Credit}
use Rattle.bsp_memos.specs.States.{is_disputed, is_withdrawn}
use Rattle.bsp_memos.specs.Memos.{kind_fits}
use Rattle.bsp_memos.specs.Steps.{Action, answer_to}
use Rattle.bsp_memos.specs.Billing.{admits, billed_in}
use Rattle.bsp_memos.specs.Lives.{Event, Acted, Closed, after_action, after_event, after_events, billings, as_acted, NoCloseAdmits, IsFirstToAdmit, HasNoClose, IsIssued, KeepsIssue, IsIssueKept, IsBilledOnce, IsNotBilledInDispute, IsNotBilledWithdrawn, IsCreditBilledFirst}
use Rattle.bsp_memos.proofs.StepLemmas.{is_settled, settled_stays, billed-left_by, issue-left_by, moved, admitted_settles, admitted_stands, kind_fits-after_action}
use Rattle.bsp_memos.proofs.LifeLemmas.{IsAtRest, after_events-at_rest, billings-at_rest, billed_at_rest, withdrawn_at_rest}

-- ---- what was issued

follows : (a b c : MemoFields) → KeepsIssue a b → KeepsIssue b c → KeepsIssue a c
follows a b c h k = record {
  airline = k.airline ∙ h.airline;
  document = k.document ∙ h.document;
  agent = k.agent ∙ h.agent;
  kind = k.kind ∙ h.kind;
  issued_amount = k.issued_amount ∙ h.issued_amount;
  reason = k.reason ∙ h.reason;
  issued = k.issued ∙ h.issued;
}

issue-after_event : (review : ℕ) (event : Event) (memo : MemoFields) → KeepsIssue memo (after_event review event memo)
issue-after_event review (Acted action day) memo = issue-left_by (answer_to memo action day review) action memo
issue-after_event review (Closed period day) memo = by_test (admits memo day review) where
  by_test : (admitted : Bool) → KeepsIssue memo (if admitted then billed_in period memo else memo)
  by_test true = moved memo memo.state memo.amount (Some period)
  by_test false = moved memo memo.state memo.amount memo.billed

pub issue_kept : IsIssueKept
issue_kept review [] memo = moved memo memo.state memo.amount memo.billed
issue_kept review (event ∷ events) memo =
    let next = after_event review event memo in
    follows memo next (after_events review events next) (issue-after_event review event memo) (issue_kept review events next)

-- ---- the first close

match_map : {X : Type 0} {P P' : Type 0} {Q Q' : X → Type 0} (o : Option X) → (P → P') → ((x : X) → Q x → Q' x) → MatchOption o P Q → MatchOption o P' Q'
match_map None f g h = f h
match_map (Some x) f g h = g x h

match_none : {X : Type 0} {P : Type 0} (Q : X → Type 0) (o : Option X) → o ≡ None → P → MatchOption o P Q
match_none Q None h p = p
match_none Q (Some x) h p = absurd (cc h)

-- what the law says of a memo that is not billed yet
abbrev IsToldOnce : ℕ → List Event → MemoFields → Type 0
IsToldOnce review events memo =
    MatchOption (after_events review events memo).billed
    ((billings review events memo ≡ []) × NoCloseAdmits review events memo)
    (λ period. (billings review events memo ≡ (period, (after_events review events memo).amount) ∷ []) × IsFirstToAdmit review events memo period (after_events review events memo).amount)

-- an event that leaves `memo` as `next` in both histories, and does not admit it, can be put in front
record IsPassed (review : ℕ) (event : Event) (memo next : MemoFields) : Type 0 where
  acted : (events : List Event) → as_acted review (event ∷ events) memo ≡ as_acted review events next
  none : (period : ℕ) (day : CivilDay) → event ≡ Closed period day → admits memo day review ≡ false

none_before : (review : ℕ) (event : Event) (memo next : MemoFields) (events : List Event) → IsPassed review event memo next → NoCloseAdmits review events next → NoCloseAdmits review (event ∷ events) memo
none_before review event memo next events h none [] later period day e = h.none period day (cc)
none_before review event memo next events h none (first ∷ before) later period day e =
    let same : first ≡ event = cc in
    let rest : events ≡ before ++ Closed period day ∷ later = cc in
    rw (same, h.acted before) (none before later period day rest)

first_before : (review : ℕ) (event : Event) (memo next : MemoFields) (events : List Event) (period : ℕ) (amount : ℤ) → IsPassed review event memo next →
    IsFirstToAdmit review events next period amount → IsFirstToAdmit review (event ∷ events) memo period amount
first_before review event memo next events period amount h first = record {
  before = event ∷ first.before;
  day = first.day;
  later = first.later;
  split = ap (λ es. event ∷ es) first.split;
  none_before = none_before review event memo next first.before h first.none_before;
  admitted = rw (h.acted first.before) first.admitted;
  at_amount = rw (h.acted first.before) first.at_amount;
}

no_close_in_nothing : (review : ℕ) (memo : MemoFields) → NoCloseAdmits review [] memo
no_close_in_nothing review memo [] later period day e = absurd (cc e)
no_close_in_nothing review memo (first ∷ before) later period day e = absurd (cc e)

passed_action : (review : ℕ) (action : Action) (day : CivilDay) (memo : MemoFields) → IsPassed review (Acted action day) memo (after_action review action day memo)
passed_action review action day memo = record { acted = λ events. refl; none = λ period d e. absurd (cc e) }

passed_close : (review period : ℕ) (day : CivilDay) (memo : MemoFields) → admits memo day review ≡ false → IsPassed review (Closed period day) memo memo
passed_close review period day memo h = record {
  acted = λ events. refl;
  none = λ p d e. (let same : d ≡ day = cc in rw same h);
}

-- a memo that a close bills is at rest from then on
billed_rests : (review period : ℕ) (day : CivilDay) (memo : MemoFields) → admits memo day review ≡ true → IsAtRest (billed_in period memo)
billed_rests review period day memo h = billed_at_rest (billed_in period memo) refl (admitted_settles review period day memo h)

-- what the law says once a close has answered the test so
abbrev IsToldAfter : Bool → ℕ → ℕ → CivilDay → List Event → MemoFields → Type 0
IsToldAfter admitted review period day events memo =
    let next : MemoFields = if admitted then billed_in period memo else memo in
    let billed : List (ℕ × ℤ) = (if admitted then (period, memo.amount) ∷ [] else []) ++ billings review events next in
    MatchOption (after_events review events next).billed
    ((billed ≡ []) × NoCloseAdmits review (Closed period day ∷ events) memo)
    (λ p. (billed ≡ (p, (after_events review events next).amount) ∷ []) × IsFirstToAdmit review (Closed period day ∷ events) memo p (after_events review events next).amount)

told_closed : (review period : ℕ) (day : CivilDay) (events : List Event) (memo : MemoFields) (admitted : Bool) → admits memo day review ≡ admitted → IsToldOnce review events memo → IsToldAfter admitted review period day events memo
told_closed review period day events memo true h told =
    let rest = billed_rests review period day memo h in
    rw (after_events-at_rest review events (billed_in period memo) rest, billings-at_rest review events (billed_in period memo) rest)
    (refl, record { before = []; day = day; later = events; split = refl; none_before = no_close_in_nothing review memo; admitted = h; at_amount = refl })
told_closed review period day events memo false h told =
    let passed = passed_close review period day memo h in
    match_map (after_events review events memo).billed
    (λ t. (t.0, none_before review (Closed period day) memo memo events passed t.1))
    (λ p t. (t.0, first_before review (Closed period day) memo memo events p (after_events review events memo).amount passed t.1))
    told

told_once : (review : ℕ) (events : List Event) (memo : MemoFields) → memo.billed ≡ None → IsToldOnce review events memo
told_once review [] memo unbilled = match_none _ memo.billed unbilled (refl, no_close_in_nothing review memo)
told_once review (Acted action day ∷ events) memo unbilled =
    let next = after_action review action day memo in
    let passed = passed_action review action day memo in
    let told = told_once review events next (billed-left_by (answer_to memo action day review) action memo ∙ unbilled) in
    match_map (after_events review events next).billed
    (λ t. (t.0, none_before review (Acted action day) memo next events passed t.1))
    (λ p t. (t.0, first_before review (Acted action day) memo next events p (after_events review events next).amount passed t.1))
    told
told_once review (Closed period day ∷ events) memo unbilled =
    told_closed review period day events memo (admits memo day review) refl (told_once review events memo unbilled)

pub billed_once_holds : IsBilledOnce
billed_once_holds review events memo issued = told_once review events memo issued.billed

-- ---- disputes and withdrawals

-- a memo as issued fits its kind
unbilled_issue : (memo : MemoFields) → IsIssued memo → kind_fits memo ≡ true
unbilled_issue memo issued = by_kind memo.kind refl where
  by_kind : (kind : MemoKind) → memo.kind ≡ kind → kind_fits memo ≡ true
  by_kind Credit k = rw (k, issued.state) refl
  by_kind Debit k = rw k refl

-- a memo that a close bills does not stand disputed or withdrawn later
billed_stands : (review period : ℕ) (day : CivilDay) (events : List Event) (memo : MemoFields) → kind_fits memo ≡ true → admits memo day review ≡ true →
    (is_disputed (after_events review events (billed_in period memo)).state || is_withdrawn (after_events review events (billed_in period memo)).state) ≡ false
billed_stands review period day events memo k h =
    rw (after_events-at_rest review events (billed_in period memo) (billed_rests review period day memo h)) (admitted_stands review day memo k h)

not_closed : (review period : ℕ) (day : CivilDay) (events : List Event) (memo : MemoFields) (admitted : Bool) → admits memo day review ≡ admitted → kind_fits memo ≡ true →
    ((after_events review events memo).state ≡ Disputed → billings review events memo ≡ []) →
    (after_events review events (if admitted then billed_in period memo else memo)).state ≡ Disputed →
    (if admitted then (period, memo.amount) ∷ [] else []) ++ billings review events (if admitted then billed_in period memo else memo) ≡ []
not_closed review period day events memo true h k told s = absurd (cc (rw s at (billed_stands review period day events memo k h)))
not_closed review period day events memo false h k told s = told s

not_in_dispute : (review : ℕ) (events : List Event) (memo : MemoFields) → kind_fits memo ≡ true → (after_events review events memo).state ≡ Disputed → billings review events memo ≡ []
not_in_dispute review [] memo k s = refl
not_in_dispute review (Acted action day ∷ events) memo k s =
    not_in_dispute review events (after_action review action day memo) (kind_fits-after_action review action day memo k) s
not_in_dispute review (Closed period day ∷ events) memo k s =
    not_closed review period day events memo (admits memo day review) refl k (not_in_dispute review events memo k) s

pub not_billed_in_dispute : IsNotBilledInDispute
not_billed_in_dispute review events memo issued s = not_in_dispute review events memo (unbilled_issue memo issued) s

withdrawn_debit : (kind : MemoKind) (memo : MemoFields) → memo.kind ≡ kind → kind_fits memo ≡ true → memo.state ≡ Withdrawn → memo.kind ≡ Debit
withdrawn_debit Debit memo k fits s = k
withdrawn_debit Credit memo k fits s = absurd (cc (rw (k, s) at fits))

not_withdrawn_closed : (review period : ℕ) (day : CivilDay) (before later : List Event) (memo : MemoFields) (admitted : Bool) → admits memo day review ≡ admitted → kind_fits memo ≡ true →
    ((after_events review before memo).state ≡ Withdrawn → billings review (before ++ later) memo ≡ []) →
    (after_events review before (if admitted then billed_in period memo else memo)).state ≡ Withdrawn →
    (if admitted then (period, memo.amount) ∷ [] else []) ++ billings review (before ++ later) (if admitted then billed_in period memo else memo) ≡ []
not_withdrawn_closed review period day before later memo true h k told s = absurd (cc (rw s at (billed_stands review period day before memo k h)))
not_withdrawn_closed review period day before later memo false h k told s = told s

not_withdrawn : (review : ℕ) (before later : List Event) (memo : MemoFields) → kind_fits memo ≡ true → (after_events review before memo).state ≡ Withdrawn → billings review (before ++ later) memo ≡ []
not_withdrawn review [] later memo k s = billings-at_rest review later memo (withdrawn_at_rest memo s (withdrawn_debit memo.kind memo refl k s))
not_withdrawn review (Acted action day ∷ before) later memo k s =
    not_withdrawn review before later (after_action review action day memo) (kind_fits-after_action review action day memo k) s
not_withdrawn review (Closed period day ∷ before) later memo k s =
    not_withdrawn_closed review period day before later memo (admits memo day review) refl k (not_withdrawn review before later memo k) s

pub not_billed_withdrawn : IsNotBilledWithdrawn
not_billed_withdrawn review before later memo issued s = not_withdrawn review before later memo (unbilled_issue memo issued) s

-- ---- credit memos

credit_first : (review : ℕ) (before later : List Event) (period : ℕ) (day : CivilDay) (memo : MemoFields) → memo.billed ≡ None → memo.kind ≡ Credit → HasNoClose before →
    billings review (before ++ Closed period day ∷ later) memo ≡ (period, memo.amount) ∷ []
credit_first review [] later period day memo unbilled k none =
    let admitted : admits memo day review ≡ true = rw (unbilled, k) refl in
    rw (admitted, billings-at_rest review later (billed_in period memo) (billed_rests review period day memo admitted)) refl
credit_first review (Acted action d ∷ before) later period day memo unbilled k none =
    let settled : is_settled memo.kind memo.state (is_some memo.billed) ≡ true = rw k refl in
    rw (settled_stays review action d memo settled) (credit_first review before later period day memo unbilled k none)
credit_first review (Closed p d ∷ before) later period day memo unbilled k none = absurd none

pub credit_billed_first : IsCreditBilledFirst
credit_billed_first review before later period day memo issued k none =
    credit_first review before later period day memo issued.billed k none ∙ ap (λ (amount : ℤ). (period, amount) ∷ []) issued.amount
