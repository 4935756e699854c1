-- What happens to a memo from its issue on, and the law of its billing.
use Rattle.std.specs.Prelude.{◌≡◌, ℕ, true, false, if◌then◌else◌, List, [], ◌∷◌, ◌++◌, ℤ, None, MatchOption}
use Rattle.bsp_fields.specs.CivilDay.{CivilDay}
use Rattle.bsp_memos.specs.declared.fields.MemoFields.{MemoFields}
use Rattle.bsp_memos.specs.declared.kind.MemoKind.TheVariants.{Credit}
use Rattle.bsp_memos.specs.declared.state.MemoState.TheVariants.{Open, Disputed, Withdrawn}
use Rattle.bsp_memos.specs.Steps.{Action, answer_to, left_by}
use Rattle.bsp_memos.specs.Billing.{admits, billed_in}

-- an action, or a close of a period, on a day
pub data Event : Type 0 where
  Acted : (action : Action) → (day : CivilDay) → Event
  Closed : (period : ℕ) → (day : CivilDay) → Event

-- the memo after an action, whatever is answered
abbrev pub after_action : ℕ → Action → CivilDay → MemoFields → MemoFields
after_action review action day memo = left_by (answer_to memo action day review) action memo

-- the memo after an event; a close bills it where it admits it
abbrev pub after_event : ℕ → Event → MemoFields → MemoFields
after_event review (Acted action day) memo = after_action review action day memo
after_event review (Closed period day) memo = if admits memo day review then billed_in period memo else memo

-- the memo after these events
abbrev pub after_events : ℕ → List Event → MemoFields → MemoFields
after_events review [] memo = memo
after_events review (event ∷ events) memo = after_events review events (after_event review event memo)

-- what an event bills: a period and an amount, or nothing
abbrev pub billing_at : ℕ → Event → MemoFields → List (ℕ × ℤ)
billing_at review (Acted action day) memo = []
billing_at review (Closed period day) memo = if admits memo day review then (period, memo.amount) ∷ [] else []

-- all that these events bill, in order
abbrev pub billings : ℕ → List Event → MemoFields → List (ℕ × ℤ)
billings review [] memo = []
billings review (event ∷ events) memo = billing_at review event memo ++ billings review events (after_event review event memo)

-- the memo as the actions among these events leave it, had no close billed it
abbrev pub as_acted : ℕ → List Event → MemoFields → MemoFields
as_acted review [] memo = memo
as_acted review (Acted action day ∷ events) memo = as_acted review events (after_action review action day memo)
as_acted review (Closed period day ∷ events) memo = as_acted review events memo

-- no close among these events admits the memo as the actions before that close left it
abbrev pub NoCloseAdmits : ℕ → List Event → MemoFields → Type 0
NoCloseAdmits review events memo =
    (before later : List Event) (period : ℕ) (day : CivilDay) → events ≡ before ++ Closed period day ∷ later → admits (as_acted review before memo) day review ≡ false

-- the first close that admits the memo, as the actions before it left it, is this period's, and the amount is the memo's then
pub record IsFirstToAdmit (review : ℕ) (events : List Event) (memo : MemoFields) (period : ℕ) (amount : ℤ) : Type 0 where
  pub before : List Event
  pub day : CivilDay
  pub later : List Event
  pub split : events ≡ before ++ Closed period day ∷ later
  pub none_before : NoCloseAdmits review before memo
  pub admitted : admits (as_acted review before memo) day review ≡ true
  pub at_amount : amount ≡ (as_acted review before memo).amount

-- no event is a close
abbrev pub HasNoClose : List Event → Type 0
HasNoClose [] = Unit {0}
HasNoClose (Acted action day ∷ events) = HasNoClose events
HasNoClose (Closed period day ∷ events) = ⊥

-- as a memo is issued
pub record IsIssued (memo : MemoFields) : Type 0 where
  pub state : memo.state ≡ Open
  pub billed : memo.billed ≡ None
  pub amount : memo.amount ≡ memo.issued_amount

-- what was issued
pub record KeepsIssue (old new : MemoFields) : Type 0 where
  pub airline : new.airline ≡ old.airline
  pub document : new.document ≡ old.document
  pub agent : new.agent ≡ old.agent
  pub kind : new.kind ≡ old.kind
  pub issued_amount : new.issued_amount ≡ old.issued_amount
  pub reason : new.reason ≡ old.reason
  pub issued : new.issued ≡ old.issued

-- no action and no close changes what was issued
abbrev pub IsIssueKept : Type 0
IsIssueKept = (review : ℕ) (events : List Event) (memo : MemoFields) → KeepsIssue memo (after_events review events memo)

-- a memo is billed in the first close that admits it, at its amount then, and in no other; where none admits it, it is not billed
abbrev pub IsBilledOnce : Type 0
IsBilledOnce =
    (review : ℕ) (events : List Event) (memo : MemoFields) → IsIssued memo →
    let end = after_events review events memo in
    MatchOption end.billed
    ((billings review events memo ≡ []) × NoCloseAdmits review events memo)
    (λ period. (billings review events memo ≡ (period, end.amount) ∷ []) × IsFirstToAdmit review events memo period end.amount)

-- a memo that stands disputed was billed by no close up to then
abbrev pub IsNotBilledInDispute : Type 0
IsNotBilledInDispute =
    (review : ℕ) (events : List Event) (memo : MemoFields) → IsIssued memo →
    (after_events review events memo).state ≡ Disputed → billings review events memo ≡ []

-- a memo that is withdrawn was billed by no close before, and is billed by none later
abbrev pub IsNotBilledWithdrawn : Type 0
IsNotBilledWithdrawn =
    (review : ℕ) (before later : List Event) (memo : MemoFields) → IsIssued memo →
    (after_events review before memo).state ≡ Withdrawn → billings review (before ++ later) memo ≡ []

-- a credit memo is billed by the first close after its issue, at the amount as issued
abbrev pub IsCreditBilledFirst : Type 0
IsCreditBilledFirst =
    (review : ℕ) (before later : List Event) (period : ℕ) (day : CivilDay) (memo : MemoFields) → IsIssued memo → memo.kind ≡ Credit → HasNoClose before →
    billings review (before ++ Closed period day ∷ later) memo ≡ (period, memo.issued_amount) ∷ []
