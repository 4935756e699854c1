-- Lemmas on lists of actions and closes.
use Rattle.std.proofs.Common.{◌≡◌, ℕ, Bool, true, false, not, ◌&&◌, List, [], ◌∷◌, is_some, refl}
use Rattle.bsp_fields.specs.CivilDay.{CivilDay}
use Rattle.bsp_memos.specs.declared.fields.MemoFields.{MemoFields}
use Rattle.bsp_memos.specs.declared.state.MemoState.TheVariants.{Withdrawn}
use Rattle.bsp_memos.specs.declared.kind.MemoKind.TheVariants.{Debit}
use Rattle.bsp_memos.specs.Steps.{Action}
use Rattle.bsp_memos.specs.Billing.{admits}
use Rattle.bsp_memos.specs.Lives.{Event, Acted, Closed, after_action, after_events, billings}
use Rattle.bsp_memos.proofs.StepLemmas.{is_settled, settled_stays, withdrawn_stays}

-- what stays the same through actions, and is admitted by no close, is never billed and never changes
pub record IsAtRest (memo : MemoFields) : Type 0 where
  pub actions : (review : ℕ) (action : Action) (day : CivilDay) → after_action review action day memo ≡ memo
  pub closes : (review : ℕ) (day : CivilDay) → admits memo day review ≡ false

pub after_events-at_rest : (review : ℕ) (events : List Event) (memo : MemoFields) → IsAtRest memo → after_events review events memo ≡ memo
after_events-at_rest review [] memo h = refl
after_events-at_rest review (Acted action day ∷ events) memo h = rw (h.actions review action day) (after_events-at_rest review events memo h)
after_events-at_rest review (Closed period day ∷ events) memo h = rw (h.closes review day) (after_events-at_rest review events memo h)

pub billings-at_rest : (review : ℕ) (events : List Event) (memo : MemoFields) → IsAtRest memo → billings review events memo ≡ []
billings-at_rest review [] memo h = refl
billings-at_rest review (Acted action day ∷ events) memo h = rw (h.actions review action day) (billings-at_rest review events memo h)
billings-at_rest review (Closed period day ∷ events) memo h = rw (h.closes review day) (billings-at_rest review events memo h)

-- a billed memo that is settled
pub billed_at_rest : (memo : MemoFields) → is_some memo.billed ≡ true → is_settled memo.kind memo.state (is_some memo.billed) ≡ true → IsAtRest memo
billed_at_rest memo billed settled = record { actions = λ review action day. settled_stays review action day memo settled; closes = λ review day. rw billed refl }

never : (b : Bool) → (b && false) ≡ false
never true = refl
never false = refl

-- a withdrawn debit memo
pub withdrawn_at_rest : (memo : MemoFields) → memo.state ≡ Withdrawn → memo.kind ≡ Debit → IsAtRest memo
withdrawn_at_rest memo s k = record { actions = λ review action day. withdrawn_stays review action day memo s k; closes = λ review day. rw (k, s) (never (not (is_some memo.billed))) }
