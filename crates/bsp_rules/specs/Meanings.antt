-- What each verdict says of the rows of the table.
use Rattle.std.specs.Prelude.{◌≡◌, ◌↔◌, ℕ, ◌<◌, Bool, true, false, List, ◌∷◌, ◌++◌, Some, None, is_some}
use Rattle.std.specs.List.{list_any}
use Rattle.bsp_fields.specs.Decimal.{fixed_digits}
use Rattle.bsp_calendar.specs.DayOrder.{is_before}
use Rattle.bsp_calendar.specs.Published.{Published, has_airline, rate_on, target_of}
use Rattle.bsp_ret_records.specs.declared.codes.TransactionCode.{TransactionCode}
use Rattle.bsp_ret_records.specs.declared.codes.TransactionCode.TheVariants.{Tktt, Rfnd, Canx}
use Rattle.bsp_ret_records.specs.declared.transactions.Transaction.{Transaction}
use Rattle.bsp_rules.specs.declared.facts.Facts.{Facts}
use Rattle.bsp_rules.specs.declared.verdict.Refusal.{Refusal}
use Rattle.bsp_rules.specs.declared.verdict.Refusal.TheVariants.{WrongAgent}
use Rattle.bsp_rules.specs.declared.verdict.Reporter.{Reporter}
use Rattle.bsp_rules.specs.declared.verdict.Reporter.TheVariants.{Office, Agent}
use Rattle.bsp_rules.specs.declared.verdict.Verdict.{Verdict}
use Rattle.bsp_rules.specs.declared.verdict.Verdict.TheVariants.{Held, Accepted, Refused}
use Rattle.bsp_rules.specs.Amounts.{has_wrong_amounts}
use Rattle.bsp_rules.specs.Tickets.{disagrees_with_tickets}
use Rattle.bsp_rules.specs.Verdicts.{has_ended, has_wrong_agent, has_wrong_check_digit, is_ended, is_missing, is_number_used, lacks_ticket, limit_of, rows, verdict_on}

-- no row of the table applies, and the period is the target
pub record IsPassed (reporter : Reporter) (t : Transaction) (f : Facts) (p : Published) (period : ℕ) : Type 0 where
  pub agent : has_wrong_agent reporter t f ≡ false
  pub held : f.held ≡ None
  pub airline : has_airline p t.document.airline ≡ true
  pub check_digits : has_wrong_check_digit t ≡ false
  pub issued : is_before p.day t.issued ≡ false
  pub in_stock : f.in_range ≡ true
  pub number : is_number_used t.code f.own ≡ false
  pub amounts : has_wrong_amounts t (rate_on p t.document.airline t.issued) ≡ false
  pub tickets : lacks_ticket t f ≡ false
  pub ended : has_ended t f ≡ false
  pub agreed : disagrees_with_tickets t f.related ≡ false
  pub target : target_of p t.issued ≡ Some period
  pub limit : f.count < limit_of p.terms

-- accepted exactly where no row applies
abbrev pub AcceptedIsPassed : Type 0
AcceptedIsPassed =
    (reporter : Reporter) (t : Transaction) (f : Facts) (p : Published) (period : ℕ) →
    (verdict_on reporter t f p ≡ Accepted period) ↔ IsPassed reporter t f p period

-- held exactly where the agent is right and the facts have that period, whatever else applies
abbrev pub HeldIsFound : Type 0
HeldIsFound =
    (reporter : Reporter) (t : Transaction) (f : Facts) (p : Published) (period : ℕ) →
    (verdict_on reporter t f p ≡ Held period) ↔ ((has_wrong_agent reporter t f ≡ false) × (f.held ≡ Some period))

-- the office reports for any agent, and an agent what bears its own code
abbrev pub IsReporterOf : Reporter → Transaction → Type 0
IsReporterOf Office t = Unit {0}
IsReporterOf (Agent agent) t = t.agent ≡ fixed_digits 8 agent

-- the agent is right exactly where it is registered and the reporter reports for it
abbrev pub AgentIsReporters : Type 0
AgentIsReporters =
    (reporter : Reporter) (t : Transaction) (f : Facts) →
    (has_wrong_agent reporter t f ≡ false) ↔ ((f.registered ≡ true) × IsReporterOf reporter t)

-- E02 exactly where the agent is wrong, whatever else applies
abbrev pub WrongAgentIsFirst : Type 0
WrongAgentIsFirst =
    (reporter : Reporter) (t : Transaction) (f : Facts) (p : Published) →
    (verdict_on reporter t f p ≡ Refused WrongAgent) ↔ (has_wrong_agent reporter t f ≡ true)

-- a row of the table applies, and none before it
pub record IsFirstRow (table : List (Bool × Verdict)) (verdict : Verdict) : Type 0 where
  pub before : List (Bool × Verdict)
  pub later : List (Bool × Verdict)
  pub split : table ≡ before ++ (true, verdict) ∷ later
  pub none_before : list_any (λ row. row.0) before ≡ false

-- what is refused is refused by the first row that applies
abbrev pub RefusedIsFirst : Type 0
RefusedIsFirst =
    (reporter : Reporter) (t : Transaction) (f : Facts) (p : Published) (refusal : Refusal) →
    verdict_on reporter t f p ≡ Refused refusal → IsFirstRow (rows reporter t f p) (Refused refusal)

-- ---- the tickets of what is accepted

-- an RFND, and a TKTT with an exchange
abbrev pub ends_tickets : TransactionCode → Bool → Bool
ends_tickets Tktt exchange = exchange
ends_tickets Rfnd exchange = true
ends_tickets Canx exchange = false

-- of a transaction that ends tickets and is accepted some document is related, and none is missing or ended
abbrev pub AcceptedTicketsLive : Type 0
AcceptedTicketsLive =
    (reporter : Reporter) (t : Transaction) (f : Facts) (p : Published) (period : ℕ) → IsPassed reporter t f p period →
    ends_tickets t.code (is_some t.exchange) ≡ true →
    (list_any is_some f.related ≡ true) × ((list_any (is_missing t.document.airline) f.related ≡ false) × (list_any is_ended f.related ≡ false))

-- the facts on the number of a CANX that is accepted
pub record IsFreeToCancel (f : Facts) : Type 0 where
  pub not_cancelled : f.own.is_cancelled ≡ false
  pub own_airline : f.own.is_of_another_airline ≡ false
  pub unclosed : f.own.is_in_closed_period ≡ false
  pub unrelated : f.own.is_related_to ≡ false

abbrev pub AcceptedCanxIsFree : Type 0
AcceptedCanxIsFree =
    (reporter : Reporter) (t : Transaction) (f : Facts) (p : Published) (period : ℕ) → IsPassed reporter t f p period →
    t.code ≡ Canx → IsFreeToCancel f
