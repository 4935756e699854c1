-- What accepted requests have made of a plan, read off the list of them.
use Rattle.std.specs.Prelude.{◌≡◌, ℕ, ◌==◌, ◌⊎◌, Bool, true, false, List, [], ◌∷◌, ◌++◌, map, Some, None, Result, Ok}
use Rattle.std.specs.List.{Contains, flat_map, list_any}
use Rattle.bsp_fields.specs.CivilDay.{CivilDay}
use Rattle.bsp_calendar.specs.Published.{Published, opening}
use Rattle.bsp_calendar.specs.Requests.{once, same_airline, same_rate, same_period, same_tax, extended, on_day, closing}
use Rattle.bsp_calendar.specs.SoundPlan.{Grows, IsSoundPlan}
use Rattle.bsp_calendar.specs.declared.entries.CommissionTax.{CommissionTax}
use Rattle.bsp_calendar.specs.declared.entries.Period.{Period}
use Rattle.bsp_calendar.specs.declared.entries.PlanText.{PlanText}
use Rattle.bsp_calendar.specs.declared.entries.Rate.{Rate}
use Rattle.bsp_calendar.specs.declared.entries.Terms.{Terms}
use Rattle.bsp_calendar.specs.declared.fault.PlanFault.{PlanFault}

-- a text is published, the business day is set, the period of a code is closed
pub data Request : Type 0 where
  Publish : PlanText → Request
  SetDay : CivilDay → Request
  Close : ℕ → Request

-- the plan that a request makes, or why it is refused
abbrev pub outcome : Published → Request → Result Published PlanFault
outcome plan (Publish text) = extended plan text
outcome plan (SetDay day) = on_day plan day
outcome plan (Close code) = closing plan code

-- requests lead from a plan to a plan, and each was accepted
abbrev pub IsReached : Published → List Request → Published → Type 0
IsReached start [] reached = reached ≡ start
IsReached start (request ∷ requests) reached =
    (next : Published) × (outcome start request ≡ Ok next) × IsReached next requests reached

-- ---- what is read off a request

abbrev pub airlines_of : Request → List ℕ
airlines_of (Publish text) = text.airlines.items
airlines_of (SetDay day) = []
airlines_of (Close code) = []

abbrev pub rates_of : Request → List Rate
rates_of (Publish text) = text.rates.items
rates_of (SetDay day) = []
rates_of (Close code) = []

abbrev pub periods_of : Request → List Period
periods_of (Publish text) = text.periods.items
periods_of (SetDay day) = []
periods_of (Close code) = []

abbrev pub taxes_of : Request → List CommissionTax
taxes_of (Publish text) = text.commission_taxes.items
taxes_of (SetDay day) = []
taxes_of (Close code) = []

abbrev pub closes_of : Request → List ℕ
closes_of (Publish text) = []
closes_of (SetDay day) = []
closes_of (Close code) = code ∷ []

abbrev pub publishes : Request → Bool
publishes (Publish text) = true
publishes (SetDay day) = false
publishes (Close code) = false

abbrev pub sets_day : Request → Bool
sets_day (Publish text) = false
sets_day (SetDay day) = true
sets_day (Close code) = false

abbrev pub same_code : ℕ → ℕ → Bool
same_code a b = a == b

-- ---- what is read off the list

-- the day is the last that was set, or that of the start where none was set
abbrev pub IsLastDay : CivilDay → List Request → CivilDay → Type 0
IsLastDay first requests day =
    ((before : List Request) × ((after : List Request) × (requests ≡ before ++ SetDay day ∷ after) × (list_any sets_day after ≡ false)))
    ⊎ ((list_any sets_day requests ≡ false) × (day ≡ first))

-- the entries are those of the start and of all texts, each once, in the order of their first publication; the terms those
-- of every text, and of the start where it has terms or no text is published; the day the last that was set, or that of the
-- start; and the closed periods those of the start and those that were closed, in the order of their closing
pub record IsHistory (start : Published) (requests : List Request) (plan : Published) : Type 0 where
  pub airlines : plan.airlines ≡ once same_airline (start.airlines ++ flat_map airlines_of requests)
  pub rates : plan.rates ≡ once same_rate (start.rates ++ flat_map rates_of requests)
  pub periods : plan.periods ≡ once same_period (start.periods ++ flat_map periods_of requests)
  pub commission_taxes : plan.commission_taxes ≡ once same_tax (start.commission_taxes ++ flat_map taxes_of requests)
  pub terms : (text : PlanText) → Contains requests (Publish text) → plan.terms ≡ Some text.terms
  pub old_terms : (terms : Terms) → start.terms ≡ Some terms → plan.terms ≡ Some terms
  pub no_terms : list_any publishes requests ≡ false → plan.terms ≡ start.terms
  pub day : IsLastDay start.day requests plan.day
  pub closed : plan.closed ≡ once same_code (start.closed ++ flat_map closes_of requests)

-- ---- the laws

-- what is reached from a sound plan is the history of that start and its requests
abbrev pub HistoryHolds : Type 0
HistoryHolds = (start : Published) (requests : List Request) (plan : Published) → IsSoundPlan start → IsReached start requests plan → IsHistory start requests plan

-- an accepted request makes a sound plan of a sound plan
abbrev pub SoundKept : Type 0
SoundKept = (p : Published) (request : Request) (m : Published) → IsSoundPlan p → outcome p request ≡ Ok m → IsSoundPlan m

-- a text with the terms and the entries of a plan
pub record IsTextOf (p : Published) (text : PlanText) : Type 0 where
  pub terms : p.terms ≡ Some text.terms
  pub airlines : text.airlines.items ≡ p.airlines
  pub rates : text.rates.items ≡ p.rates
  pub periods : text.periods.items ≡ p.periods
  pub commission_taxes : text.commission_taxes.items ≡ p.commission_taxes

-- what makes a plan: its entries are published in one text, its business day is set, and its closed periods are closed in turn
abbrev pub made_by : PlanText → Published → List Request
made_by text p = Publish text ∷ SetDay p.day ∷ map (λ code. Close code) p.closed

-- a sound plan is made again from the opening, each request accepted: of its entries, its day and its closes; or of its
-- day alone where no terms are published
pub record IsMadeAgain (p : Published) : Type 0 where
  pub with_terms : (text : PlanText) → IsTextOf p text → IsReached opening (made_by text p) p
  pub without_terms : p.terms ≡ None → IsReached opening (SetDay p.day ∷ []) p

abbrev pub SoundMadeAgain : Type 0
SoundMadeAgain = (p : Published) → IsSoundPlan p → IsMadeAgain p

-- whatever is requested of a sound plan: its closed periods and their forms, its terms, its rates and taxes on the days that have begun and what else
-- `Grows` names stay
abbrev pub ClosedStays : Type 0
ClosedStays = (p : Published) (requests : List Request) (m : Published) → IsSoundPlan p → IsReached p requests m → Grows p m
