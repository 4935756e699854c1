-- What an office is asked in a trial, one request after the other, from no rows.
use Rattle.std.specs.Prelude.{◌≡◌, ℕ, ◌+◌, List, [], ◌∷◌, ◌++◌, drop, map, length, if◌then◌else◌, Ok, Option, None, Some}
use Rattle.std.specs.List.{filter}
use Rattle.bsp_fields.specs.CivilDay.{CivilDay}
use Rattle.bsp_fields.specs.Decimal.{fixed_digits}
use Rattle.bsp_calendar.specs.DayOrder.{is_before, is_up_to}
use Rattle.bsp_calendar.specs.Published.{Published, period_of}
use Rattle.bsp_calendar.specs.declared.entries.Period.{Period}
use Rattle.bsp_ret.specs.Lines.{lines}
use Rattle.bsp_ret.specs.Table.{first_fault}
use Rattle.bsp_ret.specs.declared.model.RetFault.{RetFault}
use Rattle.bsp_rows.specs.Transaction.{Transaction}
use Rattle.bsp_messages.specs.declared.refusal.RequestRefusal.{RequestRefusal}
use Rattle.bsp_rows.specs.Rows.{Rows}
use Rattle.bsp_desk_writes.specs.Answers.{Answer}
use Rattle.bsp_desk_writes.specs.Answers.Answer.{Changed, Verdicts, Statement, Refused}
use Rattle.bsp_desk_writes.specs.Requests.{IsFileOf, IsPlanOf, PlanRead}
use Rattle.bsp_desk_writes.specs.Requests.AgentRequest.{AgentFile, AskStatement}
use Rattle.bsp_desk_writes.specs.Requests.OfficeRequest.{AllotRange, ClosePeriod, PublishPlan, RegisterAgent, SetBusinessDay}
use Rattle.bsp_desk.specs.Instructions.{Own, own_after, own_answer}
use Rattle.bsp_desk.specs.Instructions.Own.{OfAgent, OfOffice}
use Rattle.bsp_judge.specs.declared.setup.Earlier.{Earlier}
use Rattle.bsp_judge.specs.declared.setup.Earlier.TheVariants.{File, Closed}
use Rattle.bsp_judge.specs.declared.setup.Setup.{Setup}
use Rattle.bsp_judge.specs.declared.setup.Step.{Step}
use Rattle.bsp_judge.specs.declared.setup.Step.TheVariants as step

-- what is asked, with the text of a plan or of a file
pub data Task : Type 0 where
  Publish : (text : List ℕ) → Task
  SetDay : (day : CivilDay) → Task
  Register : (agent : ℕ) → Task
  Allot : (agent first last : ℕ) → Task
  Close : (period : ℕ) → Task
  Report : (agent : ℕ) (text : List ℕ) → Task
  AskFor : (agent period : ℕ) → Task

-- it is this request of `bsp_office_spec`; the agent is registered with some token
abbrev pub Asks : Task → Own → Type 0
Asks (Publish text) own = (read : PlanRead) × IsPlanOf text read × (own ≡ OfOffice (PublishPlan read))
Asks (SetDay day) own = own ≡ OfOffice (SetBusinessDay (Some day))
Asks (Register agent) own = (token : List ℕ) × (own ≡ OfOffice (RegisterAgent (Some (record { agent = record { code = Some agent }; token = token }))))
Asks (Allot agent first last) own = own ≡ OfOffice (AllotRange (Some (record { agent = record { code = Some agent }; range = record { first = first; last = last } })))
Asks (Close period) own = own ≡ OfOffice (ClosePeriod (Some period))
Asks (Report agent text) own = (ts : List Transaction) × IsFileOf text (Ok ts) × (own ≡ OfAgent agent (AgentFile (Ok ts)))
Asks (AskFor agent period) own = own ≡ OfAgent agent (AskStatement (fixed_digits 5 period))

-- a change is done or held, a file has its verdicts, or there is a statement
abbrev pub IsPassed : Answer → Type 0
IsPassed (Changed change) = Unit {0}
IsPassed (Verdicts verdicts) = Unit {0}
IsPassed (Statement agent taxed report) = Unit {0}
IsPassed _ = ⊥

-- so it is answered over the rows, which become those after it
pub record Takes (rows : Rows) (task : Task) (next : Rows) : Type 0 where
  pub own : Own
  pub asks : Asks task own
  pub passed : IsPassed (own_answer own rows)
  pub after : next ≡ own_after own rows

-- it is refused over the rows
pub record IsRefused (refusal : RequestRefusal) (rows : Rows) (task : Task) : Type 0 where
  pub own : Own
  pub asks : Asks task own
  pub answered : own_answer own rows ≡ Refused refusal

-- this is the first fault of the text
abbrev pub HasRetFault : List ℕ → RetFault → Type 0
HasRetFault text fault = first_fault (lines text) ≡ Some fault

-- it is a file with this fault
abbrev pub HasFault : RetFault → Rows → Task → Type 0
HasFault fault rows (Report agent text) = HasRetFault text fault
HasFault fault rows _ = ⊥

-- ---- the requests of a trial

-- the plan texts are published in turn
abbrev pub plan_tasks : Setup → List Task
plan_tasks s = map (λ text. Publish text.items) s.plans.now

-- the day is set, and the agent is registered
abbrev pub caller_tasks : Setup → List Task
caller_tasks s = SetDay s.day ∷ Register s.agent ∷ []

-- its ranges are allotted in turn
abbrev pub stock_tasks : Setup → List Task
stock_tasks s = map (λ range. Allot s.agent range.first range.last) s.stock.now

-- the agent reports a file, or the office closes a period
abbrev pub earlier_task : ℕ → Earlier → Task
earlier_task agent (File text) = Report agent text.items
earlier_task agent (Closed period) = Close period

abbrev pub earlier_tasks : Setup → List Task
earlier_tasks s = map (earlier_task s.agent) s.earlier.now

-- all of them, in this order
abbrev pub tasks : Setup → List Task
tasks s = plan_tasks s ++ (caller_tasks s ++ (stock_tasks s ++ earlier_tasks s))

-- ---- the requests for a statement

abbrev pub later_day : CivilDay → CivilDay → CivilDay
later_day a b = if is_before a b then b else a

-- the periods that are not closed and end by a day: the first ones of a plan are closed
abbrev pub open_until : CivilDay → Published → List Period
open_until last plan = filter (λ q. is_up_to q.last last) (drop (length plan.closed) plan.periods)

-- the day is set to the period's remittance day, unless it is later, and each open period up to this one is closed
abbrev pub closing_of : Published → Option Period → List Task
closing_of plan None = []
closing_of plan (Some q) = SetDay (later_day plan.day q.remittance) ∷ map (λ r. Close r.code) (open_until q.last plan)

abbrev pub closing_tasks : Rows → ℕ → List Task
closing_tasks rows period = closing_of rows.published (period_of rows.published period)

-- then the agent asks for its statement
abbrev pub statement_tasks : ℕ → Rows → ℕ → List Task
statement_tasks agent rows period = closing_tasks rows period ++ AskFor agent period ∷ []

-- ---- places

-- the place of a step among the requests of a trial: those before the file, the file, and those for a statement
abbrev pub place_of : Setup → Step → ℕ
place_of s (step.Plan i) = i
place_of s step.Day = length s.plans.now
place_of s step.Agent = length s.plans.now + 1
place_of s (step.Stock i) = length s.plans.now + 2 + i
place_of s (step.Closed i) = length s.plans.now + 2 + length s.stock.now + i
place_of s (step.Closing i) = length (tasks s) + 1 + i
