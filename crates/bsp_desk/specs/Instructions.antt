-- What a known caller is answered before it is a text.
use Rattle.std.specs.Prelude.{◌≡◌, ℕ, List, Some, None, Ok, Result, IfOk}
use Rattle.bsp_book.specs.Calls.{Faults, Meaning}
use Rattle.bsp_book.specs.declared.fault.BookFault.{BookFault}
use Rattle.bsp_messages.specs.declared.answer.Answer.{Answer as Message}
use Rattle.bsp_ret.specs.Ret.{File}
use Rattle.bsp_rows.specs.Decimal.{fixed_digits}
use Rattle.bsp_rows.specs.Rows.{Rows}
use Rattle.bsp_rows.specs.Sound.{Sound}
use Rattle.bsp_rows.specs.Transaction.{Transaction}
use Rattle.bsp_rows.specs.Writing.{HaveContents}
use Rattle.bsp_desk_writes.specs.After.{agent_after, office_after}
use Rattle.bsp_desk_writes.specs.Answers.{Answer}
use Rattle.bsp_desk_writes.specs.Ledger.{ledger_answer, ledger_of}
use Rattle.bsp_desk_writes.specs.Requests.{AgentRequest, IsPlanOf, OfficeRequest, PlanRead}
use Rattle.bsp_desk_writes.specs.Requests.AgentRequest.{AgentFile, AskStatement}
use Rattle.bsp_desk_writes.specs.Requests.OfficeRequest.{AllotRange, ClosePeriod, PublishPlan, RegisterAgent, SetBusinessDay}
use Rattle.bsp_desk_writes.specs.Serves.{FallsBackSound, LeavesLastSound, Serves}
use Rattle.bsp_desk_writes.specs.Step.{office_answer}
use Rattle.bsp_desk_writes.specs.Texts.{Says}
use Rattle.bsp_desk.specs.declared.instruction.Instruction.{Instruction}
use Rattle.bsp_desk.specs.declared.instruction.Instruction.TheVariants.{Publish, SetDay, Register, Allot, Close, Statement}

-- what the office itself asks, or an agent itself
pub data Own : Type 0 where
  OfOffice : (request : OfficeRequest) → Own
  OfAgent : (agent : ℕ) (request : AgentRequest) → Own

-- what it is answered over rows
abbrev pub own_answer : Own → Rows → Answer
own_answer (OfOffice request) rows = office_answer request rows
own_answer (OfAgent agent request) rows = ledger_answer agent (ledger_of agent rows) request

-- and the rows after it
abbrev pub own_after : Own → Rows → Rows
own_after (OfOffice request) rows = office_after request rows
own_after (OfAgent agent request) rows = agent_after agent request rows

-- the instruction asks this; the plan text is what its bytes are read as
abbrev pub IsMeant : Instruction → Own → Type 0
IsMeant (Publish text) own = (read : PlanRead) × IsPlanOf text.now read × (own ≡ OfOffice (PublishPlan read))
IsMeant (SetDay day) own = own ≡ OfOffice (SetBusinessDay (Some day))
IsMeant (Register agent token) own = own ≡ OfOffice (RegisterAgent (Some (record { agent = record { code = Some agent }; token = token })))
IsMeant (Allot agent first last) own = own ≡ OfOffice (AllotRange (Some (record { agent = record { code = Some agent }; range = record { first = first; last = last } })))
IsMeant (Close period) own = own ≡ OfOffice (ClosePeriod (Some period))
IsMeant (Statement agent period) own = own ≡ OfAgent agent (AskStatement (fixed_digits 5 period))

-- an agent reports a file, which has these transactions
abbrev pub IsReport : ℕ → File → Own → Type 0
IsReport agent file own = (ts : List Transaction) × HaveContents 1 file.groups ts × (own ≡ OfAgent agent (AgentFile (Ok ts)))

-- of what is asked, which `Is` says
module _ {B : Type 0} (m : Meaning B Rows) (old new : B) (Is : Own → Type 0) where
  -- over sound rows, with no transaction open
  abbrev pub OfOwn : (Rows → Own → Type 0) → Type 0
  OfOwn P = (own : Own) → Is own → m.trusts new → (rows : Rows) → Sound rows → m.holds old rows None → P rows own

  -- in the open transaction it is answered over the rows, which become those after it
  abbrev pub ServesOwn : Result Message BookFault → Type 0
  ServesOwn result = (own : Own) → Is own → Serves m old new result (own_answer own) (own_after own)

  -- what is owed in the open transaction
  abbrev pub EndsWithin : Result Message BookFault → Type 0
  EndsWithin result =
      Faults m old new ((own : Own) → Is own → FallsBackSound m old new) ((own : Own) → Is own → LeavesLastSound m old new) result

  -- the answer, and what the book then holds
  abbrev pub CommitsOwn : Result Message BookFault → Type 0
  CommitsOwn result = IfOk result (λ message. OfOwn (λ rows own. Says (own_answer own rows) message × m.holds new (own_after own rows) None))

  -- where there is no room the rows stay; after a failure a stop leaves them, or those after the request
  abbrev pub EndsOwn : Result Message BookFault → Type 0
  EndsOwn result = Faults m old new (OfOwn (λ rows own. m.holds new rows None)) (OfOwn (λ rows own. m.leaves new rows (own_after own rows))) result

  -- what is answered, what the book then holds, and what a fault leaves
  pub record Outcome (result : Result Message BookFault) : Type 0 where
    -- the answer is that over the rows
    pub answered : IfOk result (λ message. OfOwn (λ rows own. Says (own_answer own rows) message))
    -- and the book then holds the rows after it, which are sound again
    pub kept : IfOk result (λ message. OfOwn (λ rows own. Sound (own_after own rows) × m.holds new (own_after own rows) None))
    pub fault : EndsOwn result
