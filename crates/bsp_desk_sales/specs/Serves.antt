-- What a part of a request makes of a book whose transaction is open.
use Rattle.std.specs.Prelude.{ℕ, Some, None, Result, IfOk}
use Rattle.bsp_book.specs.Calls.{Faults, Meaning}
use Rattle.bsp_book.specs.declared.fault.BookFault.{BookFault}
use Rattle.bsp_office_spec.specs.Answer.{Answer as Message}
use Rattle.bsp_book.specs.Rows.{Rows}
use Rattle.bsp_book.specs.Sound.{Sound}
use Rattle.bsp_office_spec.specs.Answers.{Answer}
use Rattle.bsp_office_spec.specs.AirlineLedger.{airline_answer, airline_ledger_of}
use Rattle.bsp_office_spec.specs.Ledger.{ledger_answer, ledger_of}
use Rattle.bsp_office_spec.specs.Requests.{AgentRequest, AirlineRequest, OfficeRequest}
use Rattle.bsp_office_spec.specs.Step.{office_answer}
use Rattle.bsp_office_spec.specs.Texts.{Says}
use Rattle.bsp_desk_sales.specs.After.{agent_after, airline_after, office_after}

module _ {B : Type 0} (m : Meaning B Rows) (old new : B) where
  -- ---- what a fault leaves

  -- of sound rows: all that the transaction wrote is undone, and none is open
  abbrev pub FallsBackSound : Type 0
  FallsBackSound = m.trusts new → (now last : Rows) → Sound now → m.holds old now (Some last) → m.holds new last None

  -- of sound rows: a stop leaves what the last commit left
  abbrev pub LeavesLastSound : Type 0
  LeavesLastSound = m.trusts new → (now last : Rows) → Sound now → m.holds old now (Some last) → m.leaves new last last

  -- what a part owes, whatever it does
  abbrev pub EndsOnFault : {T : Type 0} → Result T BookFault → Type 0
  EndsOnFault result = Faults m old new FallsBackSound LeavesLastSound result

  -- ---- what is served

  -- of sound rows what is found is right, and they become these
  abbrev pub Finds : {T : Type 0} → Result T BookFault → (Rows → T → Type 0) → (Rows → Rows) → Type 0
  Finds result IsRight next =
      IfOk result (λ found. m.trusts new → (now last : Rows) → Sound now → m.holds old now (Some last) → IsRight now found × m.holds new (next now) (Some last))

  -- of sound rows this is answered, and they become these
  abbrev pub Serves : Result Message BookFault → (Rows → Answer) → (Rows → Rows) → Type 0
  Serves result answer next = Finds result (λ rows message. Says (answer rows) message) next

  -- the request is answered over the rows, which become those after it
  abbrev pub ServesOffice : Result Message BookFault → OfficeRequest → Type 0
  ServesOffice result request = Serves result (office_answer request) (office_after request)

  -- and that of an agent, over its own ledger
  abbrev pub ServesAgent : Result Message BookFault → ℕ → AgentRequest → Type 0
  ServesAgent result agent request = Serves result (λ rows. ledger_answer agent (ledger_of agent rows) request) (agent_after agent request)

  -- and that of an airline, over its own ledger
  abbrev pub ServesAirline : Result Message BookFault → ℕ → AirlineRequest → Type 0
  ServesAirline result airline request = Serves result (λ rows. airline_answer airline (airline_ledger_of airline rows) request) (airline_after airline request)
