-- What a run of requests is, and what holds of all of it.
use Rattle.std.specs.Prelude.{◌≡◌, ◌⊎◌, ℕ, false, List, [], ◌∷◌, Option, Some, None}
use Rattle.bsp_book.specs.Calls.{Meaning}
use Rattle.bsp_rows.specs.Published.{closed_period}
use Rattle.bsp_rows.specs.Period.{Period}
use Rattle.bsp_messages.specs.declared.refusal.RequestRefusal.TheVariants.{NoRoom, StoreFailed}
use Rattle.bsp_routes.specs.declared.reply.Reply.{Reply}
use Rattle.bsp_rows.specs.Transaction.{Transaction}
use Rattle.bsp_rows.specs.Rows.{Rows, item_at}
use Rattle.bsp_rows.specs.declared.keys.ItemKey.{ItemKey}
use Rattle.bsp_rows.specs.Sound.{Sound}
use Rattle.bsp_rows.specs.Item.{Item}
use Rattle.bsp_desk_writes.specs.AirlineLedger.{airline_ledger_of, hot_answer}
use Rattle.bsp_desk_writes.specs.AirlineView.{airline_all, airline_ledger_answers, airline_told, airline_view}
use Rattle.bsp_desk_writes.specs.Answers.{Answer}
use Rattle.bsp_desk_writes.specs.Laws.{HasAccepted, IsHeldIn, IsPeriodKept, NetsAddUp, NewAgreeWithTickets, RepeatsHeld, ShownReportsStay}
use Rattle.bsp_desk_writes.specs.Ledger.{ledger_of, own_verdicts, statement_answer}
use Rattle.bsp_desk_writes.specs.Printed.{ReportsPrintNets}
use Rattle.bsp_desk_writes.specs.Requests.{Request as Reading}
use Rattle.bsp_desk_writes.specs.Step.{AreGroups, office_verdicts, settlement_answer}
use Rattle.bsp_desk_writes.specs.Unmarked.{AgentNeedsNoMarks, AirlineNeedsNoMarks}
use Rattle.bsp_desk_writes.specs.View.{AllFit, Exchange, Run, ledger_all, ledger_answers, told, view}
use Rattle.bsp_desk.specs.Replies.{IsSent, Refuses, is_unavailable}
use Rattle.bsp_desk.specs.Steps.{Answers}
use Rattle.bsp_desk.specs.declared.request.Request.{Request}

-- ---- replies and answers

-- where there is no answer the reply is B01 or B03, and an answer is sent as any other reply
abbrev pub IsReplied : Option Answer → Reply → Type 0
IsReplied None reply = Refuses NoRoom reply ⊎ Refuses StoreFailed reply
IsReplied (Some answer) reply = (is_unavailable reply.status ≡ false) × IsSent answer reply

-- each request, as it is read, with the answer that its reply sends
abbrev pub AreExchanges : List Reading → List Reply → List Exchange → Type 0
AreExchanges [] [] [] = Unit {0}
AreExchanges (reading ∷ readings) (reply ∷ replies) (e ∷ es) = (e.request ≡ reading) × IsReplied e.reply reply × AreExchanges readings replies es
AreExchanges _ _ _ = ⊥

-- ---- request by request

-- by a chain of books from the first to the last, each request is answered over the book that the one before it left
abbrev pub AreAnswered : {B : Type 0} (m : Meaning B Rows) → List ℕ → B → List Request → List Reply → B → Type 0
AreAnswered m office old [] [] new = new ≡ old
AreAnswered {B = B} m office old (request ∷ requests) (reply ∷ replies) new = (mid : B) × Answers m old mid request office reply × AreAnswered m office mid requests replies new
AreAnswered m office old _ _ new = ⊥

-- ---- what holds of a run

module _ (rows : Rows) (exchanges : List Exchange) (new : Rows) where
  -- an agent's answers are those of its ledger over what it sees, and so is its part of the rows in the end
  abbrev pub AgentAlone : ℕ → Type 0
  AgentAlone agent =
      let start = ledger_of agent rows in
      (told agent start exchanges ≡ ledger_answers agent start (view agent start exchanges)) × (ledger_of agent new ≡ ledger_all agent start (view agent start exchanges))

  -- and so are an airline's, HOT files among them
  abbrev pub AirlineAlone : ℕ → Type 0
  AirlineAlone airline =
      let start = airline_ledger_of airline rows in
      (airline_told airline start exchanges ≡ airline_ledger_answers airline start (airline_view airline start exchanges))
      × (airline_ledger_of airline new ≡ airline_all airline start (airline_view airline start exchanges))

  -- what an agent has accepted stays so, and is held in that period whenever the agent or the office reports it again
  abbrev pub RepeatHeld : ℕ → Transaction → ℕ → Type 0
  RepeatHeld agent t period =
      HasAccepted rows agent t period → HasAccepted new agent t period
      × ((ts : List Transaction) → AreGroups ts → IsHeldIn t period ts (office_verdicts new ts) × IsHeldIn t period ts (own_verdicts agent (ledger_of agent new) ts))

  -- a closed period stays, with its settlement, each statement and each HOT file
  abbrev pub PeriodStays : ℕ → Period → Type 0
  PeriodStays code q =
      closed_period rows.published code ≡ Some q → IsPeriodKept code rows new
      × (settlement_answer (Some code) new ≡ settlement_answer (Some code) rows)
      × ((agent : ℕ) → statement_answer agent (ledger_of agent new) (Some code) ≡ statement_answer agent (ledger_of agent rows) (Some code))
      × ((airline : ℕ) → hot_answer airline (airline_ledger_of airline new) (Some code) ≡ hot_answer airline (airline_ledger_of airline rows) (Some code))

  -- from sound rows, at an office with this token
  pub record Ran (office : List ℕ) : Type 0 where
    -- each answer is that of the rows that those before it left
    pub steps : Run office rows exchanges new
    -- each transaction of each file is a group
    pub fits : AllFit exchanges
    -- and the rows are sound in the end
    pub sound : Sound new
    -- where the accepted transactions of a document number are of one agent
    pub owners : (k l : ItemKey) (i j : Item) → item_at k new ≡ Some i → item_at l new ≡ Some j → k.number ≡ l.number → k.agent ≡ l.agent
    -- what the run has accepted agrees with its tickets, so that no value is given back twice
    pub values : NewAgreeWithTickets rows new
    -- the agents' nets and the airlines' nets of each period have one sum
    pub nets : (code : ℕ) → NetsAddUp code new
    -- each statement, settlement and HOT file that is sent prints these nets
    pub printed : ReportsPrintNets exchanges new
    pub agents : (agent : ℕ) → AgentAlone agent
    pub airlines : (airline : ℕ) → AirlineAlone airline
    -- at each point of the run their ledgers need no marks: what lives follows from the items, and a memo from what is seen of it
    pub agent_marks : (agent : ℕ) → AgentNeedsNoMarks agent rows exchanges
    pub airline_marks : (airline : ℕ) → AirlineNeedsNoMarks airline rows exchanges
    pub repeats : (agent : ℕ) (t : Transaction) (period : ℕ) → RepeatHeld agent t period
    pub periods : (code : ℕ) (q : Period) → PeriodStays code q
    -- what was accepted before an exchange, in this run too, that exchange holds, and so do later places of one file
    pub held : RepeatsHeld rows exchanges
    -- once the run has shown a settlement, a statement or a HOT file, each later request for it has the same answer
    pub shown : ShownReportsStay exchanges

-- a run with its replies, from sound rows, at an office with this token
pub record RunReplied (office : List ℕ) (rows : Rows) (readings : List Reading) (replies : List Reply) : Type 0 where
  pub begun : Sound rows
  pub exchanges : List Exchange
  pub left : Rows
  pub sent : AreExchanges readings replies exchanges
  pub laws : Ran rows exchanges left office

-- a book ran so: it holds the rows in the end, where it has not failed
abbrev pub RanOver : {B : Type 0} (m : Meaning B Rows) (new : B) → List ℕ → Rows → List Reading → List Reply → Type 0
RanOver m new office rows readings replies = (run : RunReplied office rows readings replies) × (m.has_failed new ≡ false → m.holds new run.left None)
