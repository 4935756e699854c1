-- What callers read of the replies to them: it follows from what they see.
use Rattle.std.specs.Prelude.{◌≡◌, ℕ, List, [], ◌∷◌, ◌++◌, map}
use Rattle.bsp_routes.specs.declared.reply.Reply.{Reply}
use Rattle.bsp_rows.specs.Rows.{Rows}
use Rattle.bsp_desk_writes.specs.AirlineLedger.{AirlineLedger, airline_ledger_of}
use Rattle.bsp_desk_writes.specs.AirlineView.{AirlineSight, airline_all, airline_reply_sights, airline_told_reply, airline_view}
use Rattle.bsp_desk_writes.specs.Answers.{Answer}
use Rattle.bsp_desk_writes.specs.Ledger.{Ledger, ledger_of}
use Rattle.bsp_desk_writes.specs.Requests.{Request as Reading}
use Rattle.bsp_desk_writes.specs.View.{Exchange, Sight, ledger_all, reply_sights, told_reply, view}
use Rattle.bsp_desk.specs.Replies.{IsSent, ReplyRead, read_of}
use Rattle.bsp_desk.specs.Runs.{RunReplied}

-- ---- one answer

-- of one answer there is one reply: one status, one media type and the same bytes
abbrev pub AnswersAreOneReply : Type 0
AnswersAreOneReply = (answer : Answer) (reply other : Reply) → IsSent answer reply → IsSent answer other → read_of reply ≡ read_of other

-- ---- the replies to one caller

-- the replies to an agent's own requests, one for each answer of `told`: so all but a 503
abbrev pub agent_replies : ℕ → Ledger → List Exchange → List Reply → List ReplyRead
agent_replies agent l (e ∷ es) (reply ∷ replies) =
    map (λ answer. read_of reply) (told_reply agent l e) ++ agent_replies agent (ledger_all agent l (reply_sights agent l e)) es replies
agent_replies agent l _ _ = []

-- the replies to an airline's own requests, a 503 apart
abbrev pub airline_replies : ℕ → AirlineLedger → List Exchange → List Reply → List ReplyRead
airline_replies airline l (e ∷ es) (reply ∷ replies) =
    map (λ answer. read_of reply) (airline_told_reply airline l e) ++ airline_replies airline (airline_all airline l (airline_reply_sights airline l e)) es replies
airline_replies airline l _ _ = []

module _ {office : List ℕ} {rows : Rows} {readings : List Reading} {replies : List Reply} (run : RunReplied office rows readings replies) where
  -- what an agent sees in the run, and what it reads
  abbrev pub agent_sees : ℕ → List Sight
  agent_sees agent = view agent (ledger_of agent rows) run.exchanges

  -- the replies that an agent reads in the run
  abbrev pub agent_reads : ℕ → List ReplyRead
  agent_reads agent = agent_replies agent (ledger_of agent rows) run.exchanges replies

  -- and an airline
  abbrev pub airline_sees : ℕ → List AirlineSight
  airline_sees airline = airline_view airline (airline_ledger_of airline rows) run.exchanges

  -- the replies that an airline reads in the run
  abbrev pub airline_reads : ℕ → List ReplyRead
  airline_reads airline = airline_replies airline (airline_ledger_of airline rows) run.exchanges replies

-- ---- two runs, over any books and of any numbers of requests

module _ {office other : List ℕ} {rows rows' : Rows} {readings readings' : List Reading} {replies replies' : List Reply} where
  -- an agent that begins with equal ledgers and sees the same reads the same, byte for byte, a 503 apart
  abbrev pub AgentReadsAlike : RunReplied office rows readings replies → RunReplied other rows' readings' replies' → ℕ → Type 0
  AgentReadsAlike run run' agent = ledger_of agent rows ≡ ledger_of agent rows' → agent_sees run agent ≡ agent_sees run' agent → agent_reads run agent ≡ agent_reads run' agent

  -- and so does an airline
  abbrev pub AirlineReadsAlike : RunReplied office rows readings replies → RunReplied other rows' readings' replies' → ℕ → Type 0
  AirlineReadsAlike run run' airline =
      airline_ledger_of airline rows ≡ airline_ledger_of airline rows' → airline_sees run airline ≡ airline_sees run' airline → airline_reads run airline ≡ airline_reads run' airline

-- each agent and each airline reads alike in two such runs
abbrev pub CallersReadAlike : Type 0
CallersReadAlike =
    (office other : List ℕ) (rows rows' : Rows) (readings readings' : List Reading) (replies replies' : List Reply)
    (run : RunReplied office rows readings replies) (run' : RunReplied other rows' readings' replies') (caller : ℕ) →
    AgentReadsAlike run run' caller × AirlineReadsAlike run run' caller
