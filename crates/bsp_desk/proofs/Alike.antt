-- Of one answer there is one reply, so the same answers to a caller are the same replies to it.
use Rattle.std.proofs.Common.{◌≡◌, ℕ, Bool, true, false, cond, List, [], ◌∷◌, ◌++◌, Option, Some, None, map, refl, sym, subst, ◌∙◌}
use Rattle.bsp_routes.specs.declared.reply.Reply.{Reply}
use Rattle.bsp_routes.specs.declared.status.Media.{Media}
use Rattle.bsp_routes.specs.declared.status.Status.{Status}
use Rattle.bsp_rows.specs.Rows.{Rows}
use Rattle.bsp_desk_writes.proofs.AirlineIsolated.{airlines_alike}
use Rattle.bsp_desk_writes.proofs.Isolated.{alike}
use Rattle.bsp_desk_writes.proofs.TextLemmas.{one_message}
use Rattle.bsp_desk_writes.specs.AirlineLedger.{AirlineLedger, airline_ledger_of}
use Rattle.bsp_desk_writes.specs.AirlineView.{airline_all, airline_reply_sights, airline_told, airline_told_one, airline_told_reply, is_own_airline}
use Rattle.bsp_desk_writes.specs.Answers.{Answer}
use Rattle.bsp_desk_writes.specs.Ledger.{Ledger, ledger_of}
use Rattle.bsp_desk_writes.specs.Requests.{Asked, Request as Reading}
use Rattle.bsp_desk_writes.specs.Requests.Asked.{NoRoute, OtherMethod, ByOffice, ByAgent, ByAirline}
use Rattle.bsp_desk_writes.specs.View.{Exchange, is_own, ledger_all, reply_sights, told, told_one, told_reply}
use Rattle.bsp_desk.specs.Laws.{AgentReadsAlike, AirlineReadsAlike, AnswersAreOneReply, CallersReadAlike, agent_replies, airline_replies}
use Rattle.bsp_desk.specs.Replies.{IsSent, ReplyRead, read_of}
use Rattle.bsp_desk.specs.Runs.{AreExchanges, IsReplied, RunReplied}

-- ---- one answer

equal_parts : (s t : Status) (a b : Media) (x y : List ℕ) → s ≡ t → a ≡ b → x ≡ y
    → (let one : ReplyRead = record { status = s; media = a; bytes = x } in let other : ReplyRead = record { status = t; media = b; bytes = y } in one ≡ other)
equal_parts s t a b x y same alike text = cc

pub one_reply : AnswersAreOneReply
one_reply answer reply other sent also =
    let same = one_message answer sent.0 also.0 sent.1 also.1 in
    equal_parts _ _ _ _ _ _
    (sent.2.status ∙ (sym same.status ∙ sym also.2.status))
    (sent.2.media ∙ (sym same.media ∙ sym also.2.media))
    (sent.2.body ∙ (sym same.text ∙ sym also.2.body))

-- ---- many

-- each of the replies sends the answer at its place
abbrev AreSent : List Answer → List ReplyRead → Type 0
AreSent [] [] = Unit {0}
AreSent (answer ∷ answers) (read ∷ reads) = ((reply : Reply) × (read ≡ read_of reply) × IsSent answer reply) × AreSent answers reads
AreSent _ _ = ⊥

sent_append : (answers more : List Answer) (reads others : List ReplyRead) → AreSent answers reads → AreSent more others → AreSent (answers ++ more) (reads ++ others)
sent_append [] more [] others h k = k
sent_append [] more (r ∷ rs) others h k = elim h [ ]
sent_append (a ∷ answers) more [] others h k = elim h [ ]
sent_append (a ∷ answers) more (r ∷ rs) others h k = (h.0, sent_append answers more rs others h.1 k)

same_reads : (answers : List Answer) (reads others : List ReplyRead) → AreSent answers reads → AreSent answers others → reads ≡ others
same_reads [] [] [] h k = refl
same_reads [] (r ∷ rs) others h k = elim h [ ]
same_reads [] [] (o ∷ os) h k = elim k [ ]
same_reads (a ∷ answers) [] others h k = elim h [ ]
same_reads (a ∷ answers) (r ∷ rs) [] h k = elim k [ ]
same_reads (a ∷ answers) (r ∷ rs) (o ∷ os) h k =
    let first : r ≡ o = h.0.1 ∙ (one_reply a h.0.0 k.0.0 h.0.2 k.0.2 ∙ sym k.0.1) in
    let rest : rs ≡ os = same_reads answers rs os h.1 k.1 in
    cc

-- ---- the replies to an agent

sent_if : (own : Bool) (answer : Answer) (reply : Reply) → IsSent answer reply → AreSent (cond own (answer ∷ []) []) (map (λ a. read_of reply) (cond own (answer ∷ []) []))
sent_if true answer reply h = ((reply, refl, h), tt)
sent_if false answer reply h = tt

agent_sent : (agent : ℕ) (l : Ledger) (token : Option (List ℕ)) (asked : Asked) (answer : Answer) (reply : Reply) → IsSent answer reply
    → AreSent (told_one agent l token asked answer) (map (λ a. read_of reply) (told_one agent l token asked answer))
agent_sent agent l token (ByAgent code call) answer reply h = sent_if (is_own agent l token code) answer reply h
agent_sent agent l token (ByAirline code call) answer reply h = tt
agent_sent agent l token (ByOffice call) answer reply h = tt
agent_sent agent l token NoRoute answer reply h = tt
agent_sent agent l token OtherMethod answer reply h = tt

agent_replied : (agent : ℕ) (l : Ledger) (reading : Reading) (o : Option Answer) (reply : Reply) → IsReplied o reply
    → (let e : Exchange = record { request = reading; reply = o } in AreSent (told_reply agent l e) (map (λ a. read_of reply) (told_reply agent l e)))
agent_replied agent l reading None reply h = tt
agent_replied agent l reading (Some answer) reply h = agent_sent agent l reading.token reading.asked answer reply h.1

agent_told : (agent : ℕ) (l : Ledger) (readings : List Reading) (replies : List Reply) (es : List Exchange) → AreExchanges readings replies es
    → AreSent (told agent l es) (agent_replies agent l es replies)
agent_told agent l [] [] [] h = tt
agent_told agent l [] [] (e ∷ es) h = elim h [ ]
agent_told agent l [] (p ∷ ps) [] h = elim h [ ]
agent_told agent l [] (p ∷ ps) (e ∷ es) h = elim h [ ]
agent_told agent l (q ∷ qs) [] [] h = elim h [ ]
agent_told agent l (q ∷ qs) [] (e ∷ es) h = elim h [ ]
agent_told agent l (q ∷ qs) (p ∷ ps) [] h = elim h [ ]
agent_told agent l (q ∷ qs) (p ∷ ps) (e ∷ es) h =
    let next = ledger_all agent l (reply_sights agent l e) in
    sent_append (told_reply agent l e) (told agent next es) (map (λ a. read_of p) (told_reply agent l e)) (agent_replies agent next es ps)
    (agent_replied agent l e.request e.reply p h.1) (agent_told agent next qs ps es h.2)

-- ---- the replies to an airline

airline_sent : (airline : ℕ) (l : AirlineLedger) (token : Option (List ℕ)) (asked : Asked) (answer : Answer) (reply : Reply) → IsSent answer reply
    → AreSent (airline_told_one airline l token asked answer) (map (λ a. read_of reply) (airline_told_one airline l token asked answer))
airline_sent airline l token (ByAirline code call) answer reply h = sent_if (is_own_airline airline l token code) answer reply h
airline_sent airline l token (ByAgent code call) answer reply h = tt
airline_sent airline l token (ByOffice call) answer reply h = tt
airline_sent airline l token NoRoute answer reply h = tt
airline_sent airline l token OtherMethod answer reply h = tt

airline_replied : (airline : ℕ) (l : AirlineLedger) (reading : Reading) (o : Option Answer) (reply : Reply) → IsReplied o reply
    → (let e : Exchange = record { request = reading; reply = o } in AreSent (airline_told_reply airline l e) (map (λ a. read_of reply) (airline_told_reply airline l e)))
airline_replied airline l reading None reply h = tt
airline_replied airline l reading (Some answer) reply h = airline_sent airline l reading.token reading.asked answer reply h.1

airline_told_all : (airline : ℕ) (l : AirlineLedger) (readings : List Reading) (replies : List Reply) (es : List Exchange) → AreExchanges readings replies es
    → AreSent (airline_told airline l es) (airline_replies airline l es replies)
airline_told_all airline l [] [] [] h = tt
airline_told_all airline l [] [] (e ∷ es) h = elim h [ ]
airline_told_all airline l [] (p ∷ ps) [] h = elim h [ ]
airline_told_all airline l [] (p ∷ ps) (e ∷ es) h = elim h [ ]
airline_told_all airline l (q ∷ qs) [] [] h = elim h [ ]
airline_told_all airline l (q ∷ qs) [] (e ∷ es) h = elim h [ ]
airline_told_all airline l (q ∷ qs) (p ∷ ps) [] h = elim h [ ]
airline_told_all airline l (q ∷ qs) (p ∷ ps) (e ∷ es) h =
    let next = airline_all airline l (airline_reply_sights airline l e) in
    sent_append (airline_told_reply airline l e) (airline_told airline next es) (map (λ a. read_of p) (airline_told_reply airline l e)) (airline_replies airline next es ps)
    (airline_replied airline l e.request e.reply p h.1) (airline_told_all airline next qs ps es h.2)

-- ---- two runs

module _ (office other : List ℕ) (rows rows' : Rows) (readings readings' : List Reading) (replies replies' : List Reply) (run : RunReplied office rows readings replies) (run' : RunReplied other rows' readings' replies') where
  agent_alike : (agent : ℕ) → AgentReadsAlike run run' agent
  agent_alike agent ledgers views =
      let same = alike office other agent rows rows' run.exchanges run'.exchanges run.left run'.left run.laws.steps run'.laws.steps ledgers views in
      let one = agent_told agent (ledger_of agent rows) readings replies run.exchanges run.sent in
      let two = agent_told agent (ledger_of agent rows') readings' replies' run'.exchanges run'.sent in
      same_reads (told agent (ledger_of agent rows) run.exchanges) _ _ one
      (subst (λ (answers : List Answer). AreSent answers (agent_replies agent (ledger_of agent rows') run'.exchanges replies')) (sym same) two)

  airline_alike : (airline : ℕ) → AirlineReadsAlike run run' airline
  airline_alike airline ledgers views =
      let same = airlines_alike office other airline rows rows' run.exchanges run'.exchanges run.left run'.left run.laws.steps run'.laws.steps run.laws.fits run'.laws.fits run.begun run'.begun ledgers views in
      let one = airline_told_all airline (airline_ledger_of airline rows) readings replies run.exchanges run.sent in
      let two = airline_told_all airline (airline_ledger_of airline rows') readings' replies' run'.exchanges run'.sent in
      same_reads (airline_told airline (airline_ledger_of airline rows) run.exchanges) _ _ one
      (subst (λ (answers : List Answer). AreSent answers (airline_replies airline (airline_ledger_of airline rows') run'.exchanges replies')) (sym same) two)

pub callers_alike : CallersReadAlike
callers_alike office other rows rows' readings readings' replies replies' run run' caller =
    (agent_alike office other rows rows' readings readings' replies replies' run run' caller, airline_alike office other rows rows' readings readings' replies replies' run run' caller)
