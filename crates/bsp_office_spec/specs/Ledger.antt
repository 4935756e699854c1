-- What an agent is answered and what it changes, by its own rows and the plan alone.
use Rattle.std.specs.Prelude.{ℕ, ◌==◌, ◌||◌, not, Bool, true, false, List, [], ◌∷◌, map, length, count_by, Option, Some, None, is_some, Result, Ok, Err, if◌then◌else◌}
use Rattle.std.specs.Result.{result_ok}
use Rattle.std.specs.List.{filter, find}
use Rattle.std.specs.FinMap.{FinMap, get, insert, entries, values}
use Rattle.bsp_rows.specs.Codes.{agent_reading}
use Rattle.bsp_rows.specs.Change.{Change}
use Rattle.bsp_rows.specs.Published.{Published, closed_period, is_closed, is_taxed, period_of}
use Rattle.bsp_rows.specs.Requests.{once}
use Rattle.bsp_rows.specs.Period.{Period}
use Rattle.bsp_rows.specs.Terms.{Terms}
use Rattle.bsp_rows.specs.TransactionCode.{TransactionCode}
use Rattle.bsp_rows.specs.TransactionCode.TheVariants.{Tktt, Rfnd, Canx}
use Rattle.bsp_rows.specs.Transaction.{Transaction}
use Rattle.bsp_rules.specs.Tax.{accepted_item}
use Rattle.bsp_rules.specs.declared.facts.Facts.{Facts}
use Rattle.bsp_rows.specs.FactsOf.{facts_in}
use Rattle.bsp_rows.specs.RulesRows.{contains, is_canx, is_living_relation}
use Rattle.bsp_rows.specs.Verdicts.{verdict_on}
use Rattle.bsp_rows.specs.Item.{Item}
use Rattle.bsp_rows.specs.Range.{Range}
use Rattle.bsp_rows.specs.Reporter.{Reporter}
use Rattle.bsp_rows.specs.Reporter.TheVariants.{Agent}
use Rattle.bsp_rows.specs.Verdict.{Verdict}
use Rattle.bsp_rows.specs.Verdict.TheVariants as verdict
use Rattle.bsp_rows.specs.Lives.{after_action}
use Rattle.bsp_rows.specs.Steps.{Action, answer_to}
use Rattle.bsp_rows.specs.Steps.Action.{Dispute, Agree}
use Rattle.bsp_rows.specs.MemoFault.{MemoFault}
use Rattle.bsp_rows.specs.MemoFault.TheVariants.{NoSuchMemo}
use Rattle.bsp_rows.specs.MemoFields.{MemoFields}
use Rattle.bsp_rows.specs.Nets.{net_of_rows}
use Rattle.bsp_rows.specs.Postings.{is_counted, postings}
use Rattle.bsp_messages.specs.Values.{document_in, period_in}
use Rattle.bsp_messages.specs.declared.answer.DocumentState.{DocumentState}
use Rattle.bsp_messages.specs.declared.answer.DocumentState.TheVariants.{Alive, Refunded, Exchanged, Cancelled}
use Rattle.bsp_messages.specs.declared.answer.RangeShown.{RangeShown}
use Rattle.bsp_messages.specs.declared.memo_bodies.NamedMemo.{NamedMemo}
use Rattle.bsp_messages.specs.declared.refusal.RequestRefusal.TheVariants.{Malformed, NoDocument, UnknownPeriod}
use Rattle.bsp_messages.specs.declared.refusal.RequestRefusal.TheVariants as refusal
use Rattle.bsp_rows.specs.Changes.{sale_key}
use Rattle.bsp_rows.specs.Part.{AgentPart, agent_part}
use Rattle.bsp_rows.specs.Rows.{Rows, item_cmp, memo_cmp, key_of, range_of}
use Rattle.bsp_rows.specs.Writes.{changed, ended}
use Rattle.bsp_rows.specs.declared.keys.MemoKey.{MemoKey}
use Rattle.bsp_office_spec.specs.Answers.{Answer}
use Rattle.bsp_office_spec.specs.Answers.Answer.{Changed, Verdicts, Document, InPeriod, Ranges, Memos, Statement, FileFault, Refused}
use Rattle.bsp_office_spec.specs.Requests.{AgentRequest, FileRead}
use Rattle.bsp_office_spec.specs.Requests.AgentRequest.{AgentFile, AskDocument, AskPeriod, AskStock, AskMemos, DisputeMemo, AgreeMemo, AskStatement}

-- an agent's own rows, and the plan
pub record Ledger : Type 0 where
  pub own : AgentPart
  pub published : Published

-- the ledger that the rows of all callers hold of an agent
abbrev pub ledger_of : ℕ → Rows → Ledger
ledger_of agent rows = record { own = agent_part agent rows; published = rows.published }

-- the agent of eight digits whose last is their check digit
abbrev pub agent_of : List ℕ → Option ℕ
agent_of text = result_ok (agent_reading text)

-- ---- a transaction

-- its ranges, rising by first number
abbrev pub ranges_in : AgentPart → List Range
ranges_in own = map range_of (entries own.ranges)

-- the facts on a transaction over all rows of the ledger
abbrev pub own_facts : Ledger → Transaction → Facts
own_facts l t = facts_in (is_some l.own.token) (ranges_in l.own) (values l.own.items) t l.published

-- the verdict by these facts and the plan, on a report of the agent or of the office
abbrev pub own_verdict : Reporter → Ledger → Transaction → Verdict
own_verdict reporter l t = verdict_on reporter t (own_facts l t) l.published

-- a transaction as it is accepted in a period: its tax on commission is that of the plan, by the tickets that the facts have
abbrev pub new_item : ℕ → Ledger → Transaction → ℕ → Item
new_item agent l t period = accepted_item agent period t (own_facts l t).related l.published

-- a CANX ends the TKTT or RFND of its number
abbrev pub ended_in : Item → FinMap item_cmp Item → FinMap item_cmp Item
ended_in item items = if is_canx item then changed ended (sale_key item) items else items

-- the items with a new one, after what it ends
abbrev pub taken : Item → FinMap item_cmp Item → FinMap item_cmp Item
taken item items = insert (ended_in item items) (key_of item) item

-- the ledger with a new item
abbrev pub with_own_item : Item → Ledger → Ledger
with_own_item item l = record { own = record { token = l.own.token; ranges = l.own.ranges; items = taken item l.own.items; memos = l.own.memos }; published = l.published }

-- only an accepted transaction joins the rows
abbrev pub ledger_judged : ℕ → Transaction → Verdict → Ledger → Ledger
ledger_judged agent t (verdict.Held period) l = l
ledger_judged agent t (verdict.Accepted period) l = with_own_item (new_item agent l t period) l
ledger_judged agent t (verdict.Refused refusal) l = l

-- a file is judged transaction by transaction, each on what those before it left
abbrev pub own_verdicts : ℕ → Ledger → List Transaction → List Verdict
own_verdicts agent l [] = []
own_verdicts agent l (t ∷ ts) = own_verdict (Agent agent) l t ∷ own_verdicts agent (ledger_judged agent t (own_verdict (Agent agent) l t) l) ts

-- the ledger after a file
abbrev pub ledger_filed : ℕ → List Transaction → Ledger → Ledger
ledger_filed agent [] l = l
ledger_filed agent (t ∷ ts) l = ledger_filed agent ts (ledger_judged agent t (own_verdict (Agent agent) l t) l)

-- ---- a document

-- by the living transaction that relates to the number: refunded by an RFND, exchanged by a TKTT
abbrev pub state_by : Option Item → DocumentState
state_by None = Alive
state_by (Some i) = by_code i.transaction.code where
  by_code : TransactionCode → DocumentState
  by_code Tktt = Exchanged
  by_code Rfnd = Refunded
  by_code Canx = Alive

-- cancelled, also of a CANX alone; else by the living relation to its number
abbrev pub state_of : List Item → Item → DocumentState
state_of items i =
    if is_canx i || not i.lives then Cancelled
    else state_by (find (is_living_relation i.transaction.document.number) items)

-- the first, else the other
abbrev pub first_of : Option Item → Option Item → Option Item
first_of (Some i) other = Some i
first_of None other = other

-- the TKTT or RFND of the number, else its CANX
abbrev pub item_of_number : ℕ → ℕ → FinMap item_cmp Item → Option Item
item_of_number agent number items =
    first_of (get items (record { agent = agent; number = number; is_canx = false })) (get items (record { agent = agent; number = number; is_canx = true }))

-- the item with its state, or D01
abbrev pub document_shown : List Item → Option Item → Answer
document_shown items None = Refused NoDocument
document_shown items (Some i) = Document (record { item = i; state = state_of items i })

-- D01 where the path has no number, or the number no item
abbrev pub document_answer : ℕ → Ledger → Option ℕ → Answer
document_answer agent l None = Refused NoDocument
document_answer agent l (Some number) = document_shown (values l.own.items) (item_of_number agent number l.own.items)

-- ---- a period

-- its living TKTT and RFND, and the net of these and of the memos billed in it
abbrev pub period_shown : Ledger → Option Period → Answer
period_shown l None = Refused UnknownPeriod
period_shown l (Some q) = InPeriod (record {
  closed = is_closed l.published q.code;
  documents = count_by (is_counted q.code) (values l.own.items);
  net = net_of_rows q.code (values l.own.items) (values l.own.memos);
  period = q.code;
})

-- S01 where the path has no period, or the plan has not this one
abbrev pub period_answer : Ledger → Option ℕ → Answer
period_answer l None = Refused UnknownPeriod
period_answer l (Some code) = period_shown l (period_of l.published code)

-- of a closed period
abbrev pub statement_shown : ℕ → Ledger → Option Period → Answer
statement_shown agent l None = Refused UnknownPeriod
statement_shown agent l (Some q) = Statement agent (is_taxed l.published q) (record {
  period = q;
  terms = l.published.terms;
  postings = postings q.code (values l.own.items) (values l.own.memos);
})

-- S01 where the path has no period, or this one is not published and closed
abbrev pub statement_answer : ℕ → Ledger → Option ℕ → Answer
statement_answer agent l None = Refused UnknownPeriod
statement_answer agent l (Some code) = statement_shown agent l (closed_period l.published code)

-- ---- the stock

-- the same number, of a TKTT or RFND and of its CANX
abbrev pub same_number : ℕ → ℕ → Bool
same_number a b = a == b

-- the numbers of the range that have an accepted transaction, each once
abbrev pub used_in : Range → FinMap item_cmp Item → ℕ
used_in range items = length (once same_number (filter (λ n. contains n range) (map (λ e. e.0.number) (entries items))))

-- each range with how many of its numbers are used
abbrev pub ranges_shown : AgentPart → List RangeShown
ranges_shown own = map (λ r. record { range = r; used = used_in r own.items }) (ranges_in own)

-- ---- memos

-- before terms are published there are no review days, and no memo can be issued
abbrev pub no_review : ℕ
no_review = 0

-- the review days of the plan
abbrev pub review_of : Option Terms → ℕ
review_of None = no_review
review_of (Some terms) = terms.review_days

-- done, held, or the refusal M02, M03, M04 or M06
abbrev pub action_answer : Result Change MemoFault → Answer
action_answer (Ok change) = Changed change
action_answer (Err fault) = Refused (refusal.Memo fault)

-- of an action on a memo that the caller has, or has not
abbrev pub memo_answer : Action → Published → Option MemoFields → Answer
memo_answer action p None = Refused (refusal.Memo NoSuchMemo)
memo_answer action p (Some memo) = action_answer (answer_to memo action p.day (review_of p.terms))

-- the key of the memo that a body names
abbrev pub memo_named : NamedMemo → MemoKey
memo_named body = record { airline = body.airline; document = body.document }

-- N04 where the body is malformed
abbrev pub named_answer : Action → Ledger → Option NamedMemo → Answer
named_answer action l None = Refused Malformed
named_answer action l (Some body) = memo_answer action l.published (get l.own.memos (memo_named body))

-- the memos after an action on one of them, whatever is answered
abbrev pub acted : Action → Published → MemoKey → FinMap memo_cmp MemoFields → FinMap memo_cmp MemoFields
acted action p key memos = changed (after_action (review_of p.terms) action p.day) key memos

-- the ledger with these memos
abbrev pub with_own_memos : FinMap memo_cmp MemoFields → Ledger → Ledger
with_own_memos memos l = record { own = record { token = l.own.token; ranges = l.own.ranges; items = l.own.items; memos = memos }; published = l.published }

-- the ledger after an action on a memo
abbrev pub ledger_acted : Action → MemoKey → Ledger → Ledger
ledger_acted action key l = with_own_memos (acted action l.published key l.own.memos) l

-- after a malformed body it is as it was
abbrev pub ledger_named : Action → Option NamedMemo → Ledger → Ledger
ledger_named action None l = l
ledger_named action (Some body) l = ledger_acted action (memo_named body) l

-- ---- all requests of an agent

-- the first fault of a file, or its verdicts
abbrev pub file_answer : ℕ → Ledger → FileRead → Answer
file_answer agent l (Err fault) = FileFault fault
file_answer agent l (Ok ts) = Verdicts (own_verdicts agent l ts)

-- the answer to each request of the agent
abbrev pub ledger_answer : ℕ → Ledger → AgentRequest → Answer
ledger_answer agent l (AgentFile file) = file_answer agent l file
ledger_answer agent l (AskDocument number) = document_answer agent l (document_in number)
ledger_answer agent l (AskPeriod period) = period_answer l (period_in period)
ledger_answer agent l AskStock = Ranges (ranges_shown l.own)
ledger_answer agent l AskMemos = Memos (values l.own.memos)
ledger_answer agent l (DisputeMemo body) = named_answer Dispute l body
ledger_answer agent l (AgreeMemo body) = named_answer Agree l body
ledger_answer agent l (AskStatement period) = statement_answer agent l (period_in period)

-- a file with a fault changes nothing
abbrev pub ledger_after_file : ℕ → FileRead → Ledger → Ledger
ledger_after_file agent (Err fault) l = l
ledger_after_file agent (Ok ts) l = ledger_filed agent ts l

-- the ledger after a request, whatever is answered
abbrev pub ledger_after_request : ℕ → AgentRequest → Ledger → Ledger
ledger_after_request agent (AgentFile file) l = ledger_after_file agent file l
ledger_after_request agent (AskDocument number) l = l
ledger_after_request agent (AskPeriod period) l = l
ledger_after_request agent AskStock l = l
ledger_after_request agent AskMemos l = l
ledger_after_request agent (DisputeMemo body) l = ledger_named Dispute body l
ledger_after_request agent (AgreeMemo body) l = ledger_named Agree body l
ledger_after_request agent (AskStatement period) l = l
