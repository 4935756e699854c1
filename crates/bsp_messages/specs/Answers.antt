-- What each answer says: its status, its media type and its body. JSON is compact, with keys sorted.
use Rattle.std.specs.Prelude.{ℕ, ◌+◌, List, [], ◌∷◌, map, codes, Option, Some, None, string_bytes}
use Rattle.serde_json.specs.Data.{Data, null, boolean, number, unsigned, string, array, object, no_members, member}
use Rattle.serde_json.specs.Find.{of_integer}
use Rattle.serde_json.specs.View.{items_of}
use Rattle.serde_json.specs.Written.{compact_text}
use Rattle.bsp_fields.specs.Days.{day_text}
use Rattle.bsp_fields.specs.Decimal.{fixed_digits}
use Rattle.bsp_fields.specs.Money.{money_text}
use Rattle.bsp_fields.specs.declared.change.Change.{Change}
use Rattle.bsp_fields.specs.declared.change.Change.TheVariants as change
use Rattle.bsp_ret.specs.RetRecordsTexts as ret_records
use Rattle.bsp_ret.specs.Texts as ret
use Rattle.bsp_ret.specs.declared.model.FaultCode.{FaultCode}
use Rattle.bsp_ret.specs.declared.model.FaultCode.TheVariants.{F10}
use Rattle.bsp_ret.specs.declared.model.RetFault.{RetFault}
use Rattle.bsp_rules.specs.Amounts.{amount_or_zero, card_amount, commission_amount}
use Rattle.bsp_rules.specs.Refusals.{code_text}
use Rattle.bsp_rules.specs.declared.verdict.Verdict.{Verdict}
use Rattle.bsp_rules.specs.declared.verdict.Verdict.TheVariants as verdict
use Rattle.bsp_memos.specs.Texts.{kind_text, state_text as memo_state_text}
use Rattle.bsp_memos.specs.declared.fields.MemoFields.{MemoFields}
use Rattle.bsp_messages.specs.Refusals.{code_object, refusal_code, refusal_status}
use Rattle.bsp_routes.specs.declared.status.Status.{Status}
use Rattle.bsp_routes.specs.declared.status.Status.TheVariants as status
use Rattle.bsp_routes.specs.declared.status.Media.{Media}
use Rattle.bsp_routes.specs.declared.status.Media.TheVariants as media
use Rattle.bsp_messages.specs.declared.answer.DocumentState.{DocumentState}
use Rattle.bsp_messages.specs.declared.answer.DocumentState.TheVariants as state
use Rattle.bsp_messages.specs.declared.answer.DocumentShown.{DocumentShown}
use Rattle.bsp_messages.specs.declared.answer.PeriodShown.{PeriodShown}
use Rattle.bsp_messages.specs.declared.answer.RangeShown.{RangeShown}
use Rattle.bsp_messages.specs.declared.answer.Answer.{Answer}
use Rattle.bsp_messages.specs.declared.answer.Answer.TheVariants.{Changed, Verdicts, Document, Period, Ranges, Memos, Report, Hot, FileFault, Refused}

-- ---- results

-- `{"result":"done"}` or `{"result":"held"}`
abbrev pub result_object : Change → Data
result_object change.Done = object (member (codes "result") (string (codes "done")) no_members)
result_object change.Held = object (member (codes "result") (string (codes "held")) no_members)

-- `{"n":1,"period":"24011","verdict":"accepted"}`
abbrev pub verdict_of : ℕ → List ℕ → List ℕ → Data
verdict_of n period word =
    object
    (member (codes "n") (number (unsigned n))
    (member (codes "period") (string period)
    (member (codes "verdict") (string word) no_members)))

abbrev pub verdict_object : ℕ → Verdict → Data
verdict_object n (verdict.Accepted period) = verdict_of n (fixed_digits 5 period) (codes "accepted")
verdict_object n (verdict.Held period) = verdict_of n (fixed_digits 5 period) (codes "held")
verdict_object n (verdict.Refused refusal) =
    object (member (codes "n") (number (unsigned n)) (member (codes "verdict") (string (code_text refusal)) no_members))

-- the verdicts, numbered from n
abbrev pub verdicts_from : ℕ → List Verdict → List Data
verdicts_from n [] = []
verdicts_from n (v ∷ vs) = verdict_object n v ∷ verdicts_from (n + 1) vs

-- an object of one list
abbrev pub list_object : List ℕ → List Data → Data
list_object key ds = object (member key (array (items_of ds)) no_members)

-- ---- documents, periods, ranges, memos

abbrev pub state_text : DocumentState → List ℕ
state_text state.Alive = codes "alive"
state_text state.Refunded = codes "refunded"
state_text state.Exchanged = codes "exchanged"
state_text state.Cancelled = codes "cancelled"

abbrev pub document_object : DocumentShown → Data
document_object d =
    object
    (member (codes "airline") (string (fixed_digits 3 d.item.transaction.document.airline))
    (member (codes "cash") (number (of_integer (amount_or_zero d.item.transaction.cash)))
    (member (codes "code") (string (ret_records.code_text d.item.transaction.code))
    (member (codes "commission") (number (of_integer (commission_amount d.item.transaction.amounts)))
    (member (codes "credit") (number (of_integer (card_amount d.item.transaction.credit)))
    (member (codes "issued") (string (day_text d.item.transaction.issued))
    (member (codes "period") (string (fixed_digits 5 d.item.period))
    (member (codes "state") (string (state_text d.state)) no_members))))))))

abbrev pub period_object : PeriodShown → Data
period_object p =
    object
    (member (codes "closed") (boolean p.closed)
    (member (codes "documents") (number (unsigned p.documents))
    (member (codes "net") (string (money_text p.net))
    (member (codes "period") (string (fixed_digits 5 p.period)) no_members))))

abbrev pub range_object : RangeShown → Data
range_object r =
    object
    (member (codes "first") (string (fixed_digits 10 r.range.first))
    (member (codes "last") (string (fixed_digits 10 r.range.last))
    (member (codes "used") (number (unsigned r.used)) no_members)))

-- the period in which a memo is billed, or null
abbrev pub billed_value : Option ℕ → Data
billed_value None = null
billed_value (Some period) = string (fixed_digits 5 period)

abbrev pub memo_object : MemoFields → Data
memo_object m =
    object
    (member (codes "agent") (string (fixed_digits 8 m.agent))
    (member (codes "airline") (string (fixed_digits 3 m.airline))
    (member (codes "amount") (number (of_integer m.amount))
    (member (codes "billed") (billed_value m.billed)
    (member (codes "document") (string (fixed_digits 10 m.document))
    (member (codes "issued") (string (day_text m.issued))
    (member (codes "kind") (string (kind_text m.kind))
    (member (codes "reason") (string m.reason)
    (member (codes "state") (string (memo_state_text m.state)) no_members)))))))))

-- ---- the fault of a RET file; want of memory is B01

-- `{"code":"F05","record":3}`
abbrev pub record_object : FaultCode → ℕ → Data
record_object code at =
    object (member (codes "code") (string (ret.fault_text code)) (member (codes "record") (number (unsigned at)) no_members))

abbrev pub fault_in : FaultCode → ℕ → Data
fault_in F10 at = code_object (codes "B01")
fault_in code at = record_object code at

abbrev pub fault_object : RetFault → Data
fault_object fault = fault_in fault.code fault.at

abbrev pub fault_status : FaultCode → Status
fault_status F10 = status.ServiceUnavailable
fault_status code = status.UnprocessableEntity

-- ---- answers

abbrev pub status_of : Answer → Status
status_of (FileFault fault) = fault_status fault.code
status_of (Refused refusal) = refusal_status refusal
status_of _ = status.Ok

abbrev pub media_of : Answer → Media
media_of (Report text) = media.Text
media_of (Hot file) = media.Text
media_of _ = media.Json

abbrev pub text_of : Answer → List ℕ
text_of (Changed change) = compact_text (result_object change)
text_of (Verdicts verdicts) = compact_text (list_object (codes "results") (verdicts_from 1 verdicts.items))
text_of (Document document) = compact_text (document_object document)
text_of (Period period) = compact_text (period_object period)
text_of (Ranges ranges) = compact_text (list_object (codes "ranges") (map range_object ranges.items))
text_of (Memos memos) = compact_text (list_object (codes "memos") (map memo_object memos.items))
text_of (Report text) = string_bytes text
text_of (Hot file) = file.items
text_of (FileFault fault) = compact_text (fault_object fault)
text_of (Refused refusal) = compact_text (code_object (refusal_code refusal))
