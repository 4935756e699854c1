-- The message that an answer is sent as: `bsp_messages` has its status, its media type and its bytes.
use Rattle.std.specs.Prelude.{◌≡◌, ◌⊎◌, ℕ, Bool, List, Some, String, string_bytes}
use Rattle.std.specs.Global.{Global, Vec}
use Rattle.bsp_rows.specs.Lines.{lines}
use Rattle.bsp_rows.specs.Terms.{Terms}
use Rattle.bsp_hot.specs.Files.{IsTooWide, IsWritten}
use Rattle.bsp_hot.specs.Rows.{Entry, entries}
use Rattle.bsp_hot_check.specs.Hot.{Hot as AreHotLines}
use Rattle.bsp_messages.specs.Answers.{media_of, status_of, text_of}
use Rattle.bsp_messages.specs.declared.answer.Answer.{Answer as Message}
use Rattle.bsp_messages.specs.declared.answer.Answer.TheVariants as message
use Rattle.bsp_messages.specs.declared.refusal.RequestRefusal.TheVariants.{HotTooLarge}
use Rattle.bsp_statement.specs.Reports.{IsSettlement, IsStatement, of_period}
use Rattle.bsp_statement.specs.declared.nets.Settlement.{Settlement as SettlementMade}
use Rattle.bsp_office_spec.specs.Answers.{Answer, HotRows, Report}
use Rattle.bsp_office_spec.specs.Answers.Answer.{Changed, Verdicts, Document, InPeriod, Ranges, Memos, Statement, Settlement, Hot, FileFault, Refused}

-- ---- the texts that are made of rows

-- the text of an agent's statement, with the published currency
abbrev pub IsStatementText : ℕ → Bool → Report → List ℕ → Type 0
IsStatementText agent taxed report text =
    (terms : Terms) × (report.terms ≡ Some terms) × IsStatement taxed agent (of_period report.period terms) report.postings text

-- the text of a settlement, with the published currency
abbrev pub IsSettlementText : Report → List ℕ → Type 0
IsSettlementText report text =
    (terms : Terms) × (report.terms ≡ Some terms) × (made : SettlementMade) × IsSettlement (of_period report.period terms) report.postings made × (string_bytes made.text ≡ text)

-- what a HOT file reports of these rows
abbrev pub hot_entries : ℕ → HotRows → List Entry
hot_entries airline rows = entries airline rows.period.code rows.items rows.memos

-- the text of a file whose lines are those of a HOT file, so that `check_hot` passes it
abbrev pub IsHotText : ℕ → HotRows → List ℕ → Type 0
IsHotText airline rows text =
    (terms : Terms) × (rows.terms ≡ Some terms) × (made : IsWritten rows.form airline rows.period terms.currency (hot_entries airline rows) text)
    × AreHotLines (lines text) made.file

-- a count or a total does not fit its place
abbrev pub HasNoHotText : ℕ → HotRows → Type 0
HasNoHotText airline rows = (terms : Terms) × (rows.terms ≡ Some terms) × IsTooWide rows.form airline rows.period terms.currency (hot_entries airline rows)

-- ---- the message

-- a message of these values
abbrev pub IsListed : {A : Type 0} → (Vec A → Message) → List A → Message → Type 0
IsListed {A = A} message_of values m = (v : Vec A) × (v.items ≡ values) × (m ≡ message_of v)

-- the message that an answer is sent as
abbrev pub Says : Answer → Message → Type 0
Says (Changed change) m = m ≡ message.Changed change
Says (Verdicts verdicts) m = IsListed message.Verdicts verdicts m
Says (Document document) m = m ≡ message.Document document
Says (InPeriod period) m = m ≡ message.Period period
Says (Ranges ranges) m = IsListed message.Ranges ranges m
Says (Memos memos) m = IsListed message.Memos memos m
Says (Statement agent taxed report) m = (text : String Global) × IsStatementText agent taxed report (string_bytes text) × (m ≡ message.Report text)
Says (Settlement report) m = (text : String Global) × IsSettlementText report (string_bytes text) × (m ≡ message.Report text)
Says (Hot airline rows) m =
    ((file : Vec ℕ) × IsHotText airline rows file.items × (m ≡ message.Hot file))
    ⊎ (HasNoHotText airline rows × (m ≡ message.Refused HotTooLarge))
Says (FileFault fault) m = m ≡ message.FileFault fault
Says (Refused refusal) m = m ≡ message.Refused refusal

-- ---- two messages that are sent alike

-- one status, one media type and the same bytes
pub record IsSentAs (m other : Message) : Type 0 where
  pub status : status_of other ≡ status_of m
  pub media : media_of other ≡ media_of m
  pub text : text_of other ≡ text_of m

-- an answer is sent in one way
abbrev pub AnswersAreOneText : Type 0
AnswersAreOneText = (answer : Answer) (m other : Message) → Says answer m → Says answer other → IsSentAs m other
