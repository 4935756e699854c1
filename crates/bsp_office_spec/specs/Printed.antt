-- The nets that reports print: each is that of an agent's or an airline's own ledger.
use Rattle.std.specs.Prelude.{◌≡◌, ℕ, ℤ, Bool, true, List, ◌∷◌, ◌++◌, map, codes, Some}
use Rattle.std.specs.FinMap.{values}
use Rattle.bsp_rows.specs.Lines.{lines}
use Rattle.bsp_rows.specs.Period.{Period}
use Rattle.bsp_rows.specs.Posting.{Posting}
use Rattle.bsp_rows.specs.Postings.{postings}
use Rattle.bsp_rows.specs.Published.{closed_period, is_taxed}
use Rattle.bsp_rows.specs.Rows.{Rows}
use Rattle.bsp_rows.specs.RulesAmounts.{sum_of}
use Rattle.bsp_rows.specs.Sides.{AreOnce, HaveAgents, HaveAirlines}
use Rattle.bsp_rows.specs.Sound.{Sound}
use Rattle.bsp_hot.specs.Files.{form_of}
use Rattle.bsp_hot.specs.Lines.{line_of}
use Rattle.bsp_hot_check.specs.Checked.{HasTotals}
use Rattle.bsp_hot_check.specs.FileForm.{FileForm}
use Rattle.bsp_hot_check.specs.Records.{file_totals}
use Rattle.bsp_hot_check.specs.Totals.{Totals}
use Rattle.bsp_hot_check.specs.declared.model.HotTotals.{HotTotals}
use Rattle.bsp_messages.specs.Answers.{status_of, text_of}
use Rattle.bsp_messages.specs.declared.answer.Answer.{Answer as Message}
use Rattle.bsp_routes.specs.declared.status.Status.TheVariants as status
use Rattle.bsp_statement.specs.Sums.{AreCodes, figures_of}
use Rattle.bsp_statement.specs.Texts.{figures_line, settlement_text}
use Rattle.bsp_statement.specs.declared.nets.AgentNet.{AgentNet}
use Rattle.bsp_statement.specs.declared.nets.AirlineNet.{AirlineNet}
use Rattle.bsp_office_spec.specs.AirlineLedger.{airline_ledger_of, hot_answer}
use Rattle.bsp_office_spec.specs.Answers.{Answer}
use Rattle.bsp_office_spec.specs.Answers.Answer.{Hot, Settlement, Statement}
use Rattle.bsp_office_spec.specs.Laws.{airline_ledger_net, ledger_net, shows_report}
use Rattle.bsp_office_spec.specs.Ledger.{ledger_of, statement_answer}
use Rattle.bsp_office_spec.specs.Step.{settlement_answer}
use Rattle.bsp_office_spec.specs.Texts.{Says}
use Rattle.bsp_office_spec.specs.View.{AllFit, Exchange, Run}

-- ---- what a text prints

-- whole lines, and this line with its end as the last
pub record HasLastLine (text line : List ℕ) : Type 0 where
  pub before : List ℕ
  pub text_is : text ≡ (before ++ codes "\n") ++ line

-- the last line is the line TOT of a statement, over some rows, and its NET is this
pub record PrintsTotal (taxed : Bool) (net : ℤ) (text : List ℕ) : Type 0 where
  pub rows : List Posting
  pub net_is : (figures_of rows).net ≡ net
  pub last : HasLastLine text (figures_line taxed (codes "TOT") (figures_of rows))

-- the last line is the record BFT99 of a HOT file, and its net is this; `check_hot` passes the text and finds this net
pub record PrintsFileTotals (form : FileForm) (airline : ℕ) (net : ℤ) (text : List ℕ) : Type 0 where
  pub records : ℕ
  pub totals : Totals
  pub net_is : totals.net ≡ net
  pub last : HasLastLine text (line_of form records (file_totals airline records totals) ++ codes "\n")
  pub checked : HotTotals
  pub passes : HasTotals (lines text) checked
  pub found : checked.net ≡ net

-- what all rows of a period post
abbrev pub posted : ℕ → Rows → List Posting
posted code rows = postings code (values rows.items) (values rows.memos)

-- an agent with the net of its ledger
abbrev pub agent_net_in : ℕ → Rows → ℕ → AgentNet
agent_net_in code rows agent = record { agent = agent; net = ledger_net code (ledger_of agent rows) }

-- an airline with the net of its ledger
abbrev pub airline_net_in : ℕ → Rows → ℕ → AirlineNet
airline_net_in code rows airline = record { airline = airline; net = airline_ledger_net code (airline_ledger_of airline rows) }

-- a settlement of the nets of ledgers, whose total is the sum of the nets of all agents and that of all airlines
pub record PrintsNets (code : ℕ) (rows : Rows) (text : List ℕ) : Type 0 where
  pub first_line : List ℕ
  pub agents : List ℕ
  pub airlines : List ℕ
  pub total : ℤ
  -- each agent and each airline that has a row in the period has a line, rising
  pub agents_are : AreCodes agents (map (λ p. p.agent) (posted code rows))
  pub airlines_are : AreCodes airlines (map (λ p. p.airline) (posted code rows))
  pub text_is : text ≡ settlement_text first_line (map (agent_net_in code rows) agents) (map (airline_net_in code rows) airlines) total
  pub of_agents : (all : List ℕ) → AreOnce all → HaveAgents code (values rows.items) (values rows.memos) all → sum_of (map (λ a. ledger_net code (ledger_of a rows)) all) ≡ total
  pub of_airlines : (all : List ℕ) → AreOnce all → HaveAirlines code (values rows.items) (values rows.memos) all → sum_of (map (λ c. airline_ledger_net code (airline_ledger_of c rows)) all) ≡ total

-- ---- the reports on a closed period

-- what is sent of a statement ends in TOT with the net of the agent's ledger
abbrev pub StatementsPrintNets : Type 0
StatementsPrintNets =
    (rows : Rows) (agent code : ℕ) (q : Period) (m : Message) → Sound rows → closed_period rows.published code ≡ Some q →
    let l = ledger_of agent rows in
    Says (statement_answer agent l (Some code)) m → PrintsTotal (is_taxed rows.published q) (ledger_net code l) (text_of m)

-- where the totals of a HOT file fit their places
abbrev pub HotFilesPrintNets : Type 0
HotFilesPrintNets =
    (rows : Rows) (airline code : ℕ) (q : Period) (m : Message) → Sound rows → closed_period rows.published code ≡ Some q →
    let l = airline_ledger_of airline rows in
    Says (hot_answer airline l (Some code)) m → status_of m ≡ status.Ok → PrintsFileTotals (form_of rows.published q) airline (airline_ledger_net code l) (text_of m)

-- what is sent of a settlement has the nets of the ledgers, and their sum as both totals
abbrev pub SettlementsPrintNets : Type 0
SettlementsPrintNets =
    (rows : Rows) (code : ℕ) (q : Period) (m : Message) → Sound rows → closed_period rows.published code ≡ Some q →
    Says (settlement_answer (Some code) rows) m → PrintsNets code rows (text_of m)

-- ---- the reports within a run

-- what is sent of a report prints the nets of the ledgers that these rows have
abbrev pub IsPrinted : Rows → Answer → Message → Type 0
IsPrinted rows (Statement agent taxed report) m = PrintsTotal taxed (ledger_net report.period.code (ledger_of agent rows)) (text_of m)
IsPrinted rows (Settlement report) m = PrintsNets report.period.code rows (text_of m)
IsPrinted rows (Hot airline file) m =
    status_of m ≡ status.Ok → PrintsFileTotals file.form airline (airline_ledger_net file.period.code (airline_ledger_of airline rows)) (text_of m)
IsPrinted rows answer m = Unit {0}

-- each report that is sent prints the nets of the ledgers in the end
abbrev pub ReportsPrintNets : List Exchange → Rows → Type 0
ReportsPrintNets exchanges new =
    (before after : List Exchange) (p : Exchange) (answer : Answer) (m : Message) →
    exchanges ≡ before ++ p ∷ after → p.reply ≡ Some answer → shows_report p.request.asked answer ≡ true → Says answer m → IsPrinted new answer m

-- so it is of each report that a run from sound rows sends
abbrev pub RunsPrintNets : Type 0
RunsPrintNets = (office : List ℕ) (rows : Rows) (exchanges : List Exchange) (new : Rows) → Run office rows exchanges new → AllFit exchanges → Sound rows → ReportsPrintNets exchanges new
