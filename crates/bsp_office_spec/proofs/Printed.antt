-- The reports on a closed period print the nets of ledgers.
use Rattle.std.proofs.Common.{◌≡◌, ℕ, ◌+◌, ◌==◌, List, [], ◌∷◌, ◌++◌, length, map, Option, Some, refl, sym, ap, ap₂, subst, ◌∙◌, inl, inr}
use Rattle.std.specs.Prelude.{codes, string_bytes}
use Rattle.std.specs.FinMap.{values}
use Rattle.std.proofs.lemmas.Bool.{eqb-true}
use Rattle.bsp_rows.specs.RulesAmounts.{sum_of}
use Rattle.bsp_rows.specs.Nets.{net_of_postings}
use Rattle.bsp_rows.specs.Period.{Period}
use Rattle.bsp_rows.specs.Posting.{Posting}
use Rattle.bsp_rows.specs.Postings.{of_agent, of_airline, postings}
use Rattle.bsp_rows.specs.Published.{Published, closed_period, is_closed, is_taxed, period_of}
use Rattle.bsp_rows.specs.Rows.{Rows}
use Rattle.bsp_rows.specs.Sound.{Sound}
use Rattle.bsp_rows.proofs.SideLemmas.{agents_side, airlines_side, all_net}
use Rattle.bsp_statement.proofs.NetLemmas.{agent_net_is, airline_net_is}
use Rattle.bsp_hot.specs.Files.{form_of}
use Rattle.bsp_hot.specs.Lines.{line_of}
use Rattle.bsp_hot_check.specs.Hot.{File, all_but_last, file_sums, totals_of_file}
use Rattle.bsp_hot_check.specs.Records.{file_totals}
use Rattle.bsp_hot_check.specs.Sums.{with_net}
use Rattle.bsp_messages.specs.Answers.{status_of, text_of}
use Rattle.bsp_messages.specs.declared.answer.Answer.{Answer as Message}
use Rattle.bsp_routes.specs.declared.status.Status.TheVariants as status
use Rattle.bsp_statement.specs.Reports.{IsSettlement, of_period}
use Rattle.bsp_statement.specs.Sums.{figures_of}
use Rattle.bsp_statement.specs.Texts.{figures_line, settlement_text}
use Rattle.bsp_statement.specs.declared.nets.AgentNet.{AgentNet}
use Rattle.bsp_statement.specs.declared.nets.AirlineNet.{AirlineNet}
use Rattle.bsp_statement.specs.declared.nets.Settlement.{Settlement as SettlementMade}
use Rattle.bsp_office_spec.specs.AirlineLedger.{airline_ledger_of, hot_rows, hot_shown}
use Rattle.bsp_office_spec.specs.Answers.Answer.{Hot}
use Rattle.bsp_office_spec.specs.Laws.{airline_ledger_net, ledger_net}
use Rattle.bsp_office_spec.specs.Ledger.{ledger_of, statement_shown}
use Rattle.bsp_office_spec.specs.Printed.{HasLastLine, HotFilesPrintNets, PrintsFileTotals, PrintsNets, PrintsTotal, SettlementsPrintNets, StatementsPrintNets, agent_net_in, airline_net_in, posted}
use Rattle.bsp_office_spec.specs.Step.{settlement_shown}
use Rattle.bsp_office_spec.specs.Texts.{IsHotText, Says}
use Rattle.bsp_office_spec.proofs.ClosedKept.{closed_of}
use Rattle.bsp_office_spec.proofs.HotNets.{hot_files_show}
use Rattle.bsp_office_spec.proofs.NetLemmas.{agents_net, airlines_net, same_map}
use Rattle.bsp_office_spec.proofs.PrintedTexts.{file_last, statement_total}
use Rattle.bsp_office_spec.proofs.Reports.{code_of}

-- a closed period has the code that it is found by
pub closed_code : (p : Published) (code : ℕ) (q : Period) → closed_period p code ≡ Some q → q.code ≡ code
closed_code p code q is = eqb-true q.code code (code_of (λ n. n == code) p.periods q (closed_of (is_closed p code) (period_of p code) q is).1)

-- ---- a statement

pub statements_print : StatementsPrintNets
statements_print rows agent code q m s is says =
    let l = ledger_of agent rows in
    let taxed = is_taxed rows.published q in
    let rows_of : ℕ → List Posting = λ n. postings n (values l.own.items) (values l.own.memos) in
    let (text, (terms, known, made), same) = subst (λ (found : Option Period). Says (statement_shown agent l found) m) is says in
    let net = all_net q.code (values l.own.items) (values l.own.memos) ∙ ap (λ (n : ℕ). ledger_net n l) (closed_code rows.published code q is) in
    let line = figures_line taxed (codes "TOT") (figures_of (rows_of q.code)) in
    let last = subst (λ (t : List ℕ). HasLastLine t line) (sym made.text_is) (statement_total taxed agent (of_period q terms) made.airlines (rows_of q.code)) in
    subst (λ (x : Message). PrintsTotal taxed (ledger_net code l) (text_of x)) (sym same) (record { rows = rows_of q.code; net_is = net; last = last })

-- ---- a HOT file

module _ (rows : Rows) (airline code : ℕ) (q : Period) (m : Message) (s : Sound rows) (is : closed_period rows.published code ≡ Some q) where
  abbrev Prints : List ℕ → Type 0
  Prints = PrintsFileTotals (form_of rows.published q) airline (airline_ledger_net code (airline_ledger_of airline rows))

  written_prints : (text : List ℕ) → IsHotText airline (hot_rows (airline_ledger_of airline rows) q) text → Prints text
  written_prints text shown =
      let form = form_of rows.published q in
      let made = shown.2 in
      let n = length (all_but_last made.file) + 1 in
      let totals = with_net (file_sums made.file.offices) in
      let net = hot_files_show rows airline code q text s is shown in
      let own = ap (λ (f : File). f.heading.airline) made.over.file_is in
      let last = subst (λ (t : List ℕ). HasLastLine t (line_of form n (file_totals made.file.heading.airline n totals) ++ codes "\n")) (sym made.text_is) (file_last form made.file) in
      record {
        records = n;
        totals = totals;
        net_is = net;
        last = subst (λ (c : ℕ). HasLastLine text (line_of form n (file_totals c n totals) ++ codes "\n")) own last;
        checked = totals_of_file made.file;
        passes = record { file = made.file; stands = shown.3; totals_are = refl };
        found = net;
      }

  answer_prints : Says (Hot airline (hot_rows (airline_ledger_of airline rows) q)) m → status_of m ≡ status.Ok → Prints (text_of m)
  answer_prints (inl (file, shown, same)) ok = subst (λ (x : Message). Prints (text_of x)) (sym same) (written_prints file.items shown)
  answer_prints (inr (wide, same)) ok = absurd (let refused = sym (ap status_of same) ∙ ok in cc)

pub hot_files_print : HotFilesPrintNets
hot_files_print rows airline code q m s is says =
    answer_prints rows airline code q m s is (subst (λ (found : Option Period). Says (hot_shown airline (airline_ledger_of airline rows) found) m) is says)

-- ---- a settlement

map_agrees : {Y : Type 0} (f g : ℕ → Y) → ((n : ℕ) → f n ≡ g n) → (ns : List ℕ) → map f ns ≡ map g ns
map_agrees f g same [] = refl
map_agrees {Y} f g same (n ∷ ns) = ap₂ (λ (y : Y) (ys : List Y). y ∷ ys) (same n) (map_agrees f g same ns)

module _ (rows : Rows) (s : Sound rows) (code : ℕ) where
  agent_line : (a : ℕ) → net_of_postings (of_agent a (posted code rows)) ≡ ledger_net code (ledger_of a rows)
  agent_line a = agent_net_is a code (values rows.items) (values rows.memos) ∙ sym (agents_net rows s code a)

  airline_line : (c : ℕ) → net_of_postings (of_airline c (posted code rows)) ≡ airline_ledger_net code (airline_ledger_of c rows)
  airline_line c = airline_net_is c code (values rows.items) (values rows.memos) ∙ sym (airlines_net rows s code c)

  settlement_prints : (first_line : List ℕ) (made : SettlementMade) → IsSettlement first_line (posted code rows) made → PrintsNets code rows (string_bytes made.text)
  settlement_prints first_line made is =
      let items = values rows.items in
      let memos = values rows.memos in
      let agents = is.agents ∙ map_agrees _ (agent_net_in code rows) (λ a. ap (λ net. let n : AgentNet = record { agent = a; net = net } in n) (agent_line a)) is.agent_codes in
      let airlines = is.airlines ∙ map_agrees _ (airline_net_in code rows) (λ c. ap (λ net. let n : AirlineNet = record { airline = c; net = net } in n) (airline_line c)) is.airline_codes in
      let total = sym (is.total ∙ all_net code items memos) in
      record {
        first_line = first_line;
        agents = is.agent_codes;
        airlines = is.airline_codes;
        total = made.total;
        agents_are = is.agents_are;
        airlines_are = is.airlines_are;
        text_is = is.text_is
            ∙ (ap (λ (ns : List AgentNet). settlement_text first_line ns made.airlines.items made.total) agents
            ∙ ap (λ (ns : List AirlineNet). settlement_text first_line (map (agent_net_in code rows) is.agent_codes) ns made.total) airlines);
        of_agents = λ all once have. ap sum_of (same_map _ _ (agents_net rows s code) all) ∙ (agents_side code items memos all once have ∙ total);
        of_airlines = λ all once have. ap sum_of (same_map _ _ (airlines_net rows s code) all) ∙ (airlines_side code items memos all once have ∙ total);
      }

pub settlements_print : SettlementsPrintNets
settlements_print rows code q m s is says =
    let (text, (terms, known, made, over, text_is), same) = subst (λ (found : Option Period). Says (settlement_shown found rows) m) is says in
    let of_code = subst (λ (n : ℕ). IsSettlement (of_period q terms) (posted n rows) made) (closed_code rows.published code q is) over in
    subst (λ (x : Message). PrintsNets code rows (text_of x)) (sym same)
    (subst (PrintsNets code rows) text_is (settlement_prints rows s code (of_period q terms) made of_code))
