-- What a run sends of a report prints the nets of the ledgers in the end.
use Rattle.std.proofs.Common.{◌≡◌, ℕ, Bool, true, false, cond, List, ◌∷◌, Option, Some, None, refl, sym, ap, subst, ◌∙◌}
use Rattle.std.proofs.lemmas.Bool.{both_ways, false≢true}
use Rattle.bsp_rows.specs.Published.{closed_period, is_taxed}
use Rattle.bsp_rows.specs.Period.{Period}
use Rattle.bsp_rows.specs.Rows.{Rows, agent_token, airline_token}
use Rattle.bsp_rows.specs.Sound.{Sound}
use Rattle.bsp_hot.specs.Files.{form_of}
use Rattle.bsp_messages.specs.Answers.{text_of}
use Rattle.bsp_messages.specs.Values.{airline_in, period_in}
use Rattle.bsp_messages.specs.declared.answer.Answer.{Answer as Message}
use Rattle.bsp_messages.specs.declared.refusal.RequestRefusal.TheVariants.{Forbidden}
use Rattle.bsp_office_spec.specs.AirlineLedger.{airline_ledger_of, hot_answer, hot_shown}
use Rattle.bsp_office_spec.specs.Answers.{Answer}
use Rattle.bsp_office_spec.specs.Answers.Answer.{Refused}
use Rattle.bsp_office_spec.specs.Laws.{airline_ledger_net, ledger_net, shows_report}
use Rattle.bsp_office_spec.specs.Ledger.{agent_of, ledger_of, statement_answer, statement_shown}
use Rattle.bsp_office_spec.specs.Printed.{IsPrinted, PrintsFileTotals, PrintsNets, PrintsTotal, RunsPrintNets}
use Rattle.bsp_office_spec.specs.Requests.{Asked}
use Rattle.bsp_office_spec.specs.Requests.AgentRequest.{AskStatement}
use Rattle.bsp_office_spec.specs.Requests.AirlineRequest.{AskHot}
use Rattle.bsp_office_spec.specs.Requests.Asked.{ByAgent, ByAirline, ByOffice}
use Rattle.bsp_office_spec.specs.Requests.OfficeRequest.{AskSettlement}
use Rattle.bsp_office_spec.specs.Step.{asked_answer, is_token, settlement_answer, settlement_shown, to_agent, to_airline}
use Rattle.bsp_office_spec.specs.Texts.{Says}
use Rattle.bsp_office_spec.specs.View.{AllFit, Exchange, IsAnswered, Run}
use Rattle.bsp_office_spec.proofs.ClosedKept.{closed_stays}
use Rattle.bsp_office_spec.proofs.Printed.{closed_code, hot_files_print, settlements_print, statements_print}
use Rattle.bsp_office_spec.proofs.Reports.{reports_stay}
use Rattle.bsp_office_spec.proofs.RunParts.{fit_parts, run_parts}
use Rattle.bsp_office_spec.proofs.Runs.{run_sound}

-- a report is printed so, where the request is for it
abbrev Printed : Rows → Asked → Answer → Type 0
Printed new asked answer = shows_report asked answer ≡ true → (m : Message) → Says answer m → IsPrinted new answer m

-- of a caller whose token is its own, or is not
either : (new : Rows) (asked : Asked) (answer : Answer) (b : Bool) → shows_report asked (Refused Forbidden) ≡ false → Printed new asked answer → Printed new asked (cond b answer (Refused Forbidden))
either new asked answer true forbidden printed = printed
either new asked answer false forbidden printed = λ h. absurd (both_ways (shows_report asked (Refused Forbidden)) forbidden h)

-- the rows in the end, and those at a request, from which a run leads to them
module _ (office : List ℕ) (rows new : Rows) (exchanges : List Exchange) (run : Run office rows exchanges new) (fits : AllFit exchanges) (s : Sound rows) where
  still : (code : ℕ) (q : Period) → closed_period rows.published code ≡ Some q → closed_period new.published code ≡ Some q
  still code q is = (closed_stays office rows exchanges new code q run fits s is).period ∙ is

  form_still : (code : ℕ) (q : Period) → closed_period rows.published code ≡ Some q → is_taxed new.published q ≡ is_taxed rows.published q
  form_still code q is = (closed_stays office rows exchanges new code q run fits s is).form q is

  end_sound : Sound new
  end_sound = run_sound office rows exchanges new run fits s

  settlement_printed : (period : List ℕ) (wanted : Option ℕ) → Printed new (ByOffice (AskSettlement period)) (settlement_answer wanted rows)
  settlement_printed period None = λ h. absurd (false≢true h)
  settlement_printed period (Some code) = by (closed_period rows.published code) refl where
    by : (found : Option Period) → closed_period rows.published code ≡ found → Printed new (ByOffice (AskSettlement period)) (settlement_shown found rows)
    by None is = λ h. absurd (false≢true h)
    by (Some q) is = λ h m says.
        let same = (reports_stay office rows exchanges new code q run fits s is).0 ∙ ap (λ (found : Option Period). settlement_shown found rows) is in
        let later = subst (λ (x : Answer). Says x m) (sym same) says in
        subst (λ (n : ℕ). PrintsNets n new (text_of m)) (sym (closed_code rows.published code q is)) (settlements_print new code q m end_sound (still code q is) later)

  statement_printed : (agent : ℕ) (name period : List ℕ) (wanted : Option ℕ) → Printed new (ByAgent name (AskStatement period)) (statement_answer agent (ledger_of agent rows) wanted)
  statement_printed agent name period None = λ h. absurd (false≢true h)
  statement_printed agent name period (Some code) = by (closed_period rows.published code) refl where
    by : (found : Option Period) → closed_period rows.published code ≡ found → Printed new (ByAgent name (AskStatement period)) (statement_shown agent (ledger_of agent rows) found)
    by None is = λ h. absurd (false≢true h)
    by (Some q) is = λ h m says.
        let same = (reports_stay office rows exchanges new code q run fits s is).1 agent ∙ ap (statement_shown agent (ledger_of agent rows)) is in
        let later = subst (λ (x : Answer). Says x m) (sym same) says in
        let taxed = subst (λ (b : Bool). PrintsTotal b (ledger_net code (ledger_of agent new)) (text_of m)) (form_still code q is) (statements_print new agent code q m end_sound (still code q is) later) in
        subst (λ (n : ℕ). PrintsTotal (is_taxed rows.published q) (ledger_net n (ledger_of agent new)) (text_of m)) (sym (closed_code rows.published code q is)) taxed

  hot_printed : (airline : ℕ) (name period : List ℕ) (wanted : Option ℕ) → Printed new (ByAirline name (AskHot period)) (hot_answer airline (airline_ledger_of airline rows) wanted)
  hot_printed airline name period None = λ h. absurd (false≢true h)
  hot_printed airline name period (Some code) = by (closed_period rows.published code) refl where
    by : (found : Option Period) → closed_period rows.published code ≡ found → Printed new (ByAirline name (AskHot period)) (hot_shown airline (airline_ledger_of airline rows) found)
    by None is = λ h. absurd (false≢true h)
    by (Some q) is = λ h m says ok.
        let same = (reports_stay office rows exchanges new code q run fits s is).2 airline ∙ ap (hot_shown airline (airline_ledger_of airline rows)) is in
        let later = subst (λ (x : Answer). Says x m) (sym same) says in
        let form : form_of new.published q ≡ form_of rows.published q = rw (form_still code q is) refl in
        let formed = subst (λ x. PrintsFileTotals x airline (airline_ledger_net code (airline_ledger_of airline new)) (text_of m)) form (hot_files_print new airline code q m end_sound (still code q is) later ok) in
        subst (λ (n : ℕ). PrintsFileTotals (form_of rows.published q) airline (airline_ledger_net n (airline_ledger_of airline new)) (text_of m)) (sym (closed_code rows.published code q is)) formed

  -- ---- any request

  agent_printed : (name period : List ℕ) (token : Option (List ℕ)) (r : Option ℕ) → Printed new (ByAgent name (AskStatement period)) (to_agent r token (AskStatement period) rows)
  agent_printed name period token None = λ h. absurd (false≢true h)
  agent_printed name period token (Some agent) =
      either new (ByAgent name (AskStatement period)) (statement_answer agent (ledger_of agent rows) (period_in period)) (is_token (agent_token agent rows) token) refl
      (statement_printed agent name period (period_in period))

  airline_printed : (name period : List ℕ) (token : Option (List ℕ)) (r : Option ℕ) → Printed new (ByAirline name (AskHot period)) (to_airline r token (AskHot period) rows)
  airline_printed name period token None = λ h. absurd (false≢true h)
  airline_printed name period token (Some airline) =
      either new (ByAirline name (AskHot period)) (hot_answer airline (airline_ledger_of airline rows) (period_in period)) (is_token (airline_token airline rows) token) refl
      (hot_printed airline name period (period_in period))

  pub asked_printed : (token : Option (List ℕ)) (asked : Asked) → Printed new asked (asked_answer office token asked rows)
  asked_printed token (ByOffice (AskSettlement period)) =
      either new (ByOffice (AskSettlement period)) (settlement_answer (period_in period) rows) (is_token (Some office) token) refl (settlement_printed period (period_in period))
  asked_printed token (ByAgent name (AskStatement period)) = agent_printed name period token (agent_of name)
  asked_printed token (ByAirline name (AskHot period)) = airline_printed name period token (airline_in name)
  asked_printed token asked = λ h. absurd (false≢true h)

pub runs_print : RunsPrintNets
runs_print office rows exchanges new run fits sound before after p answer m split at shown says =
    let rest : List Exchange = p ∷ after in
    let parts = run_parts office rows before rest new (subst (λ (es : List Exchange). Run office rows es new) split run) in
    let fit = fit_parts before rest (subst AllFit split fits) in
    let s = run_sound office rows before parts.mid parts.first fit.0 sound in
    let made : answer ≡ asked_answer office p.request.token p.request.asked parts.mid = subst (IsAnswered office parts.mid p.request) at parts.second.0 in
    subst (λ (x : Answer). IsPrinted new x m) (sym made)
    (asked_printed office parts.mid new rest parts.second fit.1 s p.request.token p.request.asked
    (subst (λ (x : Answer). shows_report p.request.asked x ≡ true) made shown) m (subst (λ (x : Answer). Says x m) made says))
