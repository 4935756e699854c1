-- A report that a run has shown stays as it was shown.
use Rattle.std.proofs.Common.{◌≡◌, ◌⊎◌, ℕ, Bool, true, false, cond, List, ◌∷◌, ◌++◌, Option, Some, None, refl, sym, ap, subst, ◌∙◌, inl, inr}
use Rattle.std.proofs.lemmas.Bool.{both_ways, false≢true}
use Rattle.bsp_rows.specs.Published.{closed_period}
use Rattle.bsp_rows.specs.Period.{Period}
use Rattle.bsp_messages.specs.Values.{airline_in, period_in}
use Rattle.bsp_messages.specs.declared.refusal.RequestRefusal.TheVariants.{Forbidden}
use Rattle.bsp_rows.specs.Rows.{Rows, agent_token, airline_token}
use Rattle.bsp_rows.specs.Sound.{Sound}
use Rattle.bsp_office_spec.specs.AirlineLedger.{airline_ledger_of, hot_answer, hot_shown}
use Rattle.bsp_office_spec.specs.Answers.{Answer}
use Rattle.bsp_office_spec.specs.Answers.Answer.{Refused}
use Rattle.bsp_office_spec.specs.Laws.{RunsShowTheSame, shows_report}
use Rattle.bsp_office_spec.specs.Ledger.{agent_of, ledger_of, statement_answer, statement_shown}
use Rattle.bsp_office_spec.specs.Requests.{Asked}
use Rattle.bsp_office_spec.specs.Requests.AgentRequest.{AskStatement}
use Rattle.bsp_office_spec.specs.Requests.AirlineRequest.{AskHot}
use Rattle.bsp_office_spec.specs.Requests.Asked.{ByAgent, ByAirline, ByOffice}
use Rattle.bsp_office_spec.specs.Requests.OfficeRequest.{AskSettlement}
use Rattle.bsp_office_spec.specs.Step.{asked_answer, is_token, settlement_answer, settlement_shown, to_agent, to_airline}
use Rattle.bsp_office_spec.specs.View.{AllFit, Exchange, IsAnswered, Run}
use Rattle.bsp_office_spec.proofs.Reports.{reports_stay}
use Rattle.bsp_office_spec.proofs.RunParts.{fit_parts, run_parts}
use Rattle.bsp_office_spec.proofs.Runs.{run_sound}

-- the same answer, or 403
abbrev Same : Answer → Answer → Type 0
Same shown answer = (answer ≡ shown) ⊎ (answer ≡ Refused Forbidden)

-- of a caller whose token is its own, or is not
either : (asked : Asked) (shown answer : Answer) (b c : Bool) → shows_report asked (Refused Forbidden) ≡ false → (shows_report asked shown ≡ true → answer ≡ shown)
    → shows_report asked (cond b shown (Refused Forbidden)) ≡ true → Same (cond b shown (Refused Forbidden)) (cond c answer (Refused Forbidden))
either asked shown answer true true forbidden same h = inl (same h)
either asked shown answer true false forbidden same h = inr refl
either asked shown answer false c forbidden same h = absurd (both_ways (shows_report asked (Refused Forbidden)) forbidden h)

module _ (office : List ℕ) (rows new : Rows) (exchanges : List Exchange) (run : Run office rows exchanges new) (fits : AllFit exchanges) (s : Sound rows) where
  -- ---- a report that is shown is of a closed period

  settlement_same : (period : List ℕ) (wanted : Option ℕ) → shows_report (ByOffice (AskSettlement period)) (settlement_answer wanted rows) ≡ true → settlement_answer wanted new ≡ settlement_answer wanted rows
  settlement_same period None h = refl
  settlement_same period (Some code) h = by (closed_period rows.published code) refl h where
    by : (found : Option Period) → closed_period rows.published code ≡ found → shows_report (ByOffice (AskSettlement period)) (settlement_shown found rows) ≡ true → settlement_answer (Some code) new ≡ settlement_answer (Some code) rows
    by None is shown = absurd (false≢true shown)
    by (Some q) is shown = (reports_stay office rows exchanges new code q run fits s is).0

  statement_same : (agent : ℕ) (name period : List ℕ) (wanted : Option ℕ) → shows_report (ByAgent name (AskStatement period)) (statement_answer agent (ledger_of agent rows) wanted) ≡ true → statement_answer agent (ledger_of agent new) wanted ≡ statement_answer agent (ledger_of agent rows) wanted
  statement_same agent name period None h = refl
  statement_same agent name period (Some code) h = by (closed_period rows.published code) refl h where
    by : (found : Option Period) → closed_period rows.published code ≡ found → shows_report (ByAgent name (AskStatement period)) (statement_shown agent (ledger_of agent rows) found) ≡ true → statement_answer agent (ledger_of agent new) (Some code) ≡ statement_answer agent (ledger_of agent rows) (Some code)
    by None is shown = absurd (false≢true shown)
    by (Some q) is shown = (reports_stay office rows exchanges new code q run fits s is).1 agent

  hot_same : (airline : ℕ) (name period : List ℕ) (wanted : Option ℕ) → shows_report (ByAirline name (AskHot period)) (hot_answer airline (airline_ledger_of airline rows) wanted) ≡ true → hot_answer airline (airline_ledger_of airline new) wanted ≡ hot_answer airline (airline_ledger_of airline rows) wanted
  hot_same airline name period None h = refl
  hot_same airline name period (Some code) h = by (closed_period rows.published code) refl h where
    by : (found : Option Period) → closed_period rows.published code ≡ found → shows_report (ByAirline name (AskHot period)) (hot_shown airline (airline_ledger_of airline rows) found) ≡ true → hot_answer airline (airline_ledger_of airline new) (Some code) ≡ hot_answer airline (airline_ledger_of airline rows) (Some code)
    by None is shown = absurd (false≢true shown)
    by (Some q) is shown = (reports_stay office rows exchanges new code q run fits s is).2 airline

  -- ---- the request again

  agent_same : (name period : List ℕ) (token other : Option (List ℕ)) (r : Option ℕ) → shows_report (ByAgent name (AskStatement period)) (to_agent r token (AskStatement period) rows) ≡ true →
      Same (to_agent r token (AskStatement period) rows) (to_agent r other (AskStatement period) new)
  agent_same name period token other None h = absurd (false≢true h)
  agent_same name period token other (Some agent) h =
      either (ByAgent name (AskStatement period)) (statement_answer agent (ledger_of agent rows) (period_in period)) (statement_answer agent (ledger_of agent new) (period_in period))
      (is_token (agent_token agent rows) token) (is_token (agent_token agent new) other) refl (statement_same agent name period (period_in period)) h

  airline_same : (name period : List ℕ) (token other : Option (List ℕ)) (r : Option ℕ) → shows_report (ByAirline name (AskHot period)) (to_airline r token (AskHot period) rows) ≡ true →
      Same (to_airline r token (AskHot period) rows) (to_airline r other (AskHot period) new)
  airline_same name period token other None h = absurd (false≢true h)
  airline_same name period token other (Some airline) h =
      either (ByAirline name (AskHot period)) (hot_answer airline (airline_ledger_of airline rows) (period_in period)) (hot_answer airline (airline_ledger_of airline new) (period_in period))
      (is_token (airline_token airline rows) token) (is_token (airline_token airline new) other) refl (hot_same airline name period (period_in period)) h

  pub asked_same : (token other : Option (List ℕ)) (asked : Asked) → shows_report asked (asked_answer office token asked rows) ≡ true → Same (asked_answer office token asked rows) (asked_answer office other asked new)
  asked_same token other (ByOffice (AskSettlement period)) h =
      either (ByOffice (AskSettlement period)) (settlement_answer (period_in period) rows) (settlement_answer (period_in period) new)
      (is_token (Some office) token) (is_token (Some office) other) refl (settlement_same period (period_in period)) h
  asked_same token other (ByAgent name (AskStatement period)) h = agent_same name period token other (agent_of name) h
  asked_same token other (ByAirline name (AskHot period)) h = airline_same name period token other (airline_in name) h
  asked_same token other asked h = absurd (false≢true h)

pub runs_show : RunsShowTheSame
runs_show office rows exchanges new run fits sound before between after p q shown answer split at is same there =
    let rest : List Exchange = p ∷ between ++ q ∷ after in
    let first = run_parts office rows before rest new (subst (λ (es : List Exchange). Run office rows es new) split run) in
    let fit = fit_parts before rest (subst AllFit split fits) in
    let s = run_sound office rows before first.mid first.first fit.0 sound in
    let second = run_parts office first.mid (p ∷ between) (q ∷ after) new first.second in
    let shorter = fit_parts (p ∷ between) (q ∷ after) fit.1 in
    let made : shown ≡ asked_answer office p.request.token p.request.asked first.mid = subst (IsAnswered office first.mid p.request) at first.second.0 in
    let again : answer ≡ asked_answer office q.request.token p.request.asked second.mid =
    subst (IsAnswered office second.mid q.request) there second.second.0 ∙ ap (λ (x : Asked). asked_answer office q.request.token x second.mid) same in
    subst (λ (x : Answer). Same x answer) (sym made) (subst (λ (y : Answer). Same (asked_answer office p.request.token p.request.asked first.mid) y) (sym again)
    (asked_same office first.mid second.mid (p ∷ between) second.first shorter.0 s p.request.token q.request.token p.request.asked
    (subst (λ (x : Answer). shows_report p.request.asked x ≡ true) made is)))
