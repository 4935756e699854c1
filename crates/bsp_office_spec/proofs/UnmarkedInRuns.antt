-- An agent's ledger needs no marks at any point of a run.
use Rattle.std.proofs.Common.{◌≡◌, ℕ, ◌<◌, ◌==◌, nat_le, Bool, true, false, cond, List, [], ◌∷◌, Option, Some, None, IsSome, is_some, Ok, Err, refl, sym, ap, subst, ◌∙◌, arith}
use Rattle.std.specs.Prelude.{not}
use Rattle.std.specs.FinMap.{get, values}
use Rattle.std.proofs.lemmas.Bool.{leb-false}
use Rattle.bsp_rows.specs.Change.TheVariants.{Done}
use Rattle.bsp_rows.specs.Memos.{is_amount}
use Rattle.bsp_rows.specs.MemoFault.TheVariants.{AmountOutOfRange, AgentNotRegistered, LimitReached}
use Rattle.bsp_rows.specs.MemoFields.{MemoFields}
use Rattle.bsp_rows.specs.Rows.{Rows, airline_token}
use Rattle.bsp_rows.specs.Sound.{Sound}
use Rattle.bsp_rows.specs.Steps.{Action}
use Rattle.bsp_rows.specs.Steps.Action.{Uphold, Reduce, Withdraw}
use Rattle.bsp_rows.specs.Terms.{Terms}
use Rattle.bsp_rows.specs.Transaction.{Transaction}
use Rattle.bsp_rows.specs.Verdict.{Verdict}
use Rattle.bsp_rows.specs.Verdict.TheVariants as verdict
use Rattle.bsp_rows.specs.Verdicts.{limit_of}
use Rattle.bsp_rows.specs.declared.keys.MemoKey.{MemoKey}
use Rattle.bsp_rows.proofs.KeyOrders.{memo_exact, memo_total}
use Rattle.bsp_rows.proofs.PartLemmas.{kept_get, passing}
use Rattle.bsp_messages.specs.Values.{airline_in}
use Rattle.bsp_messages.specs.declared.airline_bodies.MemoIssue.{MemoIssue}
use Rattle.bsp_messages.specs.declared.refusal.RequestRefusal.TheVariants as refusal
use Rattle.bsp_office_spec.specs.AirlineLedger.{AirlineLedger, airline_answer, airline_ledger_of, count_to, is_known, issue_beside, issue_key, issuing}
use Rattle.bsp_office_spec.specs.Answers.{Answer, is_done, verdicts_in}
use Rattle.bsp_office_spec.specs.Answers.Answer.{Changed, Refused}
use Rattle.bsp_office_spec.specs.Ledger.{Ledger, agent_of, ledger_of}
use Rattle.bsp_office_spec.specs.Requests.{AirlineRequest, Asked, OfficeRequest, Request}
use Rattle.bsp_office_spec.specs.Requests.AirlineRequest.{AskIssuedMemos, IssueMemo, UpholdMemo, WithdrawMemo, ReduceMemo, AskHot}
use Rattle.bsp_office_spec.specs.Requests.Asked.{NoRoute, OtherMethod, ByOffice, ByAgent, ByAirline}
use Rattle.bsp_office_spec.specs.Requests.OfficeRequest.{PublishPlan, SetBusinessDay, RegisterAgent, RegisterAirline, AllotRange, WithdrawRange, OfficeFile, ClosePeriod, AskSettlement}
use Rattle.bsp_office_spec.specs.Step.{asked_answer, is_token, to_airline}
use Rattle.bsp_office_spec.specs.Unmarked.{AgentsNeedNoMarks, LiveByTheList}
use Rattle.bsp_office_spec.specs.View.{AllFit, Exchange, IsAnswered, Run, Sight, action_sights, airline_sights, answered_sights, filed_sights, if_own, is_agent, is_own, ledger_all, of_airline, office_sights, reply_sights, reported_in, reported_one, rows_replied, sights, view}
use Rattle.bsp_office_spec.specs.View.Sight.{Own, Reported, Registered, Allotted, Withdrew, Issued, Acted}
use Rattle.bsp_office_spec.proofs.Isolated.{isolated, replied}
use Rattle.bsp_office_spec.proofs.MemoEvents.{memo_has_terms, passed}
use Rattle.bsp_office_spec.proofs.RunParts.{fit_parts, run_parts}
use Rattle.bsp_office_spec.proofs.Runs.{run_sound}
use Rattle.bsp_office_spec.proofs.Seen.{free_key, issue_free}
use Rattle.bsp_office_spec.proofs.SeenLemmas.{own_memo}
use Rattle.bsp_office_spec.proofs.UnmarkedAgent.{IsNewIssue, IssuesAreNew, goes_on_by, made_since, new_append, no_other}
use Rattle.bsp_office_spec.proofs.UnmarkedItems.{agent_live}

-- ---- what is no issue

new_if : (a : ℕ) (l : Ledger) (s : Sight) → IsNewIssue l s → (b : Bool) → IssuesAreNew a l (cond b (s ∷ []) [])
new_if a l s h true = (h, tt)
new_if a l s h false = tt

new_one : (a : ℕ) (l : Ledger) (t : Transaction) (v : Verdict) → IssuesAreNew a l (reported_one a t v)
new_one a l t (verdict.Held period) = tt
new_one a l t (verdict.Accepted period) = new_if a l (Reported t) tt (is_agent a (agent_of t.agent))
new_one a l t (verdict.Refused refusal) = tt

new_in : (a : ℕ) (l : Ledger) (ts : List Transaction) (vs : List Verdict) → IssuesAreNew a l (reported_in a ts vs)
new_in a l [] vs = tt
new_in a l (t ∷ ts) [] = tt
new_in a l (t ∷ ts) (v ∷ vs) = new_append a l (reported_one a t v) (reported_in a ts vs) (new_one a l t v) (new_in a (ledger_all a l (reported_one a t v)) ts vs)

new_office : (a : ℕ) (l : Ledger) (call : OfficeRequest) → IssuesAreNew a l (office_sights a call)
new_office a l (PublishPlan (Ok text)) = (tt, tt)
new_office a l (PublishPlan (Err fault)) = tt
new_office a l (SetBusinessDay (Some day)) = (tt, tt)
new_office a l (SetBusinessDay None) = tt
new_office a l (RegisterAgent (Some body)) = new_if a l (Registered body.token) tt (is_agent a body.agent.code)
new_office a l (RegisterAgent None) = tt
new_office a l (RegisterAirline body) = tt
new_office a l (AllotRange (Some body)) = new_if a l (Allotted body.range) tt (is_agent a body.agent.code)
new_office a l (AllotRange None) = tt
new_office a l (WithdrawRange (Some body)) = new_if a l (Withdrew body.range) tt (is_agent a body.agent.code)
new_office a l (WithdrawRange None) = tt
new_office a l (OfficeFile file) = tt
new_office a l (ClosePeriod (Some period)) = (tt, tt)
new_office a l (ClosePeriod None) = tt
new_office a l (AskSettlement period) = tt

new_filed : (a : ℕ) (l : Ledger) (call : OfficeRequest) (vs : List Verdict) → IssuesAreNew a l (filed_sights a call vs)
new_filed a l (PublishPlan text) vs = tt
new_filed a l (SetBusinessDay day) vs = tt
new_filed a l (RegisterAgent body) vs = tt
new_filed a l (RegisterAirline body) vs = tt
new_filed a l (AllotRange body) vs = tt
new_filed a l (WithdrawRange body) vs = tt
new_filed a l (OfficeFile (Err fault)) vs = tt
new_filed a l (OfficeFile (Ok ts)) vs = new_in a l ts vs
new_filed a l (ClosePeriod period) vs = tt
new_filed a l (AskSettlement period) vs = tt

new_call : (a : ℕ) (l : Ledger) (call : OfficeRequest) (vs : List Verdict) (b : Bool) → IssuesAreNew a l (cond b (office_sights a call) (filed_sights a call vs))
new_call a l call vs true = new_office a l call
new_call a l call vs false = new_filed a l call vs

new_acts : (a : ℕ) (action : Action) (key : MemoKey) (l : Ledger) (done : Bool) → IssuesAreNew a l (cond done (action_sights action key l) [])
new_acts a action key l true = new_if a l (Acted action key) tt (is_some (get l.own.memos key))
new_acts a action key l false = tt

new_nothing : (a : ℕ) (l : Ledger) (done : Bool) → IssuesAreNew a l (cond done [] [])
new_nothing a l true = tt
new_nothing a l false = tt

-- ---- an issue

under_limit : (terms : Option Terms) (n : ℕ) (full : Bool) → nat_le (limit_of terms) n ≡ full → is_done (cond full (Refused (refusal.Memo LimitReached)) (Changed Done)) ≡ true → IsSome terms
under_limit terms n true is h = absurd (cc h)
under_limit None n false is h = let none : n < 0 = leb-false 0 n is in absurd (omega (arith, none))
under_limit (Some terms) n false is h = refl

-- where an issue is done terms are published
pub issue_has_terms : (c b : ℕ) (issue : MemoIssue) (l : AirlineLedger) (found : Option MemoFields) (x y : Bool) → found ≡ None → is_done (cond x (Refused (refusal.Memo AgentNotRegistered)) (cond y (Refused (refusal.Memo AmountOutOfRange)) (issue_beside c b issue l found))) ≡ true → IsSome l.published.terms
issue_has_terms c b issue l found true y free h = absurd (cc h)
issue_has_terms c b issue l found false true free h = absurd (cc h)
issue_has_terms c b issue l found false false free h =
    under_limit l.published.terms (count_to b l) (nat_le (limit_of l.published.terms) (count_to b l)) refl (subst (λ (o : Option MemoFields). is_done (issue_beside c b issue l o) ≡ true) free h)

new_issue : (a c : ℕ) (issue : MemoIssue) (rows : Rows) (r : Option ℕ) (done : Bool) → is_done (issuing c issue (airline_ledger_of c rows) r) ≡ done → IssuesAreNew a (ledger_of a rows) (cond done (if_own a r (Issued c issue)) [])
new_issue a c issue rows r false h = tt
new_issue a c issue rows None true h = tt
new_issue a c issue rows (Some b) true h =
    let l : AirlineLedger = airline_ledger_of c rows in
    let key : MemoKey = issue_key c issue.document in
    let none : get l.own.memos key ≡ None = issue_free c b issue l (get l.own.memos key) (not (is_known b l)) (not (is_amount issue.amount)) h in
    let free : get (ledger_of a rows).own.memos key ≡ None = kept_get memo_total memo_exact (own_memo a) rows.memos key ∙ ap (passing (own_memo a) key) (free_key c issue.document rows none) in
    let terms : IsSome rows.published.terms = issue_has_terms c b issue l (get l.own.memos key) (not (is_known b l)) (not (is_amount issue.amount)) none h in
    new_if a (ledger_of a rows) (Issued c issue) (free, terms) (b == a)

new_airline : (a c : ℕ) (rows : Rows) (call : AirlineRequest) → IssuesAreNew a (ledger_of a rows) (cond (is_done (airline_answer c (airline_ledger_of c rows) call)) (airline_sights a c call (ledger_of a rows)) [])
new_airline a c rows AskIssuedMemos = tt
new_airline a c rows (IssueMemo None) = tt
new_airline a c rows (IssueMemo (Some issue)) = new_issue a c issue rows issue.agent.code (is_done (issuing c issue (airline_ledger_of c rows) issue.agent.code)) refl
new_airline a c rows (UpholdMemo None) = tt
new_airline a c rows (UpholdMemo (Some document)) = new_acts a Uphold (issue_key c document) (ledger_of a rows) (is_done (airline_answer c (airline_ledger_of c rows) (UpholdMemo (Some document))))
new_airline a c rows (WithdrawMemo None) = tt
new_airline a c rows (WithdrawMemo (Some document)) = new_acts a Withdraw (issue_key c document) (ledger_of a rows) (is_done (airline_answer c (airline_ledger_of c rows) (WithdrawMemo (Some document))))
new_airline a c rows (ReduceMemo None) = tt
new_airline a c rows (ReduceMemo (Some body)) = new_acts a (Reduce body.amount) (issue_key c body.document) (ledger_of a rows) (is_done (airline_answer c (airline_ledger_of c rows) (ReduceMemo (Some body))))
new_airline a c rows (AskHot period) = new_nothing a (ledger_of a rows) (is_done (airline_answer c (airline_ledger_of c rows) (AskHot period)))

new_given : (a c : ℕ) (rows : Rows) (call : AirlineRequest) (given : Bool) → let answer = cond given (airline_answer c (airline_ledger_of c rows) call) (Refused refusal.Forbidden) in IssuesAreNew a (ledger_of a rows) (cond (is_done answer) (airline_sights a c call (ledger_of a rows)) [])
new_given a c rows call true = new_airline a c rows call
new_given a c rows call false = tt

new_by_airline : (a : ℕ) (token : Option (List ℕ)) (rows : Rows) (call : AirlineRequest) (r : Option ℕ) → IssuesAreNew a (ledger_of a rows) (cond (is_done (to_airline r token call rows)) (of_airline a r call (ledger_of a rows)) [])
new_by_airline a token rows call None = tt
new_by_airline a token rows call (Some c) = new_given a c rows call (is_token (airline_token c rows) token)

-- ---- any request, and a run

new_asked : (office : List ℕ) (a : ℕ) (rows : Rows) (token : Option (List ℕ)) (asked : Asked) → IssuesAreNew a (ledger_of a rows) (answered_sights a (ledger_of a rows) token asked (asked_answer office token asked rows))
new_asked office a rows token NoRoute = tt
new_asked office a rows token OtherMethod = tt
new_asked office a rows token (ByOffice call) = new_call a (ledger_of a rows) call (verdicts_in (asked_answer office token (ByOffice call) rows)) (is_done (asked_answer office token (ByOffice call) rows))
new_asked office a rows token (ByAgent code call) = new_if a (ledger_of a rows) (Own call) tt (is_own a (ledger_of a rows) token code)
new_asked office a rows token (ByAirline code call) = new_by_airline a token rows call (airline_in code)

new_replied : (office : List ℕ) (a : ℕ) (rows : Rows) (request : Request) (reply : Option Answer) → IsAnswered office rows request reply → IssuesAreNew a (ledger_of a rows) (reply_sights a (ledger_of a rows) (record { request = request; reply = reply }))
new_replied office a rows request None h = tt
new_replied office a rows request (Some answer) h =
    subst (λ (x : Answer). IssuesAreNew a (ledger_of a rows) (sights a (ledger_of a rows) request x)) (sym h) (new_asked office a rows request.token request.asked)

new_in_runs : (office : List ℕ) (a : ℕ) (rows : Rows) (ps : List Exchange) (new : Rows) → Run office rows ps new → IssuesAreNew a (ledger_of a rows) (view a (ledger_of a rows) ps)
new_in_runs office a rows [] new run = tt
new_in_runs office a rows (p ∷ ps) new run =
    let l : Ledger = ledger_of a rows in
    let ss : List Sight = reply_sights a l p in
    let move : ledger_of a (rows_replied rows p) ≡ ledger_all a l ss = (replied office a rows p.request p.reply run.0).1 in
    new_append a l ss (view a (ledger_all a l ss) ps) (new_replied office a rows p.request p.reply run.0)
    (subst (λ (m : Ledger). IssuesAreNew a m (view a m ps)) move (new_in_runs office a (rows_replied rows p) ps new run.1))

-- ---- the law

pub agents_need_no_marks : AgentsNeedNoMarks
agents_need_no_marks office rows exchanges new a run fits s before after split =
    let start : Ledger = ledger_of a rows in
    let sights : List Sight = view a start before in
    let parts = run_parts office rows before after new (subst (λ (es : List Exchange). Run office rows es new) split run) in
    let fit : AllFit before = (fit_parts before after (subst AllFit split fits)).0 in
    let sound : Sound parts.mid = run_sound office rows before parts.mid parts.first fit s in
    let fresh : IssuesAreNew a start sights = new_in_runs office a rows before parts.mid parts.first in
    record {
      items = subst (λ (l : Ledger). LiveByTheList (values l.own.items)) (isolated office a rows before parts.mid parts.first).1 (agent_live a parts.mid sound);
      kept = λ key memo there.
          let at : get rows.memos key ≡ Some memo = passed (own_memo a) key (get rows.memos key) memo (sym (kept_get memo_total memo_exact (own_memo a) rows.memos key) ∙ there) in
          goes_on_by a key sights start memo rows.published.terms refl (memo_has_terms rows key memo s at) s.plan fresh there;
      issued = made_since a start sights s.plan fresh;
      no_other = λ key memo there. no_other a key sights start (ap is_some there);
    }
