-- The answers to an agent, over a whole run, are those of its ledger.
use Rattle.std.proofs.Common.{◌≡◌, ℕ, ◌==◌, ◌&&◌, Bool, true, false, cond, List, [], ◌∷◌, ◌++◌, Option, Some, None, is_some, Ok, Err, refl, sym, ap, subst, ◌∙◌}
use Rattle.std.proofs.lemmas.Bool.{eqb-true, and_parts}
use Rattle.bsp_rows.specs.Transaction.{Transaction}
use Rattle.bsp_rows.specs.Verdict.{Verdict}
use Rattle.bsp_rows.specs.Verdict.TheVariants as verdict
use Rattle.bsp_rows.specs.Steps.Action.{Uphold, Reduce, Withdraw}
use Rattle.bsp_rows.specs.Rows.{Rows, agent_token}
use Rattle.bsp_office_spec.specs.Ledger.{Ledger, ledger_of, ledger_answer}
use Rattle.bsp_office_spec.specs.Laws.{AirlineIsAnsweredByLedger}
use Rattle.bsp_office_spec.specs.Step.{to_airline, is_token, answer_of, to_agent, rows_after}
use Rattle.bsp_office_spec.specs.View.{Exchange, Sight, ledger_after, ledger_all, sights, answered_sights, office_sights, filed_sights, reported_in, reported_one, airline_sights, of_airline, is_agent, is_own, reply_sights, view, answer_to_sight, ledger_answers, told_one, told_reply, told, IsAnswered, rows_replied, Run}
use Rattle.bsp_office_spec.specs.View.Sight.{Own, Reported, Registered, Allotted, Withdrew, Issued, Acted}
use Rattle.bsp_office_spec.proofs.SeenLemmas.{all_append}
use Rattle.bsp_office_spec.proofs.Seen.{seen}
use Rattle.bsp_messages.specs.Values.{airline_in}
use Rattle.bsp_messages.specs.declared.refusal.RequestRefusal.TheVariants.{Forbidden}
use Rattle.bsp_office_spec.specs.Answers.{Answer, is_done, verdicts_in}
use Rattle.bsp_office_spec.specs.Answers.Answer.{Refused}
use Rattle.bsp_office_spec.specs.AirlineLedger.{issue_key}
use Rattle.bsp_office_spec.specs.Ledger.{agent_of}
use Rattle.bsp_office_spec.specs.Requests.{Request, Asked, OfficeRequest, AgentRequest, AirlineRequest}
use Rattle.bsp_office_spec.specs.Requests.Asked.{NoRoute, OtherMethod, ByOffice, ByAgent, ByAirline}
use Rattle.bsp_office_spec.specs.Requests.OfficeRequest.{PublishPlan, SetBusinessDay, RegisterAgent, RegisterAirline, AllotRange, WithdrawRange, OfficeFile, ClosePeriod, AskSettlement}
use Rattle.bsp_office_spec.specs.Requests.AirlineRequest.{AskIssuedMemos, IssueMemo, UpholdMemo, WithdrawMemo, ReduceMemo, AskHot}

-- ---- its own request is answered by its ledger

own_by : (a b : ℕ) (token : Option (List ℕ)) (rows : Rows) (call : AgentRequest) → (b == a) ≡ true → is_token (agent_token a rows) token ≡ true → to_agent (Some b) token call rows ≡ ledger_answer a (ledger_of a rows) call
own_by a b token rows call same given =
    ap (λ (x : ℕ). to_agent (Some x) token call rows) (eqb-true b a same)
    ∙ ap (λ c. cond c (ledger_answer a (ledger_of a rows) call) (Refused Forbidden)) given

own_read : (a : ℕ) (token : Option (List ℕ)) (rows : Rows) (call : AgentRequest) (r : Option ℕ) → (is_agent a r && is_token (agent_token a rows) token) ≡ true → to_agent r token call rows ≡ ledger_answer a (ledger_of a rows) call
own_read a token rows call None h = absurd (cc h)
own_read a token rows call (Some b) h =
    let both = and_parts (b == a) (is_token (agent_token a rows) token) h in
    own_by a b token rows call both.0 both.1

pub own_answer : (office : List ℕ) (a : ℕ) (rows : Rows) (token : Option (List ℕ)) (code : List ℕ) (call : AgentRequest) → is_own a (ledger_of a rows) token code ≡ true → answer_of office rows (record { token = token; asked = ByAgent code call }) ≡ ledger_answer a (ledger_of a rows) call
own_answer office a rows token code call h = own_read a token rows call (agent_of code) h

-- with another token the answer is 403
pub other_forbidden : (office : List ℕ) (a : ℕ) (rows : Rows) (token : Option (List ℕ)) (code : List ℕ) (call : AgentRequest) → agent_of code ≡ Some a → is_token (ledger_of a rows).own.token token ≡ false → answer_of office rows (record { token = token; asked = ByAgent code call }) ≡ (Refused Forbidden)
other_forbidden office a rows token code call reads h =
    ap (λ r. to_agent r token call rows) reads ∙ ap (λ c. cond c (ledger_answer a (ledger_of a rows) call) (Refused Forbidden)) h

-- ---- an airline's request is answered by its ledger

pub airline_own : AirlineIsAnsweredByLedger
airline_own office c rows token code call reads = ap (λ r. to_airline r token call rows) reads

-- ---- what is answered to sights

answers_append : (a : ℕ) (l : Ledger) (ss more : List Sight) → ledger_answers a l (ss ++ more) ≡ ledger_answers a l ss ++ ledger_answers a (ledger_all a l ss) more
answers_append a l [] more = refl
answers_append a l (s ∷ ss) more =
    ap (λ (rest : List Answer). answer_to_sight a l s ++ rest) (answers_append a (ledger_after a l s) ss more)
    ∙ sym (assoc (answer_to_sight a l s) (ledger_answers a (ledger_after a l s) ss) (ledger_answers a (ledger_all a (ledger_after a l s) ss) more)) where
      assoc : (xs ys zs : List Answer) → (xs ++ ys) ++ zs ≡ xs ++ (ys ++ zs)
      assoc [] ys zs = refl
      assoc (x ∷ xs) ys zs = ap (λ (rest : List Answer). x ∷ rest) (assoc xs ys zs)

quiet_if : (a : ℕ) (l : Ledger) (s : Sight) → ledger_answers a l (s ∷ []) ≡ [] → (b : Bool) → ledger_answers a l (cond b (s ∷ []) []) ≡ []
quiet_if a l s h true = h
quiet_if a l s h false = refl

quiet_one : (a : ℕ) (l : Ledger) (t : Transaction) (v : Verdict) → ledger_answers a l (reported_one a t v) ≡ []
quiet_one a l t (verdict.Held period) = refl
quiet_one a l t (verdict.Accepted period) = quiet_if a l (Reported t) refl (is_agent a (agent_of t.agent))
quiet_one a l t (verdict.Refused refusal) = refl

quiet_file : (a : ℕ) (l : Ledger) (ts : List Transaction) (vs : List Verdict) → ledger_answers a l (reported_in a ts vs) ≡ []
quiet_file a l [] vs = refl
quiet_file a l (t ∷ ts) [] = refl
quiet_file a l (t ∷ ts) (v ∷ vs) =
    answers_append a l (reported_one a t v) (reported_in a ts vs)
    ∙ (ap (λ (xs : List Answer). xs ++ ledger_answers a (ledger_all a l (reported_one a t v)) (reported_in a ts vs)) (quiet_one a l t v)
    ∙ quiet_file a (ledger_all a l (reported_one a t v)) ts vs)

quiet_office : (a : ℕ) (l : Ledger) (call : OfficeRequest) → ledger_answers a l (office_sights a call) ≡ []
quiet_office a l (PublishPlan (Ok text)) = refl
quiet_office a l (PublishPlan (Err fault)) = refl
quiet_office a l (SetBusinessDay (Some day)) = refl
quiet_office a l (SetBusinessDay None) = refl
quiet_office a l (RegisterAgent (Some body)) = quiet_if a l (Registered body.token) refl (is_agent a body.agent.code)
quiet_office a l (RegisterAgent None) = refl
quiet_office a l (RegisterAirline body) = refl
quiet_office a l (AllotRange (Some body)) = quiet_if a l (Allotted body.range) refl (is_agent a body.agent.code)
quiet_office a l (AllotRange None) = refl
quiet_office a l (WithdrawRange (Some body)) = quiet_if a l (Withdrew body.range) refl (is_agent a body.agent.code)
quiet_office a l (WithdrawRange None) = refl
quiet_office a l (OfficeFile file) = refl
quiet_office a l (ClosePeriod (Some period)) = refl
quiet_office a l (ClosePeriod None) = refl
quiet_office a l (AskSettlement period) = refl

quiet_filed : (a : ℕ) (l : Ledger) (call : OfficeRequest) (vs : List Verdict) → ledger_answers a l (filed_sights a call vs) ≡ []
quiet_filed a l (PublishPlan text) vs = refl
quiet_filed a l (SetBusinessDay day) vs = refl
quiet_filed a l (RegisterAgent body) vs = refl
quiet_filed a l (RegisterAirline body) vs = refl
quiet_filed a l (AllotRange body) vs = refl
quiet_filed a l (WithdrawRange body) vs = refl
quiet_filed a l (OfficeFile (Err fault)) vs = refl
quiet_filed a l (OfficeFile (Ok ts)) vs = quiet_file a l ts vs
quiet_filed a l (ClosePeriod period) vs = refl
quiet_filed a l (AskSettlement period) vs = refl

quiet_call : (a : ℕ) (l : Ledger) (call : OfficeRequest) (vs : List Verdict) (b : Bool) → ledger_answers a l (cond b (office_sights a call) (filed_sights a call vs)) ≡ []
quiet_call a l call vs true = quiet_office a l call
quiet_call a l call vs false = quiet_filed a l call vs

quiet_airline : (a airline : ℕ) (l : Ledger) (call : AirlineRequest) → ledger_answers a l (airline_sights a airline call l) ≡ []
quiet_airline a airline l AskIssuedMemos = refl
quiet_airline a airline l (IssueMemo None) = refl
quiet_airline a airline l (IssueMemo (Some issue)) = quiet_if a l (Issued airline issue) refl (is_agent a issue.agent.code)
quiet_airline a airline l (UpholdMemo None) = refl
quiet_airline a airline l (UpholdMemo (Some document)) = quiet_if a l (Acted Uphold (issue_key airline document)) refl (is_some (Rattle.std.specs.FinMap.get l.own.memos (issue_key airline document)))
quiet_airline a airline l (WithdrawMemo None) = refl
quiet_airline a airline l (WithdrawMemo (Some document)) = quiet_if a l (Acted Withdraw (issue_key airline document)) refl (is_some (Rattle.std.specs.FinMap.get l.own.memos (issue_key airline document)))
quiet_airline a airline l (ReduceMemo None) = refl
quiet_airline a airline l (ReduceMemo (Some body)) = quiet_if a l (Acted (Reduce body.amount) (issue_key airline body.document)) refl (is_some (Rattle.std.specs.FinMap.get l.own.memos (issue_key airline body.document)))
quiet_airline a airline l (AskHot period) = refl

quiet_by : (a : ℕ) (l : Ledger) (call : AirlineRequest) (r : Option ℕ) (b : Bool) → ledger_answers a l (cond b (of_airline a r call l) []) ≡ []
quiet_by a l call None true = refl
quiet_by a l call (Some airline) true = quiet_airline a airline l call
quiet_by a l call r false = refl

-- ---- one request

own_told : (office : List ℕ) (a : ℕ) (rows : Rows) (token : Option (List ℕ)) (code : List ℕ) (call : AgentRequest) (answer : Answer) → answer ≡ answer_of office rows (record { token = token; asked = ByAgent code call }) → (b : Bool) → is_own a (ledger_of a rows) token code ≡ b → cond b (answer ∷ []) [] ≡ ledger_answers a (ledger_of a rows) (cond b (Own call ∷ []) [])
own_told office a rows token code call answer is true h = ap (λ (x : Answer). x ∷ []) (is ∙ own_answer office a rows token code call h)
own_told office a rows token code call answer is false h = refl

told_asked : (office : List ℕ) (a : ℕ) (rows : Rows) (token : Option (List ℕ)) (asked : Asked) (answer : Answer) → answer ≡ answer_of office rows (record { token = token; asked = asked }) → told_one a (ledger_of a rows) token asked answer ≡ ledger_answers a (ledger_of a rows) (answered_sights a (ledger_of a rows) token asked answer)
told_asked office a rows token NoRoute answer is = refl
told_asked office a rows token OtherMethod answer is = refl
told_asked office a rows token (ByOffice call) answer is = sym (quiet_call a (ledger_of a rows) call (verdicts_in answer) (is_done answer))
told_asked office a rows token (ByAgent code call) answer is = own_told office a rows token code call answer is (is_own a (ledger_of a rows) token code) refl
told_asked office a rows token (ByAirline code call) answer is = sym (quiet_by a (ledger_of a rows) call (airline_in code) (is_done answer))

pub replied : (office : List ℕ) (a : ℕ) (rows : Rows) (request : Request) (reply : Option Answer) → IsAnswered office rows request reply → (told_reply a (ledger_of a rows) (record { request = request; reply = reply }) ≡ ledger_answers a (ledger_of a rows) (reply_sights a (ledger_of a rows) (record { request = request; reply = reply }))) × (ledger_of a (rows_replied rows (record { request = request; reply = reply })) ≡ ledger_all a (ledger_of a rows) (reply_sights a (ledger_of a rows) (record { request = request; reply = reply })))
replied office a rows request None h = (refl, refl)
replied office a rows request (Some answer) h = (
  told_asked office a rows request.token request.asked answer h,
  subst (λ (x : Answer). ledger_of a (rows_after rows request x) ≡ ledger_all a (ledger_of a rows) (sights a (ledger_of a rows) request x)) (sym h) (seen office a rows request),
)

-- ---- the whole run

-- the answers to an agent are those of its ledger, and its part in the end is the fold of its view
pub isolated : (office : List ℕ) (a : ℕ) (rows : Rows) (ps : List Exchange) (new : Rows) → Run office rows ps new → (told a (ledger_of a rows) ps ≡ ledger_answers a (ledger_of a rows) (view a (ledger_of a rows) ps)) × (ledger_of a new ≡ ledger_all a (ledger_of a rows) (view a (ledger_of a rows) ps))
isolated office a rows [] new run = (refl, ap (ledger_of a) run)
isolated office a rows (p ∷ ps) new run =
    let here = replied office a rows p.request p.reply run.0 in
    let l : Ledger = ledger_of a rows in
    let ss : List Sight = reply_sights a l p in
    let next : Rows = rows_replied rows p in
    let rest = isolated office a next ps new run.1 in
    let move : ledger_of a next ≡ ledger_all a l ss = here.1 in
    let told_rest : told a (ledger_all a l ss) ps ≡ ledger_answers a (ledger_all a l ss) (view a (ledger_all a l ss) ps) = subst (λ (m : Ledger). told a m ps ≡ ledger_answers a m (view a m ps)) move rest.0 in
    let end : ledger_of a new ≡ ledger_all a (ledger_all a l ss) (view a (ledger_all a l ss) ps) = subst (λ (m : Ledger). ledger_of a new ≡ ledger_all a m (view a m ps)) move rest.1 in (
      ap (λ (xs : List Answer). xs ++ told a (ledger_all a l ss) ps) here.0
          ∙ (ap (λ (xs : List Answer). ledger_answers a l ss ++ xs) told_rest
          ∙ sym (answers_append a l ss (view a (ledger_all a l ss) ps))),
      end ∙ sym (all_append a l ss (view a (ledger_all a l ss) ps)),
    )

-- two runs whose parts and views of an agent are equal give it equal answers
pub alike : (office other : List ℕ) (a : ℕ) (rows rows' : Rows) (ps qs : List Exchange) (new new' : Rows) → Run office rows ps new → Run other rows' qs new' → ledger_of a rows ≡ ledger_of a rows' → view a (ledger_of a rows) ps ≡ view a (ledger_of a rows') qs → told a (ledger_of a rows) ps ≡ told a (ledger_of a rows') qs
alike office other a rows rows' ps qs new new' run run' part seen' =
    (isolated office a rows ps new run).0
    ∙ (ap (ledger_answers a (ledger_of a rows)) seen'
    ∙ (ap (λ (l : Ledger). ledger_answers a l (view a (ledger_of a rows') qs)) part
    ∙ sym ((isolated other a rows' qs new' run').0)))
