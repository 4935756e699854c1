-- The answers to an airline, over a whole run, are those of its ledger.
use Rattle.std.proofs.Common.{◌≡◌, ℕ, ◌==◌, ◌&&◌, Bool, true, false, cond, List, [], ◌∷◌, ◌++◌, Option, Some, None, Ok, Err, refl, sym, ap, subst, ◌∙◌}
use Rattle.std.proofs.lemmas.Bool.{and_parts, eqb-true}
use Rattle.bsp_messages.specs.Values.{airline_in}
use Rattle.bsp_rows.specs.Steps.Action.{Dispute, Agree}
use Rattle.bsp_messages.specs.declared.refusal.RequestRefusal.TheVariants.{Forbidden}
use Rattle.bsp_rows.specs.Transaction.{Transaction}
use Rattle.bsp_rows.specs.Verdict.{Verdict}
use Rattle.bsp_rows.specs.Verdict.TheVariants as verdict
use Rattle.bsp_rows.specs.Rows.{Rows, airline_token}
use Rattle.bsp_rows.specs.Sound.{Sound}
use Rattle.bsp_office_spec.specs.AirlineLedger.{AirlineLedger, airline_answer, airline_ledger_of, is_known}
use Rattle.bsp_office_spec.specs.AirlineView.{AirlineSight, agent_files, agent_shows, airline_after, airline_all, airline_ledger_answers, airline_reply_sights, airline_sight_answer, airline_sights, airline_told, airline_told_one, airline_told_reply, airline_view, is_own_airline, known_of, office_files, office_shows, taken_file, taken_in, taken_of, taken_one}
use Rattle.bsp_office_spec.specs.AirlineView.AirlineSight.{ActedOn, Known, OwnAsked, Renewed, Taken}
use Rattle.bsp_office_spec.specs.Answers.{Answer, is_done, verdicts_in}
use Rattle.bsp_office_spec.specs.Answers.Answer.{Refused}
use Rattle.bsp_office_spec.specs.Laws.{AirlineIsIsolated, AirlinesAreAlike}
use Rattle.bsp_office_spec.specs.Ledger.{agent_of, memo_named}
use Rattle.bsp_office_spec.specs.Requests.{AgentRequest, AirlineRequest, Asked, FileRead, OfficeRequest, Request}
use Rattle.bsp_office_spec.specs.Requests.AgentRequest.{AgentFile, AskDocument, AskPeriod, AskStock, AskMemos, DisputeMemo, AgreeMemo, AskStatement}
use Rattle.bsp_office_spec.specs.Requests.Asked.{NoRoute, OtherMethod, ByOffice, ByAgent, ByAirline}
use Rattle.bsp_office_spec.specs.Requests.OfficeRequest.{PublishPlan, SetBusinessDay, RegisterAgent, RegisterAirline, AllotRange, WithdrawRange, OfficeFile, ClosePeriod, AskSettlement}
use Rattle.bsp_office_spec.specs.Step.{Fits, Owner, answer_of, bearer, is_token, reporter, rows_after, to_airline}
use Rattle.bsp_office_spec.specs.View.{Exchange, IsAnswered, is_agent, rows_replied}
use Rattle.bsp_office_spec.proofs.AirlineLemmas.{airline_append}
use Rattle.bsp_office_spec.proofs.AirlineSeen.{airline_seen}
use Rattle.bsp_office_spec.proofs.Runs.{sound_kept}

-- ---- its own request is answered by its ledger

own_by : (c d : ℕ) (token : Option (List ℕ)) (rows : Rows) (call : AirlineRequest) → (d == c) ≡ true → is_token (airline_token c rows) token ≡ true → to_airline (Some d) token call rows ≡ airline_answer c (airline_ledger_of c rows) call
own_by c d token rows call same given =
    ap (λ (x : ℕ). to_airline (Some x) token call rows) (eqb-true d c same)
    ∙ ap (λ b. cond b (airline_answer c (airline_ledger_of c rows) call) (Refused Forbidden)) given

own_read : (c : ℕ) (token : Option (List ℕ)) (rows : Rows) (call : AirlineRequest) (r : Option ℕ) → (is_agent c r && is_token (airline_token c rows) token) ≡ true → to_airline r token call rows ≡ airline_answer c (airline_ledger_of c rows) call
own_read c token rows call None h = absurd (cc h)
own_read c token rows call (Some d) h =
    let both = and_parts (d == c) (is_token (airline_token c rows) token) h in
    own_by c d token rows call both.0 both.1

-- ---- what is answered to sights

answers_append : (c : ℕ) (l : AirlineLedger) (ss more : List AirlineSight) → airline_ledger_answers c l (ss ++ more) ≡ airline_ledger_answers c l ss ++ airline_ledger_answers c (airline_all c l ss) more
answers_append c l [] more = refl
answers_append c l (s ∷ ss) more =
    ap (λ (rest : List Answer). airline_sight_answer c l s ++ rest) (answers_append c (airline_after c l s) ss more)
    ∙ sym (assoc (airline_sight_answer c l s) (airline_ledger_answers c (airline_after c l s) ss) (airline_ledger_answers c (airline_all c (airline_after c l s) ss) more)) where
      assoc : (xs ys zs : List Answer) → (xs ++ ys) ++ zs ≡ xs ++ (ys ++ zs)
      assoc [] ys zs = refl
      assoc (x ∷ xs) ys zs = ap (λ (rest : List Answer). x ∷ rest) (assoc xs ys zs)

quiet_if : (c : ℕ) (l : AirlineLedger) (s : AirlineSight) → airline_ledger_answers c l (s ∷ []) ≡ [] → (b : Bool) → airline_ledger_answers c l (cond b (s ∷ []) []) ≡ []
quiet_if c l s h true = h
quiet_if c l s h false = refl

quiet_of : (c : ℕ) (l : AirlineLedger) (r : Option ℕ) (t : Transaction) → airline_ledger_answers c l (taken_of c r t) ≡ []
quiet_of c l None t = refl
quiet_of c l (Some b) t = quiet_if c l (Taken b t) refl (t.document.airline == c)

quiet_one : (c : ℕ) (l : AirlineLedger) (owner : Owner) (t : Transaction) (v : Verdict) → airline_ledger_answers c l (taken_one c owner t v) ≡ []
quiet_one c l owner t (verdict.Held period) = refl
quiet_one c l owner t (verdict.Accepted period) = quiet_of c l (owner t) t
quiet_one c l owner t (verdict.Refused refusal) = refl

quiet_in : (c : ℕ) (l : AirlineLedger) (owner : Owner) (ts : List Transaction) (vs : List Verdict) → airline_ledger_answers c l (taken_in c owner ts vs) ≡ []
quiet_in c l owner [] vs = refl
quiet_in c l owner (t ∷ ts) [] = refl
quiet_in c l owner (t ∷ ts) (v ∷ vs) =
    answers_append c l (taken_one c owner t v) (taken_in c owner ts vs)
    ∙ (ap (λ (xs : List Answer). xs ++ airline_ledger_answers c (airline_all c l (taken_one c owner t v)) (taken_in c owner ts vs)) (quiet_one c l owner t v)
    ∙ quiet_in c (airline_all c l (taken_one c owner t v)) owner ts vs)

quiet_file : (c : ℕ) (l : AirlineLedger) (owner : Owner) (file : FileRead) (vs : List Verdict) → airline_ledger_answers c l (taken_file c owner file vs) ≡ []
quiet_file c l owner (Err fault) vs = refl
quiet_file c l owner (Ok ts) vs = quiet_in c l owner ts vs

quiet_known : (c : ℕ) (l : AirlineLedger) (r : Option ℕ) → airline_ledger_answers c l (known_of l r) ≡ []
quiet_known c l None = refl
quiet_known c l (Some b) = by (is_known b l) where
  by : (known : Bool) → airline_ledger_answers c l (cond known [] (Known b ∷ [])) ≡ []
  by true = refl
  by false = refl

quiet_office : (c : ℕ) (l : AirlineLedger) (call : OfficeRequest) → airline_ledger_answers c l (office_shows c l call) ≡ []
quiet_office c l (PublishPlan (Ok text)) = refl
quiet_office c l (PublishPlan (Err fault)) = refl
quiet_office c l (SetBusinessDay (Some day)) = refl
quiet_office c l (SetBusinessDay None) = refl
quiet_office c l (RegisterAgent (Some body)) = quiet_known c l body.agent.code
quiet_office c l (RegisterAgent None) = refl
quiet_office c l (RegisterAirline (Some body)) = quiet_if c l (Renewed body.token) refl (body.airline == c)
quiet_office c l (RegisterAirline None) = refl
quiet_office c l (AllotRange body) = refl
quiet_office c l (WithdrawRange body) = refl
quiet_office c l (OfficeFile file) = refl
quiet_office c l (ClosePeriod (Some period)) = refl
quiet_office c l (ClosePeriod None) = refl
quiet_office c l (AskSettlement period) = refl

quiet_office_file : (c : ℕ) (l : AirlineLedger) (call : OfficeRequest) (vs : List Verdict) → airline_ledger_answers c l (office_files c call vs) ≡ []
quiet_office_file c l (PublishPlan text) vs = refl
quiet_office_file c l (SetBusinessDay day) vs = refl
quiet_office_file c l (RegisterAgent body) vs = refl
quiet_office_file c l (RegisterAirline body) vs = refl
quiet_office_file c l (AllotRange body) vs = refl
quiet_office_file c l (WithdrawRange body) vs = refl
quiet_office_file c l (OfficeFile file) vs = quiet_file c l bearer file vs
quiet_office_file c l (ClosePeriod period) vs = refl
quiet_office_file c l (AskSettlement period) vs = refl

quiet_by_office : (c : ℕ) (l : AirlineLedger) (call : OfficeRequest) (vs : List Verdict) (b : Bool) → airline_ledger_answers c l (cond b (office_shows c l call) (office_files c call vs)) ≡ []
quiet_by_office c l call vs true = quiet_office c l call
quiet_by_office c l call vs false = quiet_office_file c l call vs

quiet_agent : (c : ℕ) (l : AirlineLedger) (call : AgentRequest) → airline_ledger_answers c l (agent_shows c call) ≡ []
quiet_agent c l (AgentFile file) = refl
quiet_agent c l (AskDocument number) = refl
quiet_agent c l (AskPeriod period) = refl
quiet_agent c l AskStock = refl
quiet_agent c l AskMemos = refl
quiet_agent c l (DisputeMemo None) = refl
quiet_agent c l (DisputeMemo (Some body)) = quiet_if c l (ActedOn Dispute (memo_named body)) refl (body.airline == c)
quiet_agent c l (AgreeMemo None) = refl
quiet_agent c l (AgreeMemo (Some body)) = quiet_if c l (ActedOn Agree (memo_named body)) refl (body.airline == c)
quiet_agent c l (AskStatement period) = refl

quiet_agent_file : (c : ℕ) (l : AirlineLedger) (r : Option ℕ) (call : AgentRequest) (vs : List Verdict) → airline_ledger_answers c l (agent_files c r call vs) ≡ []
quiet_agent_file c l r (AgentFile file) vs = quiet_file c l (reporter r) file vs
quiet_agent_file c l r (AskDocument number) vs = refl
quiet_agent_file c l r (AskPeriod period) vs = refl
quiet_agent_file c l r AskStock vs = refl
quiet_agent_file c l r AskMemos vs = refl
quiet_agent_file c l r (DisputeMemo body) vs = refl
quiet_agent_file c l r (AgreeMemo body) vs = refl
quiet_agent_file c l r (AskStatement period) vs = refl

quiet_by_agent : (c : ℕ) (l : AirlineLedger) (r : Option ℕ) (call : AgentRequest) (vs : List Verdict) (b : Bool) → airline_ledger_answers c l (cond b (agent_shows c call) (agent_files c r call vs)) ≡ []
quiet_by_agent c l r call vs true = quiet_agent c l call
quiet_by_agent c l r call vs false = quiet_agent_file c l r call vs

-- ---- one request

own_told : (office : List ℕ) (c : ℕ) (rows : Rows) (token : Option (List ℕ)) (code : List ℕ) (call : AirlineRequest) (answer : Answer) → answer ≡ answer_of office rows (record { token = token; asked = ByAirline code call }) → (b : Bool) → is_own_airline c (airline_ledger_of c rows) token code ≡ b → cond b (answer ∷ []) [] ≡ airline_ledger_answers c (airline_ledger_of c rows) (cond b (OwnAsked call ∷ []) [])
own_told office c rows token code call answer is true h = ap (λ (x : Answer). x ∷ []) (is ∙ own_read c token rows call (airline_in code) h)
own_told office c rows token code call answer is false h = refl

told_asked : (office : List ℕ) (c : ℕ) (rows : Rows) (token : Option (List ℕ)) (asked : Asked) (answer : Answer) → answer ≡ answer_of office rows (record { token = token; asked = asked }) → airline_told_one c (airline_ledger_of c rows) token asked answer ≡ airline_ledger_answers c (airline_ledger_of c rows) (airline_sights c (airline_ledger_of c rows) token asked answer)
told_asked office c rows token NoRoute answer is = refl
told_asked office c rows token OtherMethod answer is = refl
told_asked office c rows token (ByOffice call) answer is = sym (quiet_by_office c (airline_ledger_of c rows) call (verdicts_in answer) (is_done answer))
told_asked office c rows token (ByAgent code call) answer is = sym (quiet_by_agent c (airline_ledger_of c rows) (agent_of code) call (verdicts_in answer) (is_done answer))
told_asked office c rows token (ByAirline code call) answer is = own_told office c rows token code call answer is (is_own_airline c (airline_ledger_of c rows) token code) refl

-- what one exchange is to the airline, and that the rows stay sound
record IsOne (c : ℕ) (rows : Rows) (p : Exchange) : Type 0 where
  told : airline_told_reply c (airline_ledger_of c rows) p ≡ airline_ledger_answers c (airline_ledger_of c rows) (airline_reply_sights c (airline_ledger_of c rows) p)
  moved : airline_ledger_of c (rows_replied rows p) ≡ airline_all c (airline_ledger_of c rows) (airline_reply_sights c (airline_ledger_of c rows) p)
  sound : Sound (rows_replied rows p)

replied : (office : List ℕ) (c : ℕ) (rows : Rows) (request : Request) (reply : Option Answer) → IsAnswered office rows request reply → Sound rows → Fits request.asked → IsOne c rows (record { request = request; reply = reply })
replied office c rows request None h s fits = record { told = refl; moved = refl; sound = s }
replied office c rows request (Some answer) h s fits = record {
  told = told_asked office c rows request.token request.asked answer h;
  moved = subst (λ (x : Answer). airline_ledger_of c (rows_after rows request x) ≡ airline_all c (airline_ledger_of c rows) (airline_sights c (airline_ledger_of c rows) request.token request.asked x)) (sym h) (airline_seen office c rows request s fits);
  sound = subst (λ (x : Answer). Sound (rows_after rows request x)) (sym h) (sound_kept office rows request s fits);
}

-- ---- the whole run

pub airline_isolated : AirlineIsIsolated
airline_isolated office c rows [] new run fits s = (refl, ap (airline_ledger_of c) run)
airline_isolated office c rows (p ∷ ps) new run fits s =
    let here = replied office c rows p.request p.reply run.0 s fits.0 in
    let l : AirlineLedger = airline_ledger_of c rows in
    let ss : List AirlineSight = airline_reply_sights c l p in
    let next : Rows = rows_replied rows p in
    let rest = airline_isolated office c next ps new run.1 fits.1 here.sound in
    let told_rest : airline_told c (airline_all c l ss) ps ≡ airline_ledger_answers c (airline_all c l ss) (airline_view c (airline_all c l ss) ps) = subst (λ (m : AirlineLedger). airline_told c m ps ≡ airline_ledger_answers c m (airline_view c m ps)) here.moved rest.0 in
    let end : airline_ledger_of c new ≡ airline_all c (airline_all c l ss) (airline_view c (airline_all c l ss) ps) = subst (λ (m : AirlineLedger). airline_ledger_of c new ≡ airline_all c m (airline_view c m ps)) here.moved rest.1 in (
      ap (λ (xs : List Answer). xs ++ airline_told c (airline_all c l ss) ps) here.told
          ∙ (ap (λ (xs : List Answer). airline_ledger_answers c l ss ++ xs) told_rest
          ∙ sym (answers_append c l ss (airline_view c (airline_all c l ss) ps))),
      end ∙ sym (airline_append c l ss (airline_view c (airline_all c l ss) ps)),
    )

pub airlines_alike : AirlinesAreAlike
airlines_alike office other c rows rows' ps qs new new' run run' fits fits' s s' part seen' =
    (airline_isolated office c rows ps new run fits s).0
    ∙ (ap (airline_ledger_answers c (airline_ledger_of c rows)) seen'
    ∙ (ap (λ (l : AirlineLedger). airline_ledger_answers c l (airline_view c (airline_ledger_of c rows') qs)) part
    ∙ sym ((airline_isolated other c rows' qs new' run' fits' s').0)))
