-- One airline's ledger after any request is the fold of what it sees of it.
use Rattle.std.proofs.Common.{◌≡◌, ℕ, ◌==◌, ◌&&◌, Bool, true, false, cond, List, [], ◌∷◌, Option, Some, None, Ok, Err, refl, sym, ap, subst, ◌∙◌}
use Rattle.std.proofs.lemmas.Bool.{eqb-true}
use Rattle.bsp_rows.specs.Steps.{Action}
use Rattle.bsp_rows.specs.Steps.Action.{Dispute, Agree, Uphold, Reduce, Withdraw}
use Rattle.bsp_messages.specs.Values.{airline_in}
use Rattle.bsp_messages.specs.declared.airline_bodies.MemoIssue.{MemoIssue}
use Rattle.bsp_messages.specs.declared.refusal.RequestRefusal.TheVariants.{Forbidden}
use Rattle.bsp_rows.specs.Range.{Range}
use Rattle.bsp_rows.specs.Rows.{Rows, agent_token, airline_token}
use Rattle.bsp_rows.specs.Sound.{Sound}
use Rattle.bsp_rows.specs.declared.keys.MemoKey.{MemoKey}
use Rattle.bsp_rows.specs.Writes.{with_agent_token}
use Rattle.bsp_office_spec.specs.AirlineLedger.{airline_answer, airline_ledger_of, is_known, issue_key}
use Rattle.bsp_office_spec.specs.AirlineView.{AirlineSight, agent_files, agent_shows, airline_after, airline_all, airline_done_by, airline_issued, airline_sights, if_same, known_of, office_files, office_shows, taken_file}
use Rattle.bsp_office_spec.specs.AirlineView.AirlineSight.{ActedOn, Known, OwnAsked}
use Rattle.bsp_office_spec.specs.Answers.{is_done, verdicts_in}
use Rattle.bsp_office_spec.specs.Answers.Answer.{Refused}
use Rattle.bsp_office_spec.specs.Laws.{AirlineLedgerIsOfSights}
use Rattle.bsp_office_spec.specs.Ledger.{agent_of, ledger_answer, ledger_of, memo_named}
use Rattle.bsp_office_spec.specs.Requests.{AgentRequest, AirlineRequest, Asked, FileRead, OfficeRequest}
use Rattle.bsp_office_spec.specs.Requests.AgentRequest.{AgentFile, AskDocument, AskPeriod, AskStock, AskMemos, DisputeMemo, AgreeMemo, AskStatement}
use Rattle.bsp_office_spec.specs.Requests.AirlineRequest.{AskIssuedMemos, IssueMemo, UpholdMemo, WithdrawMemo, ReduceMemo, AskHot}
use Rattle.bsp_office_spec.specs.Requests.Asked.{NoRoute, OtherMethod, ByOffice, ByAgent, ByAirline}
use Rattle.bsp_office_spec.specs.Requests.OfficeRequest.{PublishPlan, SetBusinessDay, RegisterAgent, RegisterAirline, AllotRange, WithdrawRange, OfficeFile, ClosePeriod, AskSettlement}
use Rattle.bsp_office_spec.specs.Step.{Fits, Owner, agent_done, airline_done, allotted, asked_after, asked_answer, bearer, by_airline, filed_by_agent, filed_by_office, is_token, issued_to, office_answer, office_done, registered_as, reporter, to_agent, to_airline, with_action, withdrawn}
use Rattle.bsp_office_spec.specs.View.{is_agent}
use Rattle.bsp_office_spec.proofs.AirlineLemmas.{action_seen, action_unseen, agent_filed, close_seen, issue_seen, issue_unseen, known_again, known_seen, office_filed, renewed_by}
use Rattle.bsp_office_spec.proofs.Seen.{unfiled}
use Rattle.bsp_office_spec.proofs.StepLemmas.{reads_back}

-- whether it is done or not
either : (c : ℕ) (rows done : Rows) (ss : List AirlineSight) (b : Bool) → airline_ledger_of c done ≡ airline_all c (airline_ledger_of c rows) ss → airline_ledger_of c (cond b done rows) ≡ airline_all c (airline_ledger_of c rows) (cond b ss [])
either c rows done ss true h = h
either c rows done ss false h = refl

-- ---- the office

known_by : (c b : ℕ) (token : List ℕ) (rows : Rows) (before : Bool) → is_known b (airline_ledger_of c rows) ≡ before → airline_ledger_of c (with_agent_token b token rows) ≡ airline_all c (airline_ledger_of c rows) (cond before [] (Known b ∷ []))
known_by c b token rows true h = known_seen c b token rows ∙ known_again c b rows h
known_by c b token rows false h = known_seen c b token rows

known : (c : ℕ) (token : List ℕ) (rows : Rows) (r : Option ℕ) → airline_ledger_of c (registered_as r token rows) ≡ airline_all c (airline_ledger_of c rows) (known_of (airline_ledger_of c rows) r)
known c token rows None = refl
known c token rows (Some b) = known_by c b token rows (is_known b (airline_ledger_of c rows)) refl

allotted_unseen : (c : ℕ) (range : Range) (rows : Rows) (r : Option ℕ) → airline_ledger_of c (allotted r range rows) ≡ airline_ledger_of c rows
allotted_unseen c range rows None = refl
allotted_unseen c range rows (Some b) = refl

withdrawn_unseen : (c : ℕ) (range : Range) (rows : Rows) (r : Option ℕ) → airline_ledger_of c (withdrawn r range rows) ≡ airline_ledger_of c rows
withdrawn_unseen c range rows None = refl
withdrawn_unseen c range rows (Some b) = refl

office_seen : (c : ℕ) (rows : Rows) (call : OfficeRequest) → Sound rows → Fits (ByOffice call) → let answer = office_answer call rows in airline_ledger_of c (cond (is_done answer) (office_done call rows) (filed_by_office call (verdicts_in answer) rows)) ≡ airline_all c (airline_ledger_of c rows) (cond (is_done answer) (office_shows c (airline_ledger_of c rows) call) (office_files c call (verdicts_in answer)))
office_seen c rows (PublishPlan (Ok text)) s fits = either c rows (office_done (PublishPlan (Ok text)) rows) (office_shows c (airline_ledger_of c rows) (PublishPlan (Ok text))) (is_done (office_answer (PublishPlan (Ok text)) rows)) refl
office_seen c rows (PublishPlan (Err fault)) s fits = refl
office_seen c rows (SetBusinessDay None) s fits = refl
office_seen c rows (SetBusinessDay (Some day)) s fits = either c rows (office_done (SetBusinessDay (Some day)) rows) (office_shows c (airline_ledger_of c rows) (SetBusinessDay (Some day))) (is_done (office_answer (SetBusinessDay (Some day)) rows)) refl
office_seen c rows (RegisterAgent None) s fits = refl
office_seen c rows (RegisterAgent (Some body)) s fits = either c rows (office_done (RegisterAgent (Some body)) rows) (office_shows c (airline_ledger_of c rows) (RegisterAgent (Some body))) (is_done (office_answer (RegisterAgent (Some body)) rows)) (known c body.token rows body.agent.code)
office_seen c rows (RegisterAirline None) s fits = refl
office_seen c rows (RegisterAirline (Some body)) s fits = either c rows (office_done (RegisterAirline (Some body)) rows) (office_shows c (airline_ledger_of c rows) (RegisterAirline (Some body))) (is_done (office_answer (RegisterAirline (Some body)) rows)) (renewed_by c body.airline body.token rows (body.airline == c) refl)
office_seen c rows (AllotRange None) s fits = refl
office_seen c rows (AllotRange (Some body)) s fits = either c rows (office_done (AllotRange (Some body)) rows) [] (is_done (office_answer (AllotRange (Some body)) rows)) (allotted_unseen c body.range rows body.agent.code)
office_seen c rows (WithdrawRange None) s fits = refl
office_seen c rows (WithdrawRange (Some body)) s fits = either c rows (office_done (WithdrawRange (Some body)) rows) [] (is_done (office_answer (WithdrawRange (Some body)) rows)) (withdrawn_unseen c body.range rows body.agent.code)
office_seen c rows (OfficeFile (Err fault)) s fits = refl
office_seen c rows (OfficeFile (Ok ts)) s fits = office_filed c ts rows s fits
office_seen c rows (ClosePeriod None) s fits = refl
office_seen c rows (ClosePeriod (Some period)) s fits = either c rows (office_done (ClosePeriod (Some period)) rows) (office_shows c (airline_ledger_of c rows) (ClosePeriod (Some period))) (is_done (office_answer (ClosePeriod (Some period)) rows)) (close_seen c period rows)
office_seen c rows (AskSettlement period) s fits = either c rows rows [] (is_done (office_answer (AskSettlement period) rows)) refl

untaken : (c : ℕ) (owner : Owner) (file : FileRead) → taken_file c owner file [] ≡ []
untaken c owner (Err fault) = refl
untaken c owner (Ok []) = refl
untaken c owner (Ok (t ∷ ts)) = refl

unfiled_seen : (c : ℕ) (owner : Owner) (file : FileRead) (rows new : Rows) → new ≡ rows → airline_ledger_of c new ≡ airline_all c (airline_ledger_of c rows) (taken_file c owner file [])
unfiled_seen c owner file rows new same = ap (airline_ledger_of c) same ∙ sym (ap (airline_all c (airline_ledger_of c rows)) (untaken c owner file))

office_forbidden : (c : ℕ) (rows : Rows) (call : OfficeRequest) → airline_ledger_of c (filed_by_office call [] rows) ≡ airline_all c (airline_ledger_of c rows) (office_files c call [])
office_forbidden c rows (PublishPlan text) = refl
office_forbidden c rows (SetBusinessDay day) = refl
office_forbidden c rows (RegisterAgent body) = refl
office_forbidden c rows (RegisterAirline body) = refl
office_forbidden c rows (AllotRange body) = refl
office_forbidden c rows (WithdrawRange body) = refl
office_forbidden c rows (OfficeFile file) = unfiled_seen c bearer file rows _ (unfiled bearer file rows)
office_forbidden c rows (ClosePeriod period) = refl
office_forbidden c rows (AskSettlement period) = refl

by_office : (c : ℕ) (rows : Rows) (call : OfficeRequest) (b : Bool) → Sound rows → Fits (ByOffice call) → let answer = cond b (office_answer call rows) (Refused Forbidden) in airline_ledger_of c (cond (is_done answer) (office_done call rows) (filed_by_office call (verdicts_in answer) rows)) ≡ airline_all c (airline_ledger_of c rows) (cond (is_done answer) (office_shows c (airline_ledger_of c rows) call) (office_files c call (verdicts_in answer)))
by_office c rows call true s fits = office_seen c rows call s fits
by_office c rows call false s fits = office_forbidden c rows call

-- ---- an agent

acted_by : (c : ℕ) (action : Action) (key : MemoKey) (rows : Rows) (b : Bool) → (key.airline == c) ≡ b → airline_ledger_of c (with_action action key rows) ≡ airline_all c (airline_ledger_of c rows) (cond b (ActedOn action key ∷ []) [])
acted_by c action key rows true h = action_seen c action key rows
acted_by c action key rows false h = action_unseen c action key rows h

agent_seen : (c b : ℕ) (rows : Rows) (code : List ℕ) (call : AgentRequest) → agent_of (Rattle.bsp_rows.specs.Decimal.fixed_digits 8 b) ≡ Some b → Sound rows → Fits (ByAgent code call) → let answer = ledger_answer b (ledger_of b rows) call in airline_ledger_of c (cond (is_done answer) (agent_done call rows) (filed_by_agent (Some b) call (verdicts_in answer) rows)) ≡ airline_all c (airline_ledger_of c rows) (cond (is_done answer) (agent_shows c call) (agent_files c (Some b) call (verdicts_in answer)))
agent_seen c b rows code (AgentFile (Err fault)) reads s fits = refl
agent_seen c b rows code (AgentFile (Ok ts)) reads s fits = agent_filed c b ts rows reads s fits
agent_seen c b rows code (AskDocument number) reads s fits = either c rows rows [] (is_done (ledger_answer b (ledger_of b rows) (AskDocument number))) refl
agent_seen c b rows code (AskPeriod period) reads s fits = either c rows rows [] (is_done (ledger_answer b (ledger_of b rows) (AskPeriod period))) refl
agent_seen c b rows code AskStock reads s fits = refl
agent_seen c b rows code AskMemos reads s fits = refl
agent_seen c b rows code (DisputeMemo None) reads s fits = refl
agent_seen c b rows code (DisputeMemo (Some body)) reads s fits = either c rows (with_action Dispute (memo_named body) rows) (if_same c body.airline (ActedOn Dispute (memo_named body))) (is_done (ledger_answer b (ledger_of b rows) (DisputeMemo (Some body)))) (acted_by c Dispute (memo_named body) rows (body.airline == c) refl)
agent_seen c b rows code (AgreeMemo None) reads s fits = refl
agent_seen c b rows code (AgreeMemo (Some body)) reads s fits = either c rows (with_action Agree (memo_named body) rows) (if_same c body.airline (ActedOn Agree (memo_named body))) (is_done (ledger_answer b (ledger_of b rows) (AgreeMemo (Some body)))) (acted_by c Agree (memo_named body) rows (body.airline == c) refl)
agent_seen c b rows code (AskStatement period) reads s fits = either c rows rows [] (is_done (ledger_answer b (ledger_of b rows) (AskStatement period))) refl

agent_refused : (c : ℕ) (r : Option ℕ) (rows : Rows) (call : AgentRequest) → airline_ledger_of c (filed_by_agent r call [] rows) ≡ airline_all c (airline_ledger_of c rows) (agent_files c r call [])
agent_refused c r rows (AgentFile file) = unfiled_seen c (reporter r) file rows _ (unfiled (reporter r) file rows)
agent_refused c r rows (AskDocument number) = refl
agent_refused c r rows (AskPeriod period) = refl
agent_refused c r rows AskStock = refl
agent_refused c r rows AskMemos = refl
agent_refused c r rows (DisputeMemo body) = refl
agent_refused c r rows (AgreeMemo body) = refl
agent_refused c r rows (AskStatement period) = refl

agent_given : (c b : ℕ) (rows : Rows) (code : List ℕ) (call : AgentRequest) (given : Bool) → agent_of (Rattle.bsp_rows.specs.Decimal.fixed_digits 8 b) ≡ Some b → Sound rows → Fits (ByAgent code call) → let answer = cond given (ledger_answer b (ledger_of b rows) call) (Refused Forbidden) in airline_ledger_of c (cond (is_done answer) (agent_done call rows) (filed_by_agent (Some b) call (verdicts_in answer) rows)) ≡ airline_all c (airline_ledger_of c rows) (cond (is_done answer) (agent_shows c call) (agent_files c (Some b) call (verdicts_in answer)))
agent_given c b rows code call true reads s fits = agent_seen c b rows code call reads s fits
agent_given c b rows code call false reads s fits = agent_refused c (Some b) rows call

by_agent : (c : ℕ) (token : Option (List ℕ)) (rows : Rows) (code : List ℕ) (call : AgentRequest) (r : Option ℕ) → agent_of code ≡ r → Sound rows → Fits (ByAgent code call) → let answer = to_agent r token call rows in airline_ledger_of c (cond (is_done answer) (agent_done call rows) (filed_by_agent r call (verdicts_in answer) rows)) ≡ airline_all c (airline_ledger_of c rows) (cond (is_done answer) (agent_shows c call) (agent_files c r call (verdicts_in answer)))
by_agent c token rows code call None is s fits = agent_refused c None rows call
by_agent c token rows code call (Some b) is s fits = agent_given c b rows code call (is_token (agent_token b rows) token) (reads_back code b is) s fits

-- ---- an airline

issued_own : (c : ℕ) (issue : MemoIssue) (rows : Rows) (r : Option ℕ) → airline_ledger_of c (issued_to c issue r rows) ≡ airline_issued c issue r (airline_ledger_of c rows)
issued_own c issue rows None = refl
issued_own c issue rows (Some b) = issue_seen c b issue rows

own_done : (c : ℕ) (rows : Rows) (call : AirlineRequest) → airline_ledger_of c (airline_done c call rows) ≡ airline_done_by c call (airline_ledger_of c rows)
own_done c rows AskIssuedMemos = refl
own_done c rows (IssueMemo None) = refl
own_done c rows (IssueMemo (Some issue)) = issued_own c issue rows issue.agent.code
own_done c rows (UpholdMemo None) = refl
own_done c rows (UpholdMemo (Some document)) = action_seen c Uphold (issue_key c document) rows
own_done c rows (WithdrawMemo None) = refl
own_done c rows (WithdrawMemo (Some document)) = action_seen c Withdraw (issue_key c document) rows
own_done c rows (ReduceMemo None) = refl
own_done c rows (ReduceMemo (Some body)) = action_seen c (Reduce body.amount) (issue_key c body.document) rows
own_done c rows (AskHot period) = refl

own_seen : (c : ℕ) (rows : Rows) (call : AirlineRequest) (b : Bool) → airline_ledger_of c (cond b (airline_done c call rows) rows) ≡ cond b (airline_done_by c call (airline_ledger_of c rows)) (airline_ledger_of c rows)
own_seen c rows call true = own_done c rows call
own_seen c rows call false = refl

issued_beside : (c d : ℕ) (issue : MemoIssue) (rows : Rows) (r : Option ℕ) → (d == c) ≡ false → airline_ledger_of c (issued_to d issue r rows) ≡ airline_ledger_of c rows
issued_beside c d issue rows None h = refl
issued_beside c d issue rows (Some b) h = issue_unseen c d b issue rows h

other_done : (c d : ℕ) (rows : Rows) (call : AirlineRequest) → (d == c) ≡ false → airline_ledger_of c (airline_done d call rows) ≡ airline_ledger_of c rows
other_done c d rows AskIssuedMemos h = refl
other_done c d rows (IssueMemo None) h = refl
other_done c d rows (IssueMemo (Some issue)) h = issued_beside c d issue rows issue.agent.code h
other_done c d rows (UpholdMemo None) h = refl
other_done c d rows (UpholdMemo (Some document)) h = action_unseen c Uphold (issue_key d document) rows h
other_done c d rows (WithdrawMemo None) h = refl
other_done c d rows (WithdrawMemo (Some document)) h = action_unseen c Withdraw (issue_key d document) rows h
other_done c d rows (ReduceMemo None) h = refl
other_done c d rows (ReduceMemo (Some body)) h = action_unseen c (Reduce body.amount) (issue_key d body.document) rows h
other_done c d rows (AskHot period) h = refl

other_seen : (c d : ℕ) (rows : Rows) (call : AirlineRequest) (b : Bool) → (d == c) ≡ false → airline_ledger_of c (cond b (airline_done d call rows) rows) ≡ airline_ledger_of c rows
other_seen c d rows call true h = other_done c d rows call h
other_seen c d rows call false h = refl

-- what of a request that names airline d is in the view of airline c
named : (c d : ℕ) (token : Option (List ℕ)) (rows : Rows) (call : AirlineRequest) (same given : Bool) → (d == c) ≡ same → is_token (airline_token d rows) token ≡ given → airline_ledger_of c (cond (is_done (cond given (airline_answer d (airline_ledger_of d rows) call) (Refused Forbidden))) (airline_done d call rows) rows) ≡ airline_all c (airline_ledger_of c rows) (cond (same && is_token (airline_token c rows) token) (OwnAsked call ∷ []) [])
named c d token rows call true true h g =
    let is : d ≡ c = eqb-true d c h in
    let mine : is_token (airline_token c rows) token ≡ true = ap (λ (x : ℕ). is_token (airline_token x rows) token) (sym is) ∙ g in
    subst (λ (x : ℕ). airline_ledger_of c (cond (is_done (airline_answer x (airline_ledger_of x rows) call)) (airline_done x call rows) rows) ≡ airline_after c (airline_ledger_of c rows) (OwnAsked call)) (sym is) (own_seen c rows call (is_done (airline_answer c (airline_ledger_of c rows) call)))
    ∙ sym (ap (λ b. airline_all c (airline_ledger_of c rows) (cond b (OwnAsked call ∷ []) [])) mine)
named c d token rows call true false h g =
    let is : d ≡ c = eqb-true d c h in
    let other : is_token (airline_token c rows) token ≡ false = ap (λ (x : ℕ). is_token (airline_token x rows) token) (sym is) ∙ g in
    sym (ap (λ b. airline_all c (airline_ledger_of c rows) (cond b (OwnAsked call ∷ []) [])) other)
named c d token rows call false true h g = other_seen c d rows call (is_done (airline_answer d (airline_ledger_of d rows) call)) h
named c d token rows call false false h g = refl

by_an_airline : (c : ℕ) (token : Option (List ℕ)) (rows : Rows) (call : AirlineRequest) (r : Option ℕ) → airline_ledger_of c (cond (is_done (to_airline r token call rows)) (by_airline r call rows) rows) ≡ airline_all c (airline_ledger_of c rows) (cond (is_agent c r && is_token (airline_token c rows) token) (OwnAsked call ∷ []) [])
by_an_airline c token rows call None = refl
by_an_airline c token rows call (Some d) = named c d token rows call (d == c) (is_token (airline_token d rows) token) refl refl

-- ---- any request

seen_asked : (office : List ℕ) (c : ℕ) (rows : Rows) (token : Option (List ℕ)) (asked : Asked) → Sound rows → Fits asked → let answer = asked_answer office token asked rows in airline_ledger_of c (asked_after asked answer rows) ≡ airline_all c (airline_ledger_of c rows) (airline_sights c (airline_ledger_of c rows) token asked answer)
seen_asked office c rows token NoRoute s fits = refl
seen_asked office c rows token OtherMethod s fits = refl
seen_asked office c rows token (ByOffice call) s fits = by_office c rows call (is_token (Some office) token) s fits
seen_asked office c rows token (ByAgent code call) s fits = by_agent c token rows code call (agent_of code) refl s fits
seen_asked office c rows token (ByAirline code call) s fits = by_an_airline c token rows call (airline_in code)

pub airline_seen : AirlineLedgerIsOfSights
airline_seen office c rows request s fits = seen_asked office c rows request.token request.asked s fits
