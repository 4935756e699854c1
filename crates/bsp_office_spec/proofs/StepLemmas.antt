-- Any request keeps what each change keeps.
use Rattle.std.proofs.Common.{◌≡◌, ℕ, ◌≤◌, ◌==◌, not, [], ◌∷◌, Bool, true, false, cond, List, length, Option, Some, None, Ok, Err, refl, sym, ap, subst, ◌∙◌}
use Rattle.std.specs.Str.{all_ascii_digits}
use Rattle.std.specs.Prelude.{nat_lt, ◌/◌, ◌%◌}
use Rattle.std.proofs.lemmas.Bool.{eqb-true, ltb-false}
use Rattle.bsp_rows.specs.FirstFault.{first_fault_or}
use Rattle.bsp_rows.specs.Decimal.{number_of, fixed_digits}
use Rattle.bsp_rows.specs.Codes.{check_digit_of}
use Rattle.bsp_rows.proofs.DecimalLemmas.{fixed_digits-number_of}
use Rattle.bsp_rows.specs.History.Request.{Publish, SetDay}
use Rattle.bsp_rows.specs.Steps.Action.{Dispute, Agree, Uphold, Reduce, Withdraw}
use Rattle.bsp_rows.specs.Range.{Range}
use Rattle.bsp_rows.specs.Rows.{Rows, agent_token, airline_token}
use Rattle.bsp_rows.proofs.MapLemmas.{same_Some}
use Rattle.std.specs.Result.{result_ok}
use Rattle.bsp_rows.specs.Decimal.{number_of, fixed_digits}
use Rattle.bsp_rows.specs.Codes.{check_digit_of}
use Rattle.bsp_rows.specs.FieldFault.TheVariants.{Width, NotDigit, CheckDigit}
use Rattle.bsp_office_spec.specs.Ledger.{ledger_of, ledger_answer, memo_named}
use Rattle.bsp_office_spec.specs.Step.{is_token, answer_of, asked_answer, office_answer, to_agent, to_airline, rows_after, asked_after, office_done, filed_by_office, filed_by_agent, agent_done, airline_done, by_airline, bearer, Fits, allotment, withdrawal}
use Rattle.bsp_office_spec.proofs.Seen.{unfiled, agent_forbidden}
use Rattle.bsp_office_spec.proofs.ChangeLemmas.{own_file_keeps, office_file_keeps, allotted_keeps, withdrawn_keeps, registered_keeps, action_keeps}
use Rattle.bsp_office_spec.proofs.IssueLemmas.{issued_keeps, closed_keeps}
use Rattle.bsp_messages.specs.Values.{airline_in}
use Rattle.bsp_messages.specs.declared.refusal.RequestRefusal.TheVariants.{Forbidden}
use Rattle.bsp_messages.specs.declared.refusal.RequestRefusal.TheVariants as refusal
use Rattle.bsp_messages.specs.declared.refusal.StockFault.TheVariants.{FirstAfterLast}
use Rattle.bsp_office_spec.specs.Answers.{Answer, is_done, verdicts_in}
use Rattle.bsp_office_spec.specs.Answers.Answer.{Refused}
use Rattle.bsp_office_spec.specs.AirlineLedger.{airline_answer, airline_ledger_of, issue_key}
use Rattle.bsp_office_spec.specs.Ledger.{agent_of}
use Rattle.bsp_office_spec.specs.Requests.{Request, Asked, OfficeRequest, AgentRequest, AirlineRequest}
use Rattle.bsp_office_spec.specs.Requests.Asked.{NoRoute, OtherMethod, ByOffice, ByAgent, ByAirline}
use Rattle.bsp_office_spec.specs.Requests.OfficeRequest.{PublishPlan, SetBusinessDay, RegisterAgent, RegisterAirline, AllotRange, WithdrawRange, OfficeFile, ClosePeriod, AskSettlement}
use Rattle.bsp_office_spec.specs.Requests.AgentRequest.{AgentFile, AskDocument, AskPeriod, AskStock, AskMemos, DisputeMemo, AgreeMemo, AskStatement}
use Rattle.bsp_office_spec.specs.Requests.AirlineRequest.{AskIssuedMemos, IssueMemo, UpholdMemo, WithdrawMemo, ReduceMemo, AskHot}
use Rattle.bsp_office_spec.proofs.Invariant.{IsKept}

-- ---- an agent's code reads back

reads_by : (w d c : Bool) (n b : ℕ) → result_ok (first_fault_or ((not w, Width) ∷ (not d, NotDigit) ∷ (not c, CheckDigit) ∷ []) n) ≡ Some b → (w ≡ true) × (d ≡ true) × (n ≡ b)
reads_by true true true n b h = (refl, refl, same_Some n b h)
reads_by true true false n b h = absurd (cc h)
reads_by true false c n b h = absurd (cc h)
reads_by false d c n b h = absurd (cc h)

-- the eight digits of the code are the text
pub same_digits : (text : List ℕ) (b : ℕ) → agent_of text ≡ Some b → fixed_digits 8 b ≡ text
same_digits text b h =
    let parts = reads_by (length text == 8) (all_ascii_digits text) (number_of text % 10 == check_digit_of (number_of text / 10)) (number_of text) b h in
    ap (fixed_digits 8) (sym parts.2) ∙ fixed_digits-number_of 8 text (eqb-true (length text) 8 parts.0) parts.1

pub reads_back : (text : List ℕ) (b : ℕ) → agent_of text ≡ Some b → agent_of (fixed_digits 8 b) ≡ Some b
reads_back text b h = ap agent_of (same_digits text b h) ∙ h

module _ (P : Rows → Type 0) (kept : IsKept P) where
  -- ---- done or not

  when : (rows done : Rows) (b : Bool) → P rows → (b ≡ true → P done) → P (cond b done rows)
  when rows done true s h = h refl
  when rows done false s h = s

  either : (rows : Rows) (b : Bool) → P rows → P (cond b rows rows)
  either rows true s = s
  either rows false s = s

  in_order : (range : Range) (rest : Answer) (b : Bool) → nat_lt range.last range.first ≡ b → is_done (cond b (Refused (refusal.Stock FirstAfterLast)) rest) ≡ true → (range.first ≤ range.last) × (is_done rest ≡ true)
  in_order range rest true is h = absurd (cc h)
  in_order range rest false is h = (ltb-false range.last range.first is, h)

  -- ---- the office

  office_keeps : (rows : Rows) (call : OfficeRequest) → P rows → Fits (ByOffice call) → let answer = office_answer call rows in P (cond (is_done answer) (office_done call rows) (filed_by_office call (verdicts_in answer) rows))
  office_keeps rows (PublishPlan (Ok text)) s fits = when rows _ (is_done (office_answer (PublishPlan (Ok text)) rows)) s (λ h. kept.planned rows (Publish text) s)
  office_keeps rows (PublishPlan (Err fault)) s fits = s
  office_keeps rows (SetBusinessDay None) s fits = s
  office_keeps rows (SetBusinessDay (Some day)) s fits = when rows _ (is_done (office_answer (SetBusinessDay (Some day)) rows)) s (λ h. kept.planned rows (SetDay day) s)
  office_keeps rows (RegisterAgent None) s fits = s
  office_keeps rows (RegisterAgent (Some body)) s fits = when rows _ (is_done (office_answer (RegisterAgent (Some body)) rows)) s (λ h. registered_keeps P kept body.token rows s body.agent.code)
  office_keeps rows (RegisterAirline None) s fits = s
  office_keeps rows (RegisterAirline (Some body)) s fits = when rows _ (is_done (office_answer (RegisterAirline (Some body)) rows)) s (λ h. kept.airline rows body.airline body.token s)
  office_keeps rows (AllotRange None) s fits = s
  office_keeps rows (AllotRange (Some body)) s fits = when rows _ (is_done (office_answer (AllotRange (Some body)) rows)) s (λ h.
      let both = in_order body.range (allotment body.agent.code body.range rows) (nat_lt body.range.last body.range.first) refl h in
      allotted_keeps P kept body.range rows s both.0 body.agent.code both.1)
  office_keeps rows (WithdrawRange None) s fits = s
  office_keeps rows (WithdrawRange (Some body)) s fits = when rows _ (is_done (office_answer (WithdrawRange (Some body)) rows)) s (λ h.
      let both = in_order body.range (withdrawal body.agent.code body.range rows) (nat_lt body.range.last body.range.first) refl h in
      withdrawn_keeps P kept body.range rows s body.agent.code both.1)
  office_keeps rows (OfficeFile (Err fault)) s fits = s
  office_keeps rows (OfficeFile (Ok ts)) s fits = office_file_keeps P kept ts rows s fits
  office_keeps rows (ClosePeriod None) s fits = s
  office_keeps rows (ClosePeriod (Some period)) s fits = when rows _ (is_done (office_answer (ClosePeriod (Some period)) rows)) s (λ h. closed_keeps P kept rows period s h)
  office_keeps rows (AskSettlement period) s fits = either rows (is_done (office_answer (AskSettlement period) rows)) s

  office_forbidden_keeps : (rows : Rows) (call : OfficeRequest) → P rows → P (filed_by_office call [] rows)
  office_forbidden_keeps rows (PublishPlan text) s = s
  office_forbidden_keeps rows (SetBusinessDay day) s = s
  office_forbidden_keeps rows (RegisterAgent body) s = s
  office_forbidden_keeps rows (RegisterAirline body) s = s
  office_forbidden_keeps rows (AllotRange body) s = s
  office_forbidden_keeps rows (WithdrawRange body) s = s
  office_forbidden_keeps rows (OfficeFile file) s = subst P (sym (unfiled bearer file rows)) s
  office_forbidden_keeps rows (ClosePeriod period) s = s
  office_forbidden_keeps rows (AskSettlement period) s = s

  by_office : (rows : Rows) (call : OfficeRequest) (b : Bool) → P rows → Fits (ByOffice call) → let answer = cond b (office_answer call rows) (Refused Forbidden) in P (cond (is_done answer) (office_done call rows) (filed_by_office call (verdicts_in answer) rows))
  by_office rows call true s fits = office_keeps rows call s fits
  by_office rows call false s fits = office_forbidden_keeps rows call s

  -- ---- an agent

  agent_keeps : (b : ℕ) (rows : Rows) (code : List ℕ) (call : AgentRequest) → agent_of (fixed_digits 8 b) ≡ Some b → P rows → Fits (ByAgent code call) → let answer = ledger_answer b (ledger_of b rows) call in P (cond (is_done answer) (agent_done call rows) (filed_by_agent (Some b) call (verdicts_in answer) rows))
  agent_keeps b rows code (AgentFile (Err fault)) reads s fits = s
  agent_keeps b rows code (AgentFile (Ok ts)) reads s fits = own_file_keeps P kept b ts rows reads s fits
  agent_keeps b rows code (AskDocument number) reads s fits = either rows (is_done (ledger_answer b (ledger_of b rows) (AskDocument number))) s
  agent_keeps b rows code (AskPeriod period) reads s fits = either rows (is_done (ledger_answer b (ledger_of b rows) (AskPeriod period))) s
  agent_keeps b rows code AskStock reads s fits = s
  agent_keeps b rows code AskMemos reads s fits = s
  agent_keeps b rows code (DisputeMemo None) reads s fits = s
  agent_keeps b rows code (DisputeMemo (Some body)) reads s fits = when rows _ (is_done (ledger_answer b (ledger_of b rows) (DisputeMemo (Some body)))) s (λ h. action_keeps P kept Dispute (memo_named body) rows s)
  agent_keeps b rows code (AgreeMemo None) reads s fits = s
  agent_keeps b rows code (AgreeMemo (Some body)) reads s fits = when rows _ (is_done (ledger_answer b (ledger_of b rows) (AgreeMemo (Some body)))) s (λ h. action_keeps P kept Agree (memo_named body) rows s)
  agent_keeps b rows code (AskStatement period) reads s fits = either rows (is_done (ledger_answer b (ledger_of b rows) (AskStatement period))) s

  named_keeps : (b : ℕ) (rows : Rows) (code : List ℕ) (call : AgentRequest) (given : Bool) → agent_of (fixed_digits 8 b) ≡ Some b → P rows → Fits (ByAgent code call) → let answer = cond given (ledger_answer b (ledger_of b rows) call) (Refused Forbidden) in P (cond (is_done answer) (agent_done call rows) (filed_by_agent (Some b) call (verdicts_in answer) rows))
  named_keeps b rows code call true reads s fits = agent_keeps b rows code call reads s fits
  named_keeps b rows code call false reads s fits = subst P (sym (agent_forbidden (Some b) call rows)) s

  by_agent : (rows : Rows) (code : List ℕ) (token : Option (List ℕ)) (call : AgentRequest) (r : Option ℕ) → agent_of code ≡ r → P rows → Fits (ByAgent code call) → let answer = to_agent r token call rows in P (cond (is_done answer) (agent_done call rows) (filed_by_agent r call (verdicts_in answer) rows))
  by_agent rows code token call None is s fits = subst P (sym (agent_forbidden None call rows)) s
  by_agent rows code token call (Some b) is s fits = named_keeps b rows code call (is_token (agent_token b rows) token) (reads_back code b is) s fits

  -- ---- an airline

  airline_keeps : (c : ℕ) (rows : Rows) (call : AirlineRequest) → P rows → P (cond (is_done (airline_answer c (airline_ledger_of c rows) call)) (airline_done c call rows) rows)
  airline_keeps c rows AskIssuedMemos s = s
  airline_keeps c rows (IssueMemo None) s = s
  airline_keeps c rows (IssueMemo (Some issue)) s = when rows _ (is_done (airline_answer c (airline_ledger_of c rows) (IssueMemo (Some issue)))) s (λ h. issued_keeps P kept c issue rows s issue.agent.code h)
  airline_keeps c rows (UpholdMemo None) s = s
  airline_keeps c rows (UpholdMemo (Some document)) s = when rows _ (is_done (airline_answer c (airline_ledger_of c rows) (UpholdMemo (Some document)))) s (λ h. action_keeps P kept Uphold (issue_key c document) rows s)
  airline_keeps c rows (WithdrawMemo None) s = s
  airline_keeps c rows (WithdrawMemo (Some document)) s = when rows _ (is_done (airline_answer c (airline_ledger_of c rows) (WithdrawMemo (Some document)))) s (λ h. action_keeps P kept Withdraw (issue_key c document) rows s)
  airline_keeps c rows (ReduceMemo None) s = s
  airline_keeps c rows (ReduceMemo (Some body)) s = when rows _ (is_done (airline_answer c (airline_ledger_of c rows) (ReduceMemo (Some body)))) s (λ h. action_keeps P kept (Reduce body.amount) (issue_key c body.document) rows s)
  airline_keeps c rows (AskHot period) s = either rows (is_done (airline_answer c (airline_ledger_of c rows) (AskHot period))) s

  airline_by : (c : ℕ) (rows : Rows) (call : AirlineRequest) (given : Bool) → P rows → P (cond (is_done (cond given (airline_answer c (airline_ledger_of c rows) call) (Refused Forbidden))) (airline_done c call rows) rows)
  airline_by c rows call true s = airline_keeps c rows call s
  airline_by c rows call false s = s

  by_an_airline : (rows : Rows) (token : Option (List ℕ)) (call : AirlineRequest) (r : Option ℕ) → P rows → P (cond (is_done (to_airline r token call rows)) (by_airline r call rows) rows)
  by_an_airline rows token call None s = s
  by_an_airline rows token call (Some c) s = airline_by c rows call (is_token (airline_token c rows) token) s

  -- ---- any request

  asked_keeps : (office : List ℕ) (rows : Rows) (token : Option (List ℕ)) (asked : Asked) → P rows → Fits asked → P (asked_after asked (asked_answer office token asked rows) rows)
  asked_keeps office rows token NoRoute s fits = s
  asked_keeps office rows token OtherMethod s fits = s
  asked_keeps office rows token (ByOffice call) s fits = by_office rows call (is_token (Some office) token) s fits
  asked_keeps office rows token (ByAgent code call) s fits = by_agent rows code token call (agent_of code) refl s fits
  asked_keeps office rows token (ByAirline code call) s fits = by_an_airline rows token call (airline_in code) s

  pub step_keeps : (office : List ℕ) (rows : Rows) (request : Request) → P rows → Fits request.asked → P (rows_after rows request (answer_of office rows request))
  step_keeps office rows request s fits = asked_keeps office rows request.token request.asked s fits
