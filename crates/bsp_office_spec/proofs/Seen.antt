-- One agent's ledger after any request is the fold of what it sees of it, and its own request is answered by its ledger.
use Rattle.std.proofs.Common.{◌≡◌, ℕ, ◌==◌, ◌&&◌, not, Bool, true, false, cond, List, [], ◌∷◌, Option, Some, None, is_some, Result, Ok, Err, refl, sym, ap, subst, ◌∙◌}
use Rattle.std.specs.Ordering.{eq_by_cmp}
use Rattle.std.specs.Cmp.{IsTotalOrder}
use Rattle.std.specs.declared.cmp.Ordering.{Ordering}
use Rattle.std.specs.FinMap.{FinMap, IsAntisymmetric, get, insert, get-insert, same_map}
use Rattle.std.proofs.lemmas.Bool.{eqb-true, eq-eqb}
use Rattle.bsp_rows.specs.Published.{Published}
use Rattle.bsp_rows.specs.Change.{Change}
use Rattle.bsp_rows.specs.Range.{Range}
use Rattle.bsp_rows.specs.Lives.{after_action}
use Rattle.bsp_rows.specs.Memos.{is_amount}
use Rattle.bsp_rows.specs.Steps.{Action, answer_to, left_by}
use Rattle.bsp_rows.specs.Steps.Action.{Dispute, Agree, Uphold, Reduce, Withdraw}
use Rattle.bsp_rows.specs.MemoFault.{MemoFault}
use Rattle.bsp_rows.specs.MemoFault.TheVariants.{AmountOutOfRange, AgentNotRegistered}
use Rattle.bsp_rows.specs.MemoFields.{MemoFields}
use Rattle.bsp_rows.specs.declared.keys.MemoKey.{MemoKey}
use Rattle.bsp_rows.specs.Rows.{Rows, memo_cmp, agent_token, airline_token}
use Rattle.bsp_rows.proofs.KeyOrders.{memo_exact}
use Rattle.bsp_rows.proofs.KeyOrders.{memo_total}
use Rattle.bsp_rows.proofs.MapLemmas.{same_key}
use Rattle.bsp_office_spec.specs.Ledger.{Ledger, ledger_of, ledger_answer, ledger_after_request, ledger_acted, memo_answer, memo_named, action_answer, review_of}
use Rattle.bsp_office_spec.specs.Step.{is_token, answer_of, asked_answer, office_answer, to_agent, to_airline, rows_after, asked_after, office_done, filed_by_office, filed_by_agent, agent_done, after_file, airline_done, by_airline, Owner, bearer, reporter, registered_as, allotted, withdrawn, issued_to, with_action}
use Rattle.bsp_office_spec.specs.View.{Sight, ledger_all, sights, answered_sights, office_sights, filed_sights, file_sights, airline_sights, of_airline, action_sights, is_agent, if_own}
use Rattle.bsp_office_spec.specs.View.Sight.{Own, Registered, Allotted, Withdrew, Issued, Acted}
use Rattle.bsp_rows.proofs.PartLemmas.{passing, kept_get, changed_some}
use Rattle.bsp_office_spec.proofs.SeenLemmas.{own_memo, registered_own, registered_other, allotted_own, allotted_other, withdrawn_own, withdrawn_other, closed_seen, acted_seen, acted_beside, issued_own, issued_other, filed_own, filed_other, filed_office, tables}
use Rattle.bsp_messages.specs.Values.{airline_in}
use Rattle.bsp_messages.specs.declared.airline_bodies.MemoIssue.{MemoIssue}
use Rattle.bsp_messages.specs.declared.refusal.RequestRefusal.TheVariants.{Forbidden}
use Rattle.bsp_messages.specs.declared.refusal.RequestRefusal.TheVariants as refusal
use Rattle.bsp_rows.specs.Change.TheVariants.{Done, Held}
use Rattle.bsp_office_spec.specs.Answers.{is_done, verdicts_in}
use Rattle.bsp_office_spec.specs.Answers.Answer.{Changed, Refused}
use Rattle.bsp_office_spec.specs.AirlineLedger.{is_known, AirlineLedger, airline_answer, airline_ledger_of, issue_beside, issue_key, issuing}
use Rattle.bsp_office_spec.specs.Ledger.{agent_of}
use Rattle.bsp_office_spec.specs.Requests.{FileRead, Request, Asked, OfficeRequest, AgentRequest, AirlineRequest}
use Rattle.bsp_office_spec.specs.Requests.Asked.{NoRoute, OtherMethod, ByOffice, ByAgent, ByAirline}
use Rattle.bsp_office_spec.specs.Requests.OfficeRequest.{PublishPlan, SetBusinessDay, RegisterAgent, RegisterAirline, AllotRange, WithdrawRange, OfficeFile, ClosePeriod, AskSettlement}
use Rattle.bsp_office_spec.specs.Requests.AgentRequest.{AgentFile, AskDocument, AskPeriod, AskStock, AskMemos, DisputeMemo, AgreeMemo, AskStatement}
use Rattle.bsp_office_spec.specs.Requests.AirlineRequest.{AskIssuedMemos, IssueMemo, UpholdMemo, WithdrawMemo, ReduceMemo, AskHot}

-- whether it is done or not
either : (a : ℕ) (rows done : Rows) (ss : List Sight) (b : Bool) → ledger_of a done ≡ ledger_all a (ledger_of a rows) ss → ledger_of a (cond b done rows) ≡ ledger_all a (ledger_of a rows) (cond b ss [])
either a rows done ss true h = h
either a rows done ss false h = refl

nothing_changes : (a : ℕ) (rows : Rows) (b : Bool) → ledger_of a (cond b rows rows) ≡ ledger_of a rows
nothing_changes a rows true = refl
nothing_changes a rows false = refl

-- ---- the office

registered_by : (a b : ℕ) (token : List ℕ) (rows : Rows) (c : Bool) → (b == a) ≡ c → ledger_of a (registered_as (Some b) token rows) ≡ ledger_all a (ledger_of a rows) (cond c (Registered token ∷ []) [])
registered_by a b token rows true h = registered_own a b token rows h
registered_by a b token rows false h = registered_other a b token rows h

registered_seen : (a : ℕ) (token : List ℕ) (rows : Rows) (r : Option ℕ) → ledger_of a (registered_as r token rows) ≡ ledger_all a (ledger_of a rows) (if_own a r (Registered token))
registered_seen a token rows None = refl
registered_seen a token rows (Some b) = registered_by a b token rows (b == a) refl

allotted_by : (a b : ℕ) (range : Range) (rows : Rows) (c : Bool) → (b == a) ≡ c → ledger_of a (allotted (Some b) range rows) ≡ ledger_all a (ledger_of a rows) (cond c (Allotted range ∷ []) [])
allotted_by a b range rows true h = allotted_own a b range rows h
allotted_by a b range rows false h = allotted_other a b range rows h

allotted_seen : (a : ℕ) (range : Range) (rows : Rows) (r : Option ℕ) → ledger_of a (allotted r range rows) ≡ ledger_all a (ledger_of a rows) (if_own a r (Allotted range))
allotted_seen a range rows None = refl
allotted_seen a range rows (Some b) = allotted_by a b range rows (b == a) refl

withdrawn_by : (a b : ℕ) (range : Range) (rows : Rows) (c : Bool) → (b == a) ≡ c → ledger_of a (withdrawn (Some b) range rows) ≡ ledger_all a (ledger_of a rows) (cond c (Withdrew range ∷ []) [])
withdrawn_by a b range rows true h = withdrawn_own a b range rows h
withdrawn_by a b range rows false h = withdrawn_other a b range rows h

withdrawn_seen : (a : ℕ) (range : Range) (rows : Rows) (r : Option ℕ) → ledger_of a (withdrawn r range rows) ≡ ledger_all a (ledger_of a rows) (if_own a r (Withdrew range))
withdrawn_seen a range rows None = refl
withdrawn_seen a range rows (Some b) = withdrawn_by a b range rows (b == a) refl

office_seen : (a : ℕ) (rows : Rows) (call : OfficeRequest) → let answer = office_answer call rows in ledger_of a (cond (is_done answer) (office_done call rows) (filed_by_office call (verdicts_in answer) rows)) ≡ ledger_all a (ledger_of a rows) (cond (is_done answer) (office_sights a call) (filed_sights a call (verdicts_in answer)))
office_seen a rows (PublishPlan (Ok text)) = either a rows (office_done (PublishPlan (Ok text)) rows) (office_sights a (PublishPlan (Ok text))) (is_done (office_answer (PublishPlan (Ok text)) rows)) refl
office_seen a rows (PublishPlan (Err fault)) = refl
office_seen a rows (SetBusinessDay None) = refl
office_seen a rows (SetBusinessDay (Some day)) = either a rows (office_done (SetBusinessDay (Some day)) rows) (office_sights a (SetBusinessDay (Some day))) (is_done (office_answer (SetBusinessDay (Some day)) rows)) refl
office_seen a rows (RegisterAgent None) = refl
office_seen a rows (RegisterAgent (Some body)) = either a rows (office_done (RegisterAgent (Some body)) rows) (office_sights a (RegisterAgent (Some body))) (is_done (office_answer (RegisterAgent (Some body)) rows)) (registered_seen a body.token rows body.agent.code)
office_seen a rows (RegisterAirline None) = refl
office_seen a rows (RegisterAirline (Some body)) = either a rows (office_done (RegisterAirline (Some body)) rows) [] (is_done (office_answer (RegisterAirline (Some body)) rows)) refl
office_seen a rows (AllotRange None) = refl
office_seen a rows (AllotRange (Some body)) = either a rows (office_done (AllotRange (Some body)) rows) (office_sights a (AllotRange (Some body))) (is_done (office_answer (AllotRange (Some body)) rows)) (allotted_seen a body.range rows body.agent.code)
office_seen a rows (WithdrawRange None) = refl
office_seen a rows (WithdrawRange (Some body)) = either a rows (office_done (WithdrawRange (Some body)) rows) (office_sights a (WithdrawRange (Some body))) (is_done (office_answer (WithdrawRange (Some body)) rows)) (withdrawn_seen a body.range rows body.agent.code)
office_seen a rows (OfficeFile (Err fault)) = refl
office_seen a rows (OfficeFile (Ok ts)) = filed_office a ts rows
office_seen a rows (ClosePeriod None) = refl
office_seen a rows (ClosePeriod (Some period)) = either a rows (office_done (ClosePeriod (Some period)) rows) (office_sights a (ClosePeriod (Some period))) (is_done (office_answer (ClosePeriod (Some period)) rows)) (closed_seen a period rows)
office_seen a rows (AskSettlement period) = either a rows rows [] (is_done (office_answer (AskSettlement period) rows)) refl

-- a request that is forbidden
pub unfiled : (owner : Owner) (file : FileRead) (rows : Rows) → after_file owner file [] rows ≡ rows
unfiled owner (Err fault) rows = refl
unfiled owner (Ok []) rows = refl
unfiled owner (Ok (t ∷ ts)) rows = refl

unseen : (a : ℕ) (file : FileRead) → file_sights a file [] ≡ []
unseen a (Err fault) = refl
unseen a (Ok []) = refl
unseen a (Ok (t ∷ ts)) = refl

office_forbidden : (a : ℕ) (rows : Rows) (call : OfficeRequest) → ledger_of a (filed_by_office call [] rows) ≡ ledger_all a (ledger_of a rows) (filed_sights a call [])
office_forbidden a rows (PublishPlan text) = refl
office_forbidden a rows (SetBusinessDay day) = refl
office_forbidden a rows (RegisterAgent body) = refl
office_forbidden a rows (RegisterAirline body) = refl
office_forbidden a rows (AllotRange body) = refl
office_forbidden a rows (WithdrawRange body) = refl
office_forbidden a rows (OfficeFile file) = ap (ledger_of a) (unfiled bearer file rows) ∙ sym (ap (ledger_all a (ledger_of a rows)) (unseen a file))
office_forbidden a rows (ClosePeriod period) = refl
office_forbidden a rows (AskSettlement period) = refl

by_office : (a : ℕ) (rows : Rows) (call : OfficeRequest) (b : Bool) → let answer = cond b (office_answer call rows) (Refused Forbidden) in ledger_of a (cond (is_done answer) (office_done call rows) (filed_by_office call (verdicts_in answer) rows)) ≡ ledger_all a (ledger_of a rows) (cond (is_done answer) (office_sights a call) (filed_sights a call (verdicts_in answer)))
by_office a rows call true = office_seen a rows call
by_office a rows call false = office_forbidden a rows call

-- ---- an agent's own request

insert_step : {K X : Type 0} {R : K → K → Ordering} (exact : IsAntisymmetric R) (m : FinMap R X) (k : K) (v : X) → get m k ≡ Some v → (q : K) (b : Bool) → eq_by_cmp R q k ≡ b → cond b (Some v) (get m q) ≡ get m q
insert_step exact m k v h q true is = sym (ap (get m) (same_key exact q k is) ∙ h)
insert_step exact m k v h q false is = refl

pub insert_same : {K X : Type 0} {R : K → K → Ordering} (o : IsTotalOrder R) (exact : IsAntisymmetric R) (m : FinMap R X) (k : K) (v : X) → get m k ≡ Some v → insert m k v ≡ m
insert_same {R = R} o exact m k v h = same_map o exact _ _ (λ q. get-insert o m k v q ∙ insert_step exact m k v h q (eq_by_cmp R q k) refl)

left_alone_by : (action : Action) (memo : MemoFields) (r : Result Change MemoFault) → is_done (action_answer r) ≡ false → left_by r action memo ≡ memo
left_alone_by action memo (Ok Done) h = absurd (cc h)
left_alone_by action memo (Ok Held) h = refl
left_alone_by action memo (Err fault) h = refl

with_memos : Ledger → FinMap memo_cmp MemoFields → Ledger
with_memos l memos = tables l.own.token l.own.ranges l.own.items memos l.published

left_alone_found : (action : Action) (key : MemoKey) (l : Ledger) (found : Option MemoFields) → get l.own.memos key ≡ found → is_done (memo_answer action l.published found) ≡ false → ledger_acted action key l ≡ l
unfolding with_memos
left_alone_found action key l None there h = acted_beside action key l there
left_alone_found action key l (Some memo) there h =
    ap (with_memos l)
    (changed_some memo_total memo_exact (after_action (review_of l.published.terms) action l.published.day) key l.own.memos memo there
    ∙ (ap (λ (m : MemoFields). insert l.own.memos key m) (left_alone_by action memo (answer_to memo action l.published.day (review_of l.published.terms)) h)
    ∙ insert_same memo_total memo_exact l.own.memos key memo there))

-- an action that is held or refused leaves the ledger as it is
pub left_alone : (action : Action) (key : MemoKey) (l : Ledger) → is_done (memo_answer action l.published (get l.own.memos key)) ≡ false → ledger_acted action key l ≡ l
left_alone action key l h = left_alone_found action key l (get l.own.memos key) refl h

acts_by : (a : ℕ) (action : Action) (key : MemoKey) (rows : Rows) (b : Bool) → is_done (memo_answer action rows.published (get (ledger_of a rows).own.memos key)) ≡ b → ledger_of a (cond b (with_action action key rows) rows) ≡ ledger_acted action key (ledger_of a rows)
acts_by a action key rows true h = acted_seen a action key rows
acts_by a action key rows false h = sym (left_alone action key (ledger_of a rows) h)

own_seen : (a : ℕ) (rows : Rows) (call : AgentRequest) → let answer = ledger_answer a (ledger_of a rows) call in ledger_of a (cond (is_done answer) (agent_done call rows) (filed_by_agent (Some a) call (verdicts_in answer) rows)) ≡ ledger_after_request a call (ledger_of a rows)
own_seen a rows (AgentFile (Err fault)) = refl
own_seen a rows (AgentFile (Ok ts)) = filed_own a ts rows
own_seen a rows (AskDocument number) = nothing_changes a rows (is_done (ledger_answer a (ledger_of a rows) (AskDocument number)))
own_seen a rows (AskPeriod period) = nothing_changes a rows (is_done (ledger_answer a (ledger_of a rows) (AskPeriod period)))
own_seen a rows AskStock = refl
own_seen a rows AskMemos = refl
own_seen a rows (DisputeMemo None) = refl
own_seen a rows (DisputeMemo (Some body)) = acts_by a Dispute (memo_named body) rows (is_done (memo_answer Dispute rows.published (get (ledger_of a rows).own.memos (memo_named body)))) refl
own_seen a rows (AgreeMemo None) = refl
own_seen a rows (AgreeMemo (Some body)) = acts_by a Agree (memo_named body) rows (is_done (memo_answer Agree rows.published (get (ledger_of a rows).own.memos (memo_named body)))) refl
own_seen a rows (AskStatement period) = nothing_changes a rows (is_done (ledger_answer a (ledger_of a rows) (AskStatement period)))

-- ---- another agent's request

hidden : (a : ℕ) (key : MemoKey) (memo : MemoFields) → (memo.agent == a) ≡ false → passing (own_memo a) key (Some memo) ≡ None
hidden a key memo h = ap (λ c. cond c (Some memo) None) h

not_mine_by : (a b : ℕ) (action : Action) (p : Published) (key : MemoKey) (memo : MemoFields) → (b == a) ≡ false → (c : Bool) → (memo.agent == b) ≡ c → is_done (memo_answer action p (cond c (Some memo) None)) ≡ true → passing (own_memo a) key (Some memo) ≡ None
not_mine_by a b action p key memo other true h done = hidden a key memo (ap (λ (n : ℕ). n == a) (eqb-true memo.agent b h) ∙ other)
not_mine_by a b action p key memo other false h done = absurd (cc done)

not_mine : (a b : ℕ) (action : Action) (p : Published) (key : MemoKey) → (b == a) ≡ false → (found : Option MemoFields) → is_done (memo_answer action p (passing (own_memo b) key found)) ≡ true → passing (own_memo a) key found ≡ None
not_mine a b action p key other None done = refl
not_mine a b action p key other (Some memo) done = not_mine_by a b action p key memo other (memo.agent == b) refl done

other_acts_by : (a b : ℕ) (action : Action) (key : MemoKey) (rows : Rows) → (b == a) ≡ false → (c : Bool) → is_done (memo_answer action rows.published (get (ledger_of b rows).own.memos key)) ≡ c → ledger_of a (cond c (with_action action key rows) rows) ≡ ledger_of a rows
other_acts_by a b action key rows other true h =
    let there = kept_get memo_total memo_exact (own_memo b) rows.memos key in
    let done : is_done (memo_answer action rows.published (passing (own_memo b) key (get rows.memos key))) ≡ true = ap (λ found. is_done (memo_answer action rows.published found)) (sym there) ∙ h in
    acted_seen a action key rows ∙ acted_beside action key (ledger_of a rows) (kept_get memo_total memo_exact (own_memo a) rows.memos key ∙ not_mine a b action rows.published key other (get rows.memos key) done)
other_acts_by a b action key rows other false h = refl

other_seen : (a b : ℕ) (rows : Rows) → (b == a) ≡ false → (call : AgentRequest) → let answer = ledger_answer b (ledger_of b rows) call in ledger_of a (cond (is_done answer) (agent_done call rows) (filed_by_agent (Some b) call (verdicts_in answer) rows)) ≡ ledger_of a rows
other_seen a b rows h (AgentFile (Err fault)) = refl
other_seen a b rows h (AgentFile (Ok ts)) = filed_other a b ts (verdicts_in (ledger_answer b (ledger_of b rows) (AgentFile (Ok ts)))) rows h
other_seen a b rows h (AskDocument number) = nothing_changes a rows (is_done (ledger_answer b (ledger_of b rows) (AskDocument number)))
other_seen a b rows h (AskPeriod period) = nothing_changes a rows (is_done (ledger_answer b (ledger_of b rows) (AskPeriod period)))
other_seen a b rows h AskStock = refl
other_seen a b rows h AskMemos = refl
other_seen a b rows h (DisputeMemo None) = refl
other_seen a b rows h (DisputeMemo (Some body)) = other_acts_by a b Dispute (memo_named body) rows h (is_done (memo_answer Dispute rows.published (get (ledger_of b rows).own.memos (memo_named body)))) refl
other_seen a b rows h (AgreeMemo None) = refl
other_seen a b rows h (AgreeMemo (Some body)) = other_acts_by a b Agree (memo_named body) rows h (is_done (memo_answer Agree rows.published (get (ledger_of b rows).own.memos (memo_named body)))) refl
other_seen a b rows h (AskStatement period) = nothing_changes a rows (is_done (ledger_answer b (ledger_of b rows) (AskStatement period)))

pub agent_forbidden : (r : Option ℕ) (call : AgentRequest) (rows : Rows) → filed_by_agent r call [] rows ≡ rows
agent_forbidden r (AgentFile file) rows = unfiled (reporter r) file rows
agent_forbidden r (AskDocument number) rows = refl
agent_forbidden r (AskPeriod period) rows = refl
agent_forbidden r AskStock rows = refl
agent_forbidden r AskMemos rows = refl
agent_forbidden r (DisputeMemo body) rows = refl
agent_forbidden r (AgreeMemo body) rows = refl
agent_forbidden r (AskStatement period) rows = refl

-- what of a request that names agent b is in the view of agent a
named : (a b : ℕ) (token : Option (List ℕ)) (rows : Rows) (call : AgentRequest) (same given : Bool) → (b == a) ≡ same → is_token (agent_token b rows) token ≡ given → let answer = cond given (ledger_answer b (ledger_of b rows) call) (Refused Forbidden) in ledger_of a (cond (is_done answer) (agent_done call rows) (filed_by_agent (Some b) call (verdicts_in answer) rows)) ≡ ledger_all a (ledger_of a rows) (cond (same && is_token (agent_token a rows) token) (Own call ∷ []) [])
named a b token rows call true true h g =
    let is : b ≡ a = eqb-true b a h in
    let mine : is_token (agent_token a rows) token ≡ true = ap (λ (x : ℕ). is_token (agent_token x rows) token) (sym is) ∙ g in
    subst (λ (x : ℕ). let answer = ledger_answer x (ledger_of x rows) call in ledger_of a (cond (is_done answer) (agent_done call rows) (filed_by_agent (Some x) call (verdicts_in answer) rows)) ≡ ledger_after_request a call (ledger_of a rows)) (sym is) (own_seen a rows call)
    ∙ sym (ap (λ c. ledger_all a (ledger_of a rows) (cond c (Own call ∷ []) [])) mine)
named a b token rows call true false h g =
    let is : b ≡ a = eqb-true b a h in
    let other : is_token (agent_token a rows) token ≡ false = ap (λ (x : ℕ). is_token (agent_token x rows) token) (sym is) ∙ g in
    ap (ledger_of a) (agent_forbidden (Some b) call rows) ∙ sym (ap (λ c. ledger_all a (ledger_of a rows) (cond c (Own call ∷ []) [])) other)
named a b token rows call false true h g = other_seen a b rows h call
named a b token rows call false false h g = ap (ledger_of a) (agent_forbidden (Some b) call rows)

by_agent : (a : ℕ) (token : Option (List ℕ)) (rows : Rows) (call : AgentRequest) (r : Option ℕ) → let answer = to_agent r token call rows in ledger_of a (cond (is_done answer) (agent_done call rows) (filed_by_agent r call (verdicts_in answer) rows)) ≡ ledger_all a (ledger_of a rows) (cond (is_agent a r && is_token (agent_token a rows) token) (Own call ∷ []) [])
by_agent a token rows call None = ap (ledger_of a) (agent_forbidden None call rows)
by_agent a token rows call (Some b) = named a b token rows call (b == a) (is_token (agent_token b rows) token) refl refl

-- ---- an airline's request

issue_free_over : (airline b : ℕ) (issue : MemoIssue) (l : AirlineLedger) (found : Option MemoFields) → is_done (issue_beside airline b issue l found) ≡ true → found ≡ None
issue_free_over airline b issue l None h = refl
issue_free_over airline b issue l (Some m) h = by _ h where
  by : (c : Bool) → is_done (cond c (Changed Held) (Refused (refusal.Memo Rattle.bsp_rows.specs.MemoFault.TheVariants.OtherContent))) ≡ true → Some m ≡ None
  by true e = absurd (cc e)
  by false e = absurd (cc e)

pub issue_free : (airline b : ℕ) (issue : MemoIssue) (l : AirlineLedger) (found : Option MemoFields) (x y : Bool) → is_done (cond x (Refused (refusal.Memo AgentNotRegistered)) (cond y (Refused (refusal.Memo AmountOutOfRange)) (issue_beside airline b issue l found))) ≡ true → found ≡ None
issue_free airline b issue l found true y h = absurd (cc h)
issue_free airline b issue l found false true h = absurd (cc h)
issue_free airline b issue l found false false h = issue_free_over airline b issue l found h

passing_all : {K X : Type 0} (test : K × X → Bool) (k : K) → ((v : X) → test (k, v) ≡ true) → (found : Option X) → passing test k found ≡ found
passing_all test k h None = refl
passing_all test k h (Some v) = ap (λ c. cond c (Some v) None) (h v)

abbrev pub of_its_airline : ℕ → MemoKey × MemoFields → Bool
of_its_airline airline e = e.0.airline == airline

pub free_key : (airline document : ℕ) (rows : Rows) → get (airline_ledger_of airline rows).own.memos (issue_key airline document) ≡ None → get rows.memos (issue_key airline document) ≡ None
free_key airline document rows h =
    sym (kept_get memo_total memo_exact (of_its_airline airline) rows.memos (issue_key airline document)
    ∙ passing_all (of_its_airline airline) (issue_key airline document) (λ v. eq-eqb airline airline refl) (get rows.memos (issue_key airline document))) ∙ h

issued_by : (a b airline : ℕ) (issue : MemoIssue) (rows : Rows) → get rows.memos (issue_key airline issue.document) ≡ None → (c : Bool) → (b == a) ≡ c → ledger_of a (issued_to airline issue (Some b) rows) ≡ ledger_all a (ledger_of a rows) (cond c (Issued airline issue ∷ []) [])
issued_by a b airline issue rows free true h = issued_own a b airline issue rows h
issued_by a b airline issue rows free false h = issued_other a b airline issue rows h free

issues : (a airline : ℕ) (issue : MemoIssue) (rows : Rows) (r : Option ℕ) (c : Bool) → is_done (issuing airline issue (airline_ledger_of airline rows) r) ≡ c → ledger_of a (cond c (issued_to airline issue r rows) rows) ≡ ledger_all a (ledger_of a rows) (cond c (if_own a r (Issued airline issue)) [])
issues a airline issue rows r false h = refl
issues a airline issue rows None true h = refl
issues a airline issue rows (Some b) true h =
    let l : AirlineLedger = airline_ledger_of airline rows in
    issued_by a b airline issue rows (free_key airline issue.document rows (issue_free airline b issue l (get l.own.memos (issue_key airline issue.document)) (not (is_known b l)) (not (is_amount issue.amount)) h)) (b == a) refl

action_by : (a : ℕ) (action : Action) (key : MemoKey) (rows : Rows) (found : Option MemoFields) → get (ledger_of a rows).own.memos key ≡ found → ledger_of a (with_action action key rows) ≡ ledger_all a (ledger_of a rows) (cond (is_some found) (Acted action key ∷ []) [])
action_by a action key rows None h = acted_seen a action key rows ∙ acted_beside action key (ledger_of a rows) h
action_by a action key rows (Some memo) h = acted_seen a action key rows

airline_acts : (a : ℕ) (action : Action) (key : MemoKey) (rows : Rows) (done : Bool) → ledger_of a (cond done (with_action action key rows) rows) ≡ ledger_all a (ledger_of a rows) (cond done (action_sights action key (ledger_of a rows)) [])
airline_acts a action key rows true = action_by a action key rows (get (ledger_of a rows).own.memos key) refl
airline_acts a action key rows false = refl

airline_seen : (a airline : ℕ) (rows : Rows) (call : AirlineRequest) → let done = is_done (airline_answer airline (airline_ledger_of airline rows) call) in ledger_of a (cond done (airline_done airline call rows) rows) ≡ ledger_all a (ledger_of a rows) (cond done (airline_sights a airline call (ledger_of a rows)) [])
airline_seen a airline rows AskIssuedMemos = refl
airline_seen a airline rows (IssueMemo None) = refl
airline_seen a airline rows (IssueMemo (Some issue)) = issues a airline issue rows issue.agent.code (is_done (issuing airline issue (airline_ledger_of airline rows) issue.agent.code)) refl
airline_seen a airline rows (UpholdMemo None) = refl
airline_seen a airline rows (UpholdMemo (Some document)) = airline_acts a Uphold (issue_key airline document) rows (is_done (airline_answer airline (airline_ledger_of airline rows) (UpholdMemo (Some document))))
airline_seen a airline rows (WithdrawMemo None) = refl
airline_seen a airline rows (WithdrawMemo (Some document)) = airline_acts a Withdraw (issue_key airline document) rows (is_done (airline_answer airline (airline_ledger_of airline rows) (WithdrawMemo (Some document))))
airline_seen a airline rows (ReduceMemo None) = refl
airline_seen a airline rows (ReduceMemo (Some body)) = airline_acts a (Reduce body.amount) (issue_key airline body.document) rows (is_done (airline_answer airline (airline_ledger_of airline rows) (ReduceMemo (Some body))))
airline_seen a airline rows (AskHot period) = either a rows rows [] (is_done (airline_answer airline (airline_ledger_of airline rows) (AskHot period))) refl

airline_by : (a airline : ℕ) (rows : Rows) (call : AirlineRequest) (given : Bool) → let answer = cond given (airline_answer airline (airline_ledger_of airline rows) call) (Refused Forbidden) in ledger_of a (cond (is_done answer) (airline_done airline call rows) rows) ≡ ledger_all a (ledger_of a rows) (cond (is_done answer) (airline_sights a airline call (ledger_of a rows)) [])
airline_by a airline rows call true = airline_seen a airline rows call
airline_by a airline rows call false = refl

by_an_airline : (a : ℕ) (token : Option (List ℕ)) (rows : Rows) (call : AirlineRequest) (r : Option ℕ) → let answer = to_airline r token call rows in ledger_of a (cond (is_done answer) (by_airline r call rows) rows) ≡ ledger_all a (ledger_of a rows) (cond (is_done answer) (of_airline a r call (ledger_of a rows)) [])
by_an_airline a token rows call None = refl
by_an_airline a token rows call (Some airline) = airline_by a airline rows call (is_token (airline_token airline rows) token)

-- ---- any request

seen_asked : (office : List ℕ) (a : ℕ) (rows : Rows) (token : Option (List ℕ)) (asked : Asked) → let answer = asked_answer office token asked rows in ledger_of a (asked_after asked answer rows) ≡ ledger_all a (ledger_of a rows) (answered_sights a (ledger_of a rows) token asked answer)
seen_asked office a rows token NoRoute = refl
seen_asked office a rows token OtherMethod = refl
seen_asked office a rows token (ByOffice call) = by_office a rows call (is_token (Some office) token)
seen_asked office a rows token (ByAgent code call) = by_agent a token rows call (agent_of code)
seen_asked office a rows token (ByAirline code call) = by_an_airline a token rows call (airline_in code)

-- the ledger after any request is the fold of what the agent sees of it
pub seen : (office : List ℕ) (a : ℕ) (rows : Rows) (request : Request) → let answer = answer_of office rows request in ledger_of a (rows_after rows request answer) ≡ ledger_all a (ledger_of a rows) (sights a (ledger_of a rows) request answer)
seen office a rows request = seen_asked office a rows request.token request.asked
