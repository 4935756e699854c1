-- What a memo is in an airline's ledger follows from what the airline sees of it.
use Rattle.std.proofs.Common.{◌≡◌, ◌⊎◌, ℕ, not, Bool, true, false, cond, List, [], ◌∷◌, Option, Some, None, IsSome, is_some, option_map, refl, sym, ap, subst, ◌∙◌, inl, inr}
use Rattle.std.specs.Ordering.{eq_by_cmp}
use Rattle.std.specs.FinMap.{FinMap, empty, get, values}
use Rattle.bsp_rows.specs.History.Request.{Publish, SetDay, Close}
use Rattle.bsp_rows.specs.Lives.{after_events}
use Rattle.bsp_rows.specs.Memos.{is_amount}
use Rattle.bsp_rows.specs.MemoFields.{MemoFields}
use Rattle.bsp_rows.specs.Published.{Published as Plan}
use Rattle.bsp_rows.specs.Rows.{memo_cmp}
use Rattle.bsp_rows.specs.Sound.{Sound}
use Rattle.bsp_rows.specs.SoundPlan.{Grows, IsSoundPlan}
use Rattle.bsp_rows.specs.Steps.{Action}
use Rattle.bsp_rows.specs.Steps.Action.{Uphold, Reduce, Withdraw}
use Rattle.bsp_rows.specs.Terms.{Terms}
use Rattle.bsp_rows.specs.declared.keys.MemoKey.{MemoKey}
use Rattle.bsp_rows.proofs.GrowsLemmas.{grows_itself}
use Rattle.bsp_rows.proofs.KeyOrders.{memo_exact, memo_total}
use Rattle.bsp_rows.proofs.MapLemmas.{get_other, get_written, same_key}
use Rattle.bsp_rows.proofs.PartLemmas.{kept_get}
use Rattle.bsp_messages.specs.declared.airline_bodies.MemoIssue.{MemoIssue}
use Rattle.bsp_office_spec.specs.AirlineLedger.{AirlineLedger, airline_answer, airline_ledger_of, is_known, issue_key, issuing, new_memo}
use Rattle.bsp_office_spec.specs.AirlineView.{AirlineSight, airline_acted, airline_after, airline_all, airline_done_by, airline_issued, airline_view}
use Rattle.bsp_office_spec.specs.AirlineView.AirlineSight.{OwnAsked, Taken, Renewed, Known, ActedOn, Published}
use Rattle.bsp_office_spec.specs.Answers.{is_done}
use Rattle.bsp_office_spec.specs.Ledger.{Ledger, acted, memo_answer, review_of}
use Rattle.bsp_office_spec.specs.Requests.{AirlineRequest}
use Rattle.bsp_office_spec.specs.Requests.AirlineRequest.{AskIssuedMemos, IssueMemo, UpholdMemo, WithdrawMemo, ReduceMemo, AskHot}
use Rattle.bsp_office_spec.specs.Unmarked.{AirlinesNeedNoMarks, IsAirlineIssuedIn, IsAirlineMadeSince, Issues, LiveByTheList, action_events, airline_memo_events, airline_plan_seen, airline_request_events, airline_sight_events}
use Rattle.bsp_office_spec.specs.View.{AllFit, Exchange, Run}
use Rattle.bsp_office_spec.proofs.AirlineIsolated.{airline_isolated}
use Rattle.bsp_office_spec.proofs.AirlineLemmas.{airline_append}
use Rattle.bsp_office_spec.proofs.MemoEvents.{action_made, another_key, close_made, events_append, made_from_issue, made_of, memo_has_terms, passed, plan_grows, unmade}
use Rattle.bsp_office_spec.proofs.RunParts.{fit_parts, run_parts}
use Rattle.bsp_office_spec.proofs.Runs.{run_sound}
use Rattle.bsp_office_spec.proofs.Seen.{issue_free, left_alone, of_its_airline}
use Rattle.bsp_office_spec.proofs.SeenLemmas.{tables}
use Rattle.bsp_office_spec.proofs.UnmarkedInRuns.{issue_has_terms}
use Rattle.bsp_office_spec.proofs.UnmarkedItems.{airline_live}

-- ---- its own actions, done or not

undone_changes_nothing : (action : Action) (p : Plan) (key : MemoKey) (memos : FinMap memo_cmp MemoFields) → is_done (memo_answer action p (get memos key)) ≡ false → acted action p key memos ≡ memos
undone_changes_nothing action p key memos h = ap (λ (l : Ledger). l.own.memos) (left_alone action key (tables None empty empty memos p) h)

own_acted : (action : Action) (key other : MemoKey) (l : AirlineLedger) (done : Bool) → is_done (memo_answer action l.published (get l.own.memos other)) ≡ done →
    get (cond done (airline_acted action other l) l).own.memos key ≡ option_map (after_events (review_of l.published.terms) (action_events key action other l.published.day)) (get l.own.memos key)
own_acted action key other l true h = action_made action l.published key other l.own.memos
own_acted action key other l false h =
    ap (λ (m : FinMap memo_cmp MemoFields). get m key) (sym (undone_changes_nothing action l.published other l.own.memos h))
    ∙ action_made action l.published key other l.own.memos

either_same : (l : AirlineLedger) (key : MemoKey) (done : Bool) → get (cond done l l).own.memos key ≡ get l.own.memos key
either_same l key true = refl
either_same l key false = refl

-- ---- one sight

-- where it is an issue, it leaves what is at the key
abbrev IsBesideOwn : ℕ → AirlineLedger → MemoKey → AirlineSight → Type 0
IsBesideOwn c l key (OwnAsked (IssueMemo (Some issue))) = get (airline_after c l (OwnAsked (IssueMemo (Some issue)))).own.memos key ≡ get l.own.memos key
IsBesideOwn c l key _ = Unit {0}

call_made : (c : ℕ) (l : AirlineLedger) (key : MemoKey) (call : AirlineRequest) → IsBesideOwn c l key (OwnAsked call) →
    get (airline_after c l (OwnAsked call)).own.memos key ≡ option_map (after_events (review_of l.published.terms) (airline_request_events c key call l.published.day)) (get l.own.memos key)
call_made c l key AskIssuedMemos h = unmade (review_of l.published.terms) (get l.own.memos key)
call_made c l key (IssueMemo None) h = unmade (review_of l.published.terms) (get l.own.memos key)
call_made c l key (IssueMemo (Some issue)) h = h ∙ unmade (review_of l.published.terms) (get l.own.memos key)
call_made c l key (UpholdMemo None) h = unmade (review_of l.published.terms) (get l.own.memos key)
call_made c l key (UpholdMemo (Some document)) h = own_acted Uphold key (issue_key c document) l (is_done (airline_answer c l (UpholdMemo (Some document)))) refl
call_made c l key (WithdrawMemo None) h = unmade (review_of l.published.terms) (get l.own.memos key)
call_made c l key (WithdrawMemo (Some document)) h = own_acted Withdraw key (issue_key c document) l (is_done (airline_answer c l (WithdrawMemo (Some document)))) refl
call_made c l key (ReduceMemo None) h = unmade (review_of l.published.terms) (get l.own.memos key)
call_made c l key (ReduceMemo (Some body)) h = own_acted (Reduce body.amount) key (issue_key c body.document) l (is_done (airline_answer c l (ReduceMemo (Some body)))) refl
call_made c l key (AskHot period) h = either_same l key (is_done (airline_answer c l (AskHot period))) ∙ unmade (review_of l.published.terms) (get l.own.memos key)

sight_made : (c : ℕ) (l : AirlineLedger) (key : MemoKey) (s : AirlineSight) → IsBesideOwn c l key s →
    get (airline_after c l s).own.memos key ≡ option_map (after_events (review_of l.published.terms) (airline_sight_events c key l.published.day s)) (get l.own.memos key)
sight_made c l key (OwnAsked call) h = call_made c l key call h
sight_made c l key (Taken agent t) h = unmade (review_of l.published.terms) (get l.own.memos key)
sight_made c l key (Renewed token) h = unmade (review_of l.published.terms) (get l.own.memos key)
sight_made c l key (Known agent) h = unmade (review_of l.published.terms) (get l.own.memos key)
sight_made c l key (ActedOn action other) h = action_made action l.published key other l.own.memos
sight_made c l key (Published (Publish text)) h = unmade (review_of l.published.terms) (get l.own.memos key)
sight_made c l key (Published (SetDay day)) h = unmade (review_of l.published.terms) (get l.own.memos key)
sight_made c l key (Published (Close period)) h = close_made (review_of l.published.terms) period l.published.day key l.own.memos

issued_plan : (c : ℕ) (issue : MemoIssue) (r : Option ℕ) (l : AirlineLedger) → (airline_issued c issue r l).published ≡ l.published
issued_plan c issue None l = refl
issued_plan c issue (Some b) l = refl

done_plan : (c : ℕ) (call : AirlineRequest) (l : AirlineLedger) → (airline_done_by c call l).published ≡ l.published
done_plan c AskIssuedMemos l = refl
done_plan c (IssueMemo None) l = refl
done_plan c (IssueMemo (Some issue)) l = issued_plan c issue issue.agent.code l
done_plan c (UpholdMemo None) l = refl
done_plan c (UpholdMemo (Some document)) l = refl
done_plan c (WithdrawMemo None) l = refl
done_plan c (WithdrawMemo (Some document)) l = refl
done_plan c (ReduceMemo None) l = refl
done_plan c (ReduceMemo (Some body)) l = refl
done_plan c (AskHot period) l = refl

call_plan : (c : ℕ) (call : AirlineRequest) (l : AirlineLedger) (done : Bool) → (cond done (airline_done_by c call l) l).published ≡ l.published
call_plan c call l true = done_plan c call l
call_plan c call l false = refl

plan_step : (c : ℕ) (l : AirlineLedger) (s : AirlineSight) → (airline_after c l s).published ≡ airline_plan_seen l.published s
plan_step c l (OwnAsked call) = call_plan c call l (is_done (airline_answer c l call))
plan_step c l (Taken agent t) = refl
plan_step c l (Renewed token) = refl
plan_step c l (Known agent) = refl
plan_step c l (ActedOn action key) = refl
plan_step c l (Published request) = refl

seen_grows : (p : Plan) (s : AirlineSight) → IsSoundPlan p → IsSoundPlan (airline_plan_seen p s) × Grows p (airline_plan_seen p s)
seen_grows p (OwnAsked call) h = (h, grows_itself p)
seen_grows p (Taken agent t) h = (h, grows_itself p)
seen_grows p (Renewed token) h = (h, grows_itself p)
seen_grows p (Known agent) h = (h, grows_itself p)
seen_grows p (ActedOn action key) h = (h, grows_itself p)
seen_grows p (Published request) h = plan_grows p request h

-- ---- a memo that is there is not issued again

issue_is_beside : (c : ℕ) (l : AirlineLedger) (key : MemoKey) (memo : MemoFields) (issue : MemoIssue) (r : Option ℕ) (done : Bool) → is_done (issuing c issue l r) ≡ done → get l.own.memos key ≡ Some memo →
    get (cond done (airline_issued c issue r l) l).own.memos key ≡ get l.own.memos key
issue_is_beside c l key memo issue r false h there = refl
issue_is_beside c l key memo issue None true h there = refl
issue_is_beside c l key memo issue (Some b) true h there =
    let other : MemoKey = issue_key c issue.document in
    let none : get l.own.memos other ≡ None = issue_free c b issue l (get l.own.memos other) (not (is_known b l)) (not (is_amount issue.amount)) h in
    get_other memo_total memo_exact l.own.memos other key (new_memo c b issue l.published.day) (another_key l.own.memos key other memo there none)

call_is_beside : (c : ℕ) (l : AirlineLedger) (key : MemoKey) (memo : MemoFields) (call : AirlineRequest) → get l.own.memos key ≡ Some memo → IsBesideOwn c l key (OwnAsked call)
call_is_beside c l key memo AskIssuedMemos there = tt
call_is_beside c l key memo (IssueMemo None) there = tt
call_is_beside c l key memo (IssueMemo (Some issue)) there = issue_is_beside c l key memo issue issue.agent.code (is_done (issuing c issue l issue.agent.code)) refl there
call_is_beside c l key memo (UpholdMemo document) there = tt
call_is_beside c l key memo (WithdrawMemo document) there = tt
call_is_beside c l key memo (ReduceMemo body) there = tt
call_is_beside c l key memo (AskHot period) there = tt

is_beside : (c : ℕ) (l : AirlineLedger) (key : MemoKey) (memo : MemoFields) (s : AirlineSight) → get l.own.memos key ≡ Some memo → IsBesideOwn c l key s
is_beside c l key memo (OwnAsked call) there = call_is_beside c l key memo call there
is_beside c l key memo (Taken agent t) there = tt
is_beside c l key memo (Renewed token) there = tt
is_beside c l key memo (Known agent) there = tt
is_beside c l key memo (ActedOn action other) there = tt
is_beside c l key memo (Published request) there = tt

-- ---- many sights

goes_on : (c : ℕ) (key : MemoKey) (terms : Terms) (ss : List AirlineSight) (l : AirlineLedger) (memo : MemoFields) → IsSoundPlan l.published → l.published.terms ≡ Some terms → get l.own.memos key ≡ Some memo →
    get (airline_all c l ss).own.memos key ≡ Some (after_events (review_of (Some terms)) (airline_memo_events c key l.published ss) memo)
goes_on c key terms [] l memo sound known there = there
goes_on c key terms (s ∷ ss) l memo sound known there =
    let review : ℕ = terms.review_days in
    let next : AirlineLedger = airline_after c l s in
    let moved : next.published ≡ airline_plan_seen l.published s = plan_step c l s in
    let grown = seen_grows l.published s sound in
    let made : MemoFields = after_events review (airline_sight_events c key l.published.day s) memo in
    let here : get next.own.memos key ≡ Some made =
    sight_made c l key s (is_beside c l key memo s there)
    ∙ (ap (λ (t : Option Terms). option_map (after_events (review_of t) (airline_sight_events c key l.published.day s)) (get l.own.memos key)) known
    ∙ ap (option_map (after_events review (airline_sight_events c key l.published.day s))) there) in
    let rest = goes_on c key terms ss next made (subst IsSoundPlan (sym moved) grown.0) (ap (λ (p : Plan). p.terms) moved ∙ grown.1.terms terms known) here in
    rest
    ∙ (ap (λ (p : Plan). Some (after_events review (airline_memo_events c key p ss) made)) moved
    ∙ sym (ap (λ (m : MemoFields). Some m) (events_append review (airline_sight_events c key l.published.day s) (airline_memo_events c key (airline_plan_seen l.published s) ss) memo)))

goes_on_by : (c : ℕ) (key : MemoKey) (ss : List AirlineSight) (l : AirlineLedger) (memo : MemoFields) (terms : Option Terms) → l.published.terms ≡ terms → IsSome terms → IsSoundPlan l.published → get l.own.memos key ≡ Some memo →
    get (airline_all c l ss).own.memos key ≡ Some (after_events (review_of l.published.terms) (airline_memo_events c key l.published ss) memo)
goes_on_by c key ss l memo None known h sound there = absurd (cc h)
goes_on_by c key ss l memo (Some terms) known h sound there =
    goes_on c key terms ss l memo sound known there
    ∙ ap (λ (t : Option Terms). Some (after_events (review_of t) (airline_memo_events c key l.published ss) memo)) (sym known)

all_sound : (c : ℕ) (l : AirlineLedger) (ss : List AirlineSight) → IsSoundPlan l.published → IsSoundPlan (airline_all c l ss).published
all_sound c l [] h = h
all_sound c l (s ∷ ss) h = all_sound c (airline_after c l s) ss (subst IsSoundPlan (sym (plan_step c l s)) (seen_grows l.published s h).0)

-- ---- from an issue on

since_issue : (c : ℕ) (l : AirlineLedger) (issue : MemoIssue) (b : ℕ) (later : List AirlineSight) → IsSoundPlan l.published → is_done (issuing c issue l (Some b)) ≡ true →
    get (airline_all c (airline_issued c issue (Some b) l) later).own.memos (issue_key c issue.document)
    ≡ Some (after_events (review_of l.published.terms) (airline_memo_events c (issue_key c issue.document) l.published later) (new_memo c b issue l.published.day))
since_issue c l issue b later sound done =
    let key : MemoKey = issue_key c issue.document in
    let none : get l.own.memos key ≡ None = issue_free c b issue l (get l.own.memos key) (not (is_known b l)) (not (is_amount issue.amount)) done in
    let terms : IsSome l.published.terms = issue_has_terms c b issue l (get l.own.memos key) (not (is_known b l)) (not (is_amount issue.amount)) none done in
    goes_on_by c key later (airline_issued c issue (Some b) l) (new_memo c b issue l.published.day) l.published.terms refl terms sound
    (get_written memo_total memo_exact l.own.memos key (new_memo c b issue l.published.day))

issue_after : (c : ℕ) (l : AirlineLedger) (issue : MemoIssue) (b : ℕ) → is_done (airline_answer c l (IssueMemo (Some issue))) ≡ true → issue.agent.code ≡ Some b → airline_after c l (OwnAsked (IssueMemo (Some issue))) ≡ airline_issued c issue (Some b) l
issue_after c l issue b done to =
    ap (λ (d : Bool). cond d (airline_issued c issue issue.agent.code l) l) done ∙ ap (λ (r : Option ℕ). airline_issued c issue r l) to

made_since : (c : ℕ) (start : AirlineLedger) (sights : List AirlineSight) → IsSoundPlan start.published →
    (before later : List AirlineSight) (issue : MemoIssue) (b : ℕ) → Issues c start sights before issue b later → IsAirlineMadeSince c start sights before issue b later
made_since c start sights sound before later issue b h =
    let l : AirlineLedger = airline_all c start before in
    let key : MemoKey = issue_key c issue.document in
    let memo : MemoFields = new_memo c b issue l.published.day in
    let done : is_done (issuing c issue l (Some b)) ≡ true = ap (λ (r : Option ℕ). is_done (issuing c issue l r)) (sym h.to) ∙ h.done in (
      after_events (review_of l.published.terms) (airline_memo_events c key l.published later) memo,
      ap (λ (ss : List AirlineSight). get (airline_all c start ss).own.memos key) h.split
          ∙ (ap (λ (m : AirlineLedger). get m.own.memos key) (airline_append c start before (OwnAsked (IssueMemo (Some issue)) ∷ later))
          ∙ (ap (λ (m : AirlineLedger). get (airline_all c m later).own.memos key) (issue_after c l issue b h.done h.to)
          ∙ since_issue c l issue b later (all_sound c start before sound) done)),
      made_from_issue (review_of l.published.terms) (airline_memo_events c key l.published later) memo (record { state = refl; billed = refl; amount = refl }),
    )

-- ---- no other memo

beside_by : (c : ℕ) (l : AirlineLedger) (key : MemoKey) (issue : MemoIssue) (b : ℕ) (ss : List AirlineSight) → issue.agent.code ≡ Some b → is_done (issuing c issue l (Some b)) ≡ true → (same : Bool) → eq_by_cmp memo_cmp key (issue_key c issue.document) ≡ same →
    (get (airline_issued c issue (Some b) l).own.memos key ≡ get l.own.memos key) ⊎ IsAirlineIssuedIn c l (OwnAsked (IssueMemo (Some issue)) ∷ ss) key
beside_by c l key issue b ss to done true is = inr (record {
  before = [];
  issue = issue;
  agent = b;
  later = ss;
  issues = record { split = refl; done = ap (λ (r : Option ℕ). is_done (issuing c issue l r)) to ∙ done; to = to };
  key_is = sym (same_key memo_exact key (issue_key c issue.document) is);
})
beside_by c l key issue b ss to done false is = inl (get_other memo_total memo_exact l.own.memos (issue_key c issue.document) key (new_memo c b issue l.published.day) is)

issue_or_beside : (c : ℕ) (l : AirlineLedger) (key : MemoKey) (issue : MemoIssue) (ss : List AirlineSight) (r : Option ℕ) → issue.agent.code ≡ r → (done : Bool) → is_done (issuing c issue l r) ≡ done →
    (get (cond done (airline_issued c issue r l) l).own.memos key ≡ get l.own.memos key) ⊎ IsAirlineIssuedIn c l (OwnAsked (IssueMemo (Some issue)) ∷ ss) key
issue_or_beside c l key issue ss r to false h = inl refl
issue_or_beside c l key issue ss None to true h = inl refl
issue_or_beside c l key issue ss (Some b) to true h = beside_by c l key issue b ss to h (eq_by_cmp memo_cmp key (issue_key c issue.document)) refl

call_or_beside : (c : ℕ) (l : AirlineLedger) (key : MemoKey) (call : AirlineRequest) (ss : List AirlineSight) → IsBesideOwn c l key (OwnAsked call) ⊎ IsAirlineIssuedIn c l (OwnAsked call ∷ ss) key
call_or_beside c l key AskIssuedMemos ss = inl tt
call_or_beside c l key (IssueMemo None) ss = inl tt
call_or_beside c l key (IssueMemo (Some issue)) ss = issue_or_beside c l key issue ss issue.agent.code refl (is_done (issuing c issue l issue.agent.code)) refl
call_or_beside c l key (UpholdMemo document) ss = inl tt
call_or_beside c l key (WithdrawMemo document) ss = inl tt
call_or_beside c l key (ReduceMemo body) ss = inl tt
call_or_beside c l key (AskHot period) ss = inl tt

issued_or_beside : (c : ℕ) (l : AirlineLedger) (key : MemoKey) (s : AirlineSight) (ss : List AirlineSight) → IsBesideOwn c l key s ⊎ IsAirlineIssuedIn c l (s ∷ ss) key
issued_or_beside c l key (OwnAsked call) ss = call_or_beside c l key call ss
issued_or_beside c l key (Taken agent t) ss = inl tt
issued_or_beside c l key (Renewed token) ss = inl tt
issued_or_beside c l key (Known agent) ss = inl tt
issued_or_beside c l key (ActedOn action other) ss = inl tt
issued_or_beside c l key (Published request) ss = inl tt

issued_later : (c : ℕ) (l : AirlineLedger) (key : MemoKey) (s : AirlineSight) (ss : List AirlineSight) → IsAirlineIssuedIn c (airline_after c l s) ss key → IsAirlineIssuedIn c l (s ∷ ss) key
issued_later c l key s ss h = record {
  before = s ∷ h.before;
  issue = h.issue;
  agent = h.agent;
  later = h.later;
  issues = record { split = ap (λ (more : List AirlineSight). s ∷ more) h.issues.split; done = h.issues.done; to = h.issues.to };
  key_is = h.key_is;
}

there_before : (c : ℕ) (key : MemoKey) (l : AirlineLedger) (s : AirlineSight) (ss : List AirlineSight) → IsSome (get (airline_after c l s).own.memos key) → IsSome (get l.own.memos key) ⊎ IsAirlineIssuedIn c l (s ∷ ss) key
there_before c key l s ss there = elim (issued_or_beside c l key s ss) [
  | inl beside ↦ inl (made_of (after_events (review_of l.published.terms) (airline_sight_events c key l.published.day s)) (get l.own.memos key) (ap is_some (sym (sight_made c l key s beside)) ∙ there))
  | inr issued ↦ inr issued
]

no_other : (c : ℕ) (key : MemoKey) (ss : List AirlineSight) (l : AirlineLedger) → IsSome (get (airline_all c l ss).own.memos key) → IsSome (get l.own.memos key) ⊎ IsAirlineIssuedIn c l ss key
no_other c key [] l there = inl there
no_other c key (s ∷ ss) l there = elim (no_other c key ss (airline_after c l s) there) [
  | inl next ↦ there_before c key l s ss next
  | inr issued ↦ inr (issued_later c l key s ss issued)
]

-- ---- the law

pub airlines_need_no_marks : AirlinesNeedNoMarks
airlines_need_no_marks office rows exchanges new c run fits s before after split =
    let start : AirlineLedger = airline_ledger_of c rows in
    let sights : List AirlineSight = airline_view c start before in
    let parts = run_parts office rows before after new (subst (λ (es : List Exchange). Run office rows es new) split run) in
    let fit : AllFit before = (fit_parts before after (subst AllFit split fits)).0 in
    let sound : Sound parts.mid = run_sound office rows before parts.mid parts.first fit s in
    record {
      items = subst (λ (l : AirlineLedger). LiveByTheList (values l.own.items)) (airline_isolated office c rows before parts.mid parts.first fit s).1 (airline_live c parts.mid sound);
      kept = λ key memo there.
          let at : get rows.memos key ≡ Some memo = passed (of_its_airline c) key (get rows.memos key) memo (sym (kept_get memo_total memo_exact (of_its_airline c) rows.memos key) ∙ there) in
          goes_on_by c key sights start memo rows.published.terms refl (memo_has_terms rows key memo s at) s.plan there;
      issued = λ before' later issue b h. made_since c start sights s.plan before' later issue b h;
      no_other = λ key memo there. no_other c key sights start (ap is_some there);
    }
