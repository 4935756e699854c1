-- What a memo is in an agent's ledger follows from what the agent sees of it.
use Rattle.std.proofs.Common.{◌≡◌, ◌⊎◌, ℕ, Bool, true, false, List, [], ◌∷◌, ◌++◌, Option, Some, None, IsSome, is_some, option_map, Ok, Err, refl, sym, ap, subst, ◌∙◌, inl, inr}
use Rattle.std.specs.Ordering.{eq_by_cmp}
use Rattle.std.specs.FinMap.{FinMap, get}
use Rattle.bsp_rows.specs.History.Request.{Publish, SetDay, Close}
use Rattle.bsp_rows.specs.Lives.{after_events}
use Rattle.bsp_rows.specs.MemoFields.{MemoFields}
use Rattle.bsp_rows.specs.Published.{Published as Plan}
use Rattle.bsp_rows.specs.Reporter.TheVariants.{Agent}
use Rattle.bsp_rows.specs.Rows.{memo_cmp}
use Rattle.bsp_rows.specs.SoundPlan.{Grows, IsSoundPlan}
use Rattle.bsp_rows.specs.Steps.Action.{Dispute, Agree}
use Rattle.bsp_rows.specs.Terms.{Terms}
use Rattle.bsp_rows.specs.Transaction.{Transaction}
use Rattle.bsp_rows.specs.Verdict.{Verdict}
use Rattle.bsp_rows.specs.Verdict.TheVariants as verdict
use Rattle.bsp_rows.specs.declared.keys.MemoKey.{MemoKey}
use Rattle.bsp_rows.proofs.GrowsLemmas.{grows_itself}
use Rattle.bsp_rows.proofs.KeyOrders.{memo_exact, memo_total}
use Rattle.bsp_rows.proofs.MapLemmas.{get_other, get_written, same_key}
use Rattle.bsp_messages.specs.declared.airline_bodies.MemoIssue.{MemoIssue}
use Rattle.bsp_office_spec.specs.AirlineLedger.{issue_key, new_memo}
use Rattle.bsp_office_spec.specs.Ledger.{Ledger, ledger_after_request, ledger_filed, ledger_judged, memo_named, own_verdict, review_of}
use Rattle.bsp_office_spec.specs.Requests.{AgentRequest}
use Rattle.bsp_office_spec.specs.Requests.AgentRequest.{AgentFile, AskDocument, AskPeriod, AskStock, AskMemos, DisputeMemo, AgreeMemo, AskStatement}
use Rattle.bsp_office_spec.specs.Unmarked.{IsIssuedIn, IsMadeSince, memo_events, plan_seen, request_events, sight_events}
use Rattle.bsp_office_spec.specs.View.{Sight, ledger_after, ledger_all}
use Rattle.bsp_office_spec.specs.View.Sight.{Own, Reported, Registered, Allotted, Withdrew, Issued, Acted, Planned}
use Rattle.bsp_office_spec.proofs.MemoEvents.{action_made, another_key, close_made, events_append, made_from_issue, made_of, plan_grows, unmade}
use Rattle.bsp_office_spec.proofs.SeenLemmas.{all_append}

-- ---- a file leaves the memos and the plan

judged_memos : (a : ℕ) (t : Transaction) (v : Verdict) (l : Ledger) → (ledger_judged a t v l).own.memos ≡ l.own.memos
judged_memos a t (verdict.Held period) l = refl
judged_memos a t (verdict.Accepted period) l = refl
judged_memos a t (verdict.Refused refusal) l = refl

judged_plan : (a : ℕ) (t : Transaction) (v : Verdict) (l : Ledger) → (ledger_judged a t v l).published ≡ l.published
judged_plan a t (verdict.Held period) l = refl
judged_plan a t (verdict.Accepted period) l = refl
judged_plan a t (verdict.Refused refusal) l = refl

filed_memos : (a : ℕ) (ts : List Transaction) (l : Ledger) → (ledger_filed a ts l).own.memos ≡ l.own.memos
filed_memos a [] l = refl
filed_memos a (t ∷ ts) l =
    let v : Verdict = own_verdict (Agent a) l t in
    filed_memos a ts (ledger_judged a t v l) ∙ judged_memos a t v l

filed_plan : (a : ℕ) (ts : List Transaction) (l : Ledger) → (ledger_filed a ts l).published ≡ l.published
filed_plan a [] l = refl
filed_plan a (t ∷ ts) l =
    let v : Verdict = own_verdict (Agent a) l t in
    filed_plan a ts (ledger_judged a t v l) ∙ judged_plan a t v l

-- ---- one sight

request_made : (a : ℕ) (l : Ledger) (key : MemoKey) (call : AgentRequest) →
    get (ledger_after_request a call l).own.memos key ≡ option_map (after_events (review_of l.published.terms) (request_events key call l.published.day)) (get l.own.memos key)
request_made a l key (AgentFile (Err fault)) = unmade (review_of l.published.terms) (get l.own.memos key)
request_made a l key (AgentFile (Ok ts)) = ap (λ (m : FinMap memo_cmp MemoFields). get m key) (filed_memos a ts l) ∙ unmade (review_of l.published.terms) (get l.own.memos key)
request_made a l key (AskDocument number) = unmade (review_of l.published.terms) (get l.own.memos key)
request_made a l key (AskPeriod period) = unmade (review_of l.published.terms) (get l.own.memos key)
request_made a l key AskStock = unmade (review_of l.published.terms) (get l.own.memos key)
request_made a l key AskMemos = unmade (review_of l.published.terms) (get l.own.memos key)
request_made a l key (DisputeMemo None) = unmade (review_of l.published.terms) (get l.own.memos key)
request_made a l key (DisputeMemo (Some body)) = action_made Dispute l.published key (memo_named body) l.own.memos
request_made a l key (AgreeMemo None) = unmade (review_of l.published.terms) (get l.own.memos key)
request_made a l key (AgreeMemo (Some body)) = action_made Agree l.published key (memo_named body) l.own.memos
request_made a l key (AskStatement period) = unmade (review_of l.published.terms) (get l.own.memos key)

-- it is no issue of the memo of the key
abbrev IsBeside : MemoKey → Sight → Type 0
IsBeside key (Issued airline issue) = eq_by_cmp memo_cmp key (issue_key airline issue.document) ≡ false
IsBeside key _ = Unit {0}

sight_made : (a : ℕ) (l : Ledger) (key : MemoKey) (s : Sight) → IsBeside key s →
    get (ledger_after a l s).own.memos key ≡ option_map (after_events (review_of l.published.terms) (sight_events key l.published.day s)) (get l.own.memos key)
sight_made a l key (Own call) h = request_made a l key call
sight_made a l key (Reported t) h = unmade (review_of l.published.terms) (get l.own.memos key)
sight_made a l key (Registered token) h = unmade (review_of l.published.terms) (get l.own.memos key)
sight_made a l key (Allotted range) h = unmade (review_of l.published.terms) (get l.own.memos key)
sight_made a l key (Withdrew range) h = unmade (review_of l.published.terms) (get l.own.memos key)
sight_made a l key (Issued airline issue) h =
    get_other memo_total memo_exact l.own.memos (issue_key airline issue.document) key (new_memo airline a issue l.published.day) h
    ∙ unmade (review_of l.published.terms) (get l.own.memos key)
sight_made a l key (Acted action other) h = action_made action l.published key other l.own.memos
sight_made a l key (Planned (Publish text)) h = unmade (review_of l.published.terms) (get l.own.memos key)
sight_made a l key (Planned (SetDay day)) h = unmade (review_of l.published.terms) (get l.own.memos key)
sight_made a l key (Planned (Close period)) h = close_made (review_of l.published.terms) period l.published.day key l.own.memos

request_plan : (a : ℕ) (l : Ledger) (call : AgentRequest) → (ledger_after_request a call l).published ≡ l.published
request_plan a l (AgentFile (Err fault)) = refl
request_plan a l (AgentFile (Ok ts)) = filed_plan a ts l
request_plan a l (AskDocument number) = refl
request_plan a l (AskPeriod period) = refl
request_plan a l AskStock = refl
request_plan a l AskMemos = refl
request_plan a l (DisputeMemo None) = refl
request_plan a l (DisputeMemo (Some body)) = refl
request_plan a l (AgreeMemo None) = refl
request_plan a l (AgreeMemo (Some body)) = refl
request_plan a l (AskStatement period) = refl

plan_step : (a : ℕ) (l : Ledger) (s : Sight) → (ledger_after a l s).published ≡ plan_seen l.published s
plan_step a l (Own call) = request_plan a l call
plan_step a l (Reported t) = refl
plan_step a l (Registered token) = refl
plan_step a l (Allotted range) = refl
plan_step a l (Withdrew range) = refl
plan_step a l (Issued airline issue) = refl
plan_step a l (Acted action key) = refl
plan_step a l (Planned request) = refl

seen_grows : (p : Plan) (s : Sight) → IsSoundPlan p → IsSoundPlan (plan_seen p s) × Grows p (plan_seen p s)
seen_grows p (Own call) h = (h, grows_itself p)
seen_grows p (Reported t) h = (h, grows_itself p)
seen_grows p (Registered token) h = (h, grows_itself p)
seen_grows p (Allotted range) h = (h, grows_itself p)
seen_grows p (Withdrew range) h = (h, grows_itself p)
seen_grows p (Issued airline issue) h = (h, grows_itself p)
seen_grows p (Acted action key) h = (h, grows_itself p)
seen_grows p (Planned request) h = plan_grows p request h

-- ---- issues

-- the number of an issue is free, and terms are published
abbrev pub IsNewIssue : Ledger → Sight → Type 0
IsNewIssue l (Issued airline issue) = (get l.own.memos (issue_key airline issue.document) ≡ None) × IsSome l.published.terms
IsNewIssue l _ = Unit {0}

abbrev pub IssuesAreNew : ℕ → Ledger → List Sight → Type 0
IssuesAreNew a l [] = Unit {0}
IssuesAreNew a l (s ∷ ss) = IsNewIssue l s × IssuesAreNew a (ledger_after a l s) ss

pub new_append : (a : ℕ) (l : Ledger) (ss more : List Sight) → IssuesAreNew a l ss → IssuesAreNew a (ledger_all a l ss) more → IssuesAreNew a l (ss ++ more)
new_append a l [] more h rest = rest
new_append a l (s ∷ ss) more h rest = (h.0, new_append a (ledger_after a l s) ss more h.1 rest)

new_rest : (a : ℕ) (l : Ledger) (ss more : List Sight) → IssuesAreNew a l (ss ++ more) → IssuesAreNew a (ledger_all a l ss) more
new_rest a l [] more h = h
new_rest a l (s ∷ ss) more h = new_rest a (ledger_after a l s) ss more h.1

-- a memo that is there is not issued again
beside_new : (l : Ledger) (key : MemoKey) (memo : MemoFields) (s : Sight) → get l.own.memos key ≡ Some memo → IsNewIssue l s → IsBeside key s
beside_new l key memo (Own call) there new = tt
beside_new l key memo (Reported t) there new = tt
beside_new l key memo (Registered token) there new = tt
beside_new l key memo (Allotted range) there new = tt
beside_new l key memo (Withdrew range) there new = tt
beside_new l key memo (Issued airline issue) there new = another_key l.own.memos key (issue_key airline issue.document) memo there new.0
beside_new l key memo (Acted action other) there new = tt
beside_new l key memo (Planned request) there new = tt

-- ---- many sights

-- from a point on at which the memo is there
pub goes_on : (a : ℕ) (key : MemoKey) (terms : Terms) (ss : List Sight) (l : Ledger) (memo : MemoFields) → IsSoundPlan l.published → IssuesAreNew a l ss → l.published.terms ≡ Some terms → get l.own.memos key ≡ Some memo →
    get (ledger_all a l ss).own.memos key ≡ Some (after_events (review_of (Some terms)) (memo_events key l.published ss) memo)
goes_on a key terms [] l memo sound new known there = there
goes_on a key terms (s ∷ ss) l memo sound new known there =
    let review : ℕ = terms.review_days in
    let next : Ledger = ledger_after a l s in
    let moved : next.published ≡ plan_seen l.published s = plan_step a l s in
    let grown = seen_grows l.published s sound in
    let made : MemoFields = after_events review (sight_events key l.published.day s) memo in
    let here : get next.own.memos key ≡ Some made =
    sight_made a l key s (beside_new l key memo s there new.0)
    ∙ (ap (λ (t : Option Terms). option_map (after_events (review_of t) (sight_events key l.published.day s)) (get l.own.memos key)) known
    ∙ ap (option_map (after_events review (sight_events key l.published.day s))) there) in
    let rest = goes_on a key terms ss next made (subst IsSoundPlan (sym moved) grown.0) new.1 (ap (λ (p : Plan). p.terms) moved ∙ grown.1.terms terms known) here in
    rest
    ∙ (ap (λ (p : Plan). Some (after_events review (memo_events key p ss) made)) moved
    ∙ sym (ap (λ (m : MemoFields). Some m) (events_append review (sight_events key l.published.day s) (memo_events key (plan_seen l.published s) ss) memo)))

-- the same, whatever the terms are
pub goes_on_by : (a : ℕ) (key : MemoKey) (ss : List Sight) (l : Ledger) (memo : MemoFields) (terms : Option Terms) → l.published.terms ≡ terms → IsSome terms → IsSoundPlan l.published → IssuesAreNew a l ss → get l.own.memos key ≡ Some memo →
    get (ledger_all a l ss).own.memos key ≡ Some (after_events (review_of l.published.terms) (memo_events key l.published ss) memo)
goes_on_by a key ss l memo None known h sound new there = absurd (cc h)
goes_on_by a key ss l memo (Some terms) known h sound new there =
    goes_on a key terms ss l memo sound new known there
    ∙ ap (λ (t : Option Terms). Some (after_events (review_of t) (memo_events key l.published ss) memo)) (sym known)

all_sound : (a : ℕ) (l : Ledger) (ss : List Sight) → IsSoundPlan l.published → IsSoundPlan (ledger_all a l ss).published
all_sound a l [] h = h
all_sound a l (s ∷ ss) h = all_sound a (ledger_after a l s) ss (subst IsSoundPlan (sym (plan_step a l s)) (seen_grows l.published s h).0)

-- ---- from an issue on

since_issue : (a : ℕ) (l : Ledger) (airline : ℕ) (issue : MemoIssue) (later : List Sight) → IsSoundPlan l.published → IssuesAreNew a l (Issued airline issue ∷ later) →
    get (ledger_all a l (Issued airline issue ∷ later)).own.memos (issue_key airline issue.document)
    ≡ Some (after_events (review_of l.published.terms) (memo_events (issue_key airline issue.document) l.published later) (new_memo airline a issue l.published.day))
since_issue a l airline issue later sound new =
    goes_on_by a (issue_key airline issue.document) later (ledger_after a l (Issued airline issue)) (new_memo airline a issue l.published.day) l.published.terms refl new.0.1 sound new.1
    (get_written memo_total memo_exact l.own.memos (issue_key airline issue.document) (new_memo airline a issue l.published.day))

pub made_since : (a : ℕ) (start : Ledger) (sights : List Sight) → IsSoundPlan start.published → IssuesAreNew a start sights →
    (before later : List Sight) (airline : ℕ) (issue : MemoIssue) → sights ≡ before ++ Issued airline issue ∷ later → IsMadeSince a start sights before airline issue later
made_since a start sights sound new before later airline issue split =
    let l : Ledger = ledger_all a start before in
    let key : MemoKey = issue_key airline issue.document in
    let memo : MemoFields = new_memo airline a issue l.published.day in
    let rest : IssuesAreNew a l (Issued airline issue ∷ later) = new_rest a start before (Issued airline issue ∷ later) (subst (IssuesAreNew a start) split new) in (
      after_events (review_of l.published.terms) (memo_events key l.published later) memo,
      ap (λ (ss : List Sight). get (ledger_all a start ss).own.memos key) split
          ∙ (ap (λ (m : Ledger). get m.own.memos key) (all_append a start before (Issued airline issue ∷ later))
          ∙ since_issue a l airline issue later (all_sound a start before sound) rest),
      made_from_issue (review_of l.published.terms) (memo_events key l.published later) memo (record { state = refl; billed = refl; amount = refl }),
    )

-- ---- no other memo

beside_by : (key : MemoKey) (airline : ℕ) (issue : MemoIssue) (ss : List Sight) (b : Bool) → eq_by_cmp memo_cmp key (issue_key airline issue.document) ≡ b → IsBeside key (Issued airline issue) ⊎ IsIssuedIn key (Issued airline issue ∷ ss)
beside_by key airline issue ss true is = inr (record { before = []; airline = airline; issue = issue; later = ss; split = refl; key_is = sym (same_key memo_exact key (issue_key airline issue.document) is) })
beside_by key airline issue ss false is = inl is

beside_or_issued : (key : MemoKey) (s : Sight) (ss : List Sight) → IsBeside key s ⊎ IsIssuedIn key (s ∷ ss)
beside_or_issued key (Own call) ss = inl tt
beside_or_issued key (Reported t) ss = inl tt
beside_or_issued key (Registered token) ss = inl tt
beside_or_issued key (Allotted range) ss = inl tt
beside_or_issued key (Withdrew range) ss = inl tt
beside_or_issued key (Issued airline issue) ss = beside_by key airline issue ss (eq_by_cmp memo_cmp key (issue_key airline issue.document)) refl
beside_or_issued key (Acted action other) ss = inl tt
beside_or_issued key (Planned request) ss = inl tt

issued_later : (key : MemoKey) (s : Sight) (ss : List Sight) → IsIssuedIn key ss → IsIssuedIn key (s ∷ ss)
issued_later key s ss h = record {
  before = s ∷ h.before;
  airline = h.airline;
  issue = h.issue;
  later = h.later;
  split = ap (λ (more : List Sight). s ∷ more) h.split;
  key_is = h.key_is;
}

there_before : (a : ℕ) (key : MemoKey) (l : Ledger) (s : Sight) (ss : List Sight) → IsSome (get (ledger_after a l s).own.memos key) → IsSome (get l.own.memos key) ⊎ IsIssuedIn key (s ∷ ss)
there_before a key l s ss there = elim (beside_or_issued key s ss) [
  | inl beside ↦ inl (made_of (after_events (review_of l.published.terms) (sight_events key l.published.day s)) (get l.own.memos key) (ap is_some (sym (sight_made a l key s beside)) ∙ there))
  | inr issued ↦ inr issued
]

pub no_other : (a : ℕ) (key : MemoKey) (ss : List Sight) (l : Ledger) → IsSome (get (ledger_all a l ss).own.memos key) → IsSome (get l.own.memos key) ⊎ IsIssuedIn key ss
no_other a key [] l there = inl there
no_other a key (s ∷ ss) l there = elim (no_other a key ss (ledger_after a l s) there) [
  | inl next ↦ there_before a key l s ss next
  | inr issued ↦ inr (issued_later key s ss issued)
]
