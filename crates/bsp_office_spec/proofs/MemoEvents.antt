-- What actions and closes make of the memo at a key, and of the plan.
use Rattle.std.proofs.Common.{◌≡◌, ℕ, ◌+◌, ◌≤◌, ◌==◌, Bool, true, false, cond, List, [], ◌∷◌, ◌++◌, count_by, Option, Some, None, IsSome, option_map, Result, Ok, Err, refl, sym, ap, subst, ◌∙◌, inl, inr, Ordering, arith}
use Rattle.std.specs.Prelude.{MatchOption}
use Rattle.std.specs.List.{Contains}
use Rattle.std.specs.Ordering.{eq_by_cmp}
use Rattle.std.specs.Cmp.{IsTotalOrder}
use Rattle.std.specs.FinMap.{FinMap, IsAntisymmetric, entries, get, get-insert}
use Rattle.std.proofs.lemmas.Bool.{and_from, eq-eqb}
use Rattle.bsp_memos.proofs.LawLemmas.{billed_once_holds}
use Rattle.bsp_rows.specs.CivilDay.{CivilDay}
use Rattle.bsp_rows.specs.History.{Request as PlanRequest, outcome}
use Rattle.bsp_rows.specs.History.Request.{Close}
use Rattle.bsp_rows.specs.Lives.{Event, IsIssued, after_action, after_event, after_events}
use Rattle.bsp_rows.specs.Lives.Event.{Acted as Happened, Closed}
use Rattle.bsp_rows.specs.MemoFields.{MemoFields}
use Rattle.bsp_rows.specs.PlanFault.{PlanFault}
use Rattle.bsp_rows.specs.Published.{Published as Plan}
use Rattle.bsp_rows.specs.Rows.{Rows, memo_cmp}
use Rattle.bsp_rows.specs.Sound.{Sound, is_issued_to}
use Rattle.bsp_rows.specs.SoundPlan.{Grows, IsSoundPlan}
use Rattle.bsp_rows.specs.Steps.{Action}
use Rattle.bsp_rows.specs.Terms.{Terms}
use Rattle.bsp_rows.specs.Verdicts.{limit_of}
use Rattle.bsp_rows.specs.Changes.{each}
use Rattle.bsp_rows.specs.Writes.{changed, changed_to, plan_left}
use Rattle.bsp_rows.specs.declared.keys.MemoKey.{MemoKey}
use Rattle.bsp_rows.proofs.GrowsLemmas.{grows_itself, request_grows}
use Rattle.bsp_rows.proofs.KeyOrders.{memo_exact, memo_total}
use Rattle.bsp_rows.proofs.ListLemmas.{contains_cases, contains_none}
use Rattle.bsp_rows.proofs.MapLemmas.{counted, get_entry, same_key}
use Rattle.bsp_rows.proofs.PartLemmas.{each_get, passing}
use Rattle.bsp_rows.proofs.SoundLemmas.{sound_kept}
use Rattle.bsp_office_spec.specs.Ledger.{acted, review_of}
use Rattle.bsp_office_spec.specs.Unmarked.{IsMadeBy, action_events, plan_after, plan_events}

-- ---- lists of events

pub events_append : (review : ℕ) (first rest : List Event) (memo : MemoFields) → after_events review (first ++ rest) memo ≡ after_events review rest (after_events review first memo)
events_append review [] rest memo = refl
events_append review (e ∷ es) rest memo = events_append review es rest (after_event review e memo)

-- no event leaves what is there
pub unmade : (review : ℕ) (found : Option MemoFields) → found ≡ option_map (after_events review []) found
unmade review None = refl
unmade review (Some memo) = refl

made_alike : (f g : MemoFields → MemoFields) → ((memo : MemoFields) → f memo ≡ g memo) → (found : Option MemoFields) → option_map f found ≡ option_map g found
made_alike f g h None = refl
made_alike f g h (Some memo) = ap (λ (m : MemoFields). Some m) (h memo)

match_right : {X : Type 0} (A B : Type 0) (C D : X → Type 0) (o : Option X) → MatchOption o (A × B) (λ x. C x × D x) → MatchOption o B D
match_right A B C D None h = h.1
match_right A B C D (Some x) h = h.1

-- the law of billing, over what happens to a memo from its issue on
pub made_from_issue : (review : ℕ) (events : List Event) (memo : MemoFields) → IsIssued memo → IsMadeBy review events memo (after_events review events memo)
made_from_issue review events memo issued =
    let end : MemoFields = after_events review events memo in
    record {
      is = refl;
      billed = match_right _ _ _ _ end.billed (billed_once_holds review events memo issued);
    }

-- ---- what is at a key

module _ {K X : Type 0} {R : K → K → Ordering} (o : IsTotalOrder R) (exact : IsAntisymmetric R) (f : X → X) (k q : K) (m : FinMap R X) where
  none_changed : get m k ≡ None → (b : Bool) → eq_by_cmp R q k ≡ b → get m q ≡ cond b (option_map f (get m q)) (get m q)
  none_changed there true is = let none : get m q ≡ None = ap (get m) (same_key exact q k is) ∙ there in none ∙ sym (ap (option_map f) none)
  none_changed there false is = refl

  one_changed : (v : X) → get m k ≡ Some v → (b : Bool) → eq_by_cmp R q k ≡ b → cond b (Some (f v)) (get m q) ≡ cond b (option_map f (get m q)) (get m q)
  one_changed v there true is = sym (ap (option_map f) (ap (get m) (same_key exact q k is) ∙ there))
  one_changed v there false is = refl

  found_changed : (found : Option X) → get m k ≡ found → get (changed_to f k found m) q ≡ cond (eq_by_cmp R q k) (option_map f (get m q)) (get m q)
  found_changed None there = none_changed there (eq_by_cmp R q k) refl
  found_changed (Some v) there = get-insert o m k (f v) q ∙ one_changed v there (eq_by_cmp R q k) refl

  pub changed_get : get (changed f k m) q ≡ cond (eq_by_cmp R q k) (option_map f (get m q)) (get m q)
  changed_get = found_changed (get m k) refl

-- ---- what an action and a close make of it

acted_by : (review : ℕ) (action : Action) (day : CivilDay) (found : Option MemoFields) (b : Bool) → cond b (option_map (after_action review action day) found) found ≡ option_map (after_events review (cond b (Happened action day ∷ []) [])) found
acted_by review action day found true = made_alike (after_action review action day) (after_events review (Happened action day ∷ [])) (λ memo. refl) found
acted_by review action day found false = unmade review found

pub action_made : (action : Action) (p : Plan) (key other : MemoKey) (memos : FinMap memo_cmp MemoFields) → get (acted action p other memos) key ≡ option_map (after_events (review_of p.terms) (action_events key action other p.day)) (get memos key)
action_made action p key other memos =
    changed_get memo_total memo_exact (after_action (review_of p.terms) action p.day) other key memos
    ∙ acted_by (review_of p.terms) action p.day (get memos key) (eq_by_cmp memo_cmp key other)

pub close_made : (review period : ℕ) (day : CivilDay) (key : MemoKey) (memos : FinMap memo_cmp MemoFields) → get (each (after_event review (Closed period day)) memos) key ≡ option_map (after_events review (plan_events (Close period) day)) (get memos key)
close_made review period day key memos =
    each_get memo_total memo_exact (after_event review (Closed period day)) memos key
    ∙ made_alike (after_event review (Closed period day)) (after_events review (Closed period day ∷ [])) (λ memo. refl) (get memos key)

-- what was made of nothing is nothing
pub made_of : (f : MemoFields → MemoFields) (found : Option MemoFields) → IsSome (option_map f found) → IsSome found
made_of f None h = h
made_of f (Some memo) h = refl

apart_by : (memos : FinMap memo_cmp MemoFields) (key other : MemoKey) (memo : MemoFields) → get memos key ≡ Some memo → get memos other ≡ None → (b : Bool) → eq_by_cmp memo_cmp key other ≡ b → b ≡ false
apart_by memos key other memo there none false is = refl
apart_by memos key other memo there none true is =
    let both : Some memo ≡ None = sym there ∙ (ap (get memos) (same_key memo_exact key other is) ∙ none) in
    absurd (cc both)

-- a key at which a memo is, is not one that is free
pub another_key : (memos : FinMap memo_cmp MemoFields) (key other : MemoKey) (memo : MemoFields) → get memos key ≡ Some memo → get memos other ≡ None → eq_by_cmp memo_cmp key other ≡ false
another_key memos key other memo there none = apart_by memos key other memo there none (eq_by_cmp memo_cmp key other) refl

-- ---- the plan

outcome_grows : (p : Plan) (request : PlanRequest) → IsSoundPlan p → (o : Result Plan PlanFault) → outcome p request ≡ o → IsSoundPlan (plan_left p o) × Grows p (plan_left p o)
outcome_grows p request s (Ok m) e = (sound_kept p request m s e, request_grows p request m s e)
outcome_grows p request s (Err fault) e = (s, grows_itself p)

pub plan_grows : (p : Plan) (request : PlanRequest) → IsSoundPlan p → IsSoundPlan (plan_after request p) × Grows p (plan_after request p)
plan_grows p request s = outcome_grows p request s (outcome p request) refl

-- ---- a memo is there only where terms are published

one_more : (b : Bool) (n : ℕ) → 1 ≤ n → 1 ≤ cond b 1 0 + n
one_more true n h = omega (arith, h)
one_more false n h = omega (arith, h)

some_counted : {A : Type 0} (test : A → Bool) (xs : List A) (x : A) → Contains xs x → test x ≡ true → 1 ≤ count_by test xs
some_counted test [] x h passes = contains_none x h
some_counted test (y ∷ ys) x h passes = subst (λ (n : ℕ). 1 ≤ n) (sym (counted test y ys)) (elim (contains_cases y ys x h) [
  | inl here ↦ subst (λ b. 1 ≤ cond b 1 0 + count_by test ys) (sym (ap test here ∙ passes)) (omega arith)
  | inr there ↦ one_more (test y) (count_by test ys) (some_counted test ys x there passes)
])

limited : (terms : Option Terms) (n : ℕ) → 1 ≤ n → n ≤ limit_of terms → IsSome terms
limited None n least most = absurd (omega (arith, least, most))
limited (Some terms) n least most = refl

pub memo_has_terms : (rows : Rows) (key : MemoKey) (memo : MemoFields) → Sound rows → get rows.memos key ≡ Some memo → IsSome rows.published.terms
memo_has_terms rows key memo s there =
    limited rows.published.terms (count_by (is_issued_to memo.agent key.airline) (entries rows.memos))
    (some_counted (is_issued_to memo.agent key.airline) (entries rows.memos) (key, memo) (get_entry memo_total memo_exact rows.memos key memo there)
    (and_from (memo.agent == memo.agent) (key.airline == key.airline) (eq-eqb memo.agent memo.agent refl) (eq-eqb key.airline key.airline refl)))
    (s.memos.limit memo.agent key.airline)

passing_by : {X : Type 0} (v w : X) (b : Bool) → cond b (Some w) None ≡ Some v → Some w ≡ Some v
passing_by v w true h = h
passing_by v w false h = absurd (cc h)

-- what passes a test is there
pub passed : {K X : Type 0} (test : K × X → Bool) (k : K) (found : Option X) (v : X) → passing test k found ≡ Some v → found ≡ Some v
passed test k None v h = h
passed test k (Some w) v h = passing_by v w (test (k, w)) h
