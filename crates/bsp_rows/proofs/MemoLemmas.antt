-- What keeps the memos sound: a request for the plan, a billing, an action, an issue.
use Rattle.std.proofs.Common.{◌≡◌, ℕ, ◌+◌, ◌<◌, ◌≤◌, ◌==◌, Bool, true, false, ◌&&◌, cond, List, [], ◌∷◌, count_by, Option, Some, None, is_some, IsSome, refl, sym, ap, subst, ◌∙◌, arith}
use Rattle.std.specs.FinMap.{FinMap, get, insert, entries}
use Rattle.std.specs.Ordering.{nat_cmp, eq_by_cmp}
use Rattle.std.proofs.lemmas.Bool.{and_parts, eqb-true}
use Rattle.bsp_fields.specs.CivilDay.{CivilDay}
use Rattle.bsp_calendar.specs.DayOrder.{is_up_to}
use Rattle.bsp_calendar.specs.Published.{Published, is_closed}
use Rattle.bsp_calendar.specs.declared.entries.Terms.{Terms}
use Rattle.bsp_rules.specs.Verdicts.{limit_of}
use Rattle.bsp_rules.proofs.TaxLemmas.{up_to_later}
use Rattle.bsp_memos.specs.declared.fields.MemoFields.{MemoFields}
use Rattle.bsp_memos.specs.Billing.{admits, billed_in}
use Rattle.bsp_memos.specs.Lives.{Acted, after_action}
use Rattle.bsp_memos.specs.Steps.{Action, answer_to}
use Rattle.bsp_memos.proofs.FitLemmas.{is_memo-after_action, is_memo-billed_in}
use Rattle.bsp_memos.proofs.KeptLemmas.{billed_unchanged, right_at_close, right_later}
use Rattle.bsp_memos.proofs.StepLemmas.{issue-left_by, billed-left_by}
use Rattle.bsp_rows.specs.declared.keys.MemoKey.{MemoKey}
use Rattle.bsp_rows.specs.Rows.{memo_cmp}
use Rattle.bsp_rows.proofs.KeyOrders.{memo_total, memo_exact}
use Rattle.bsp_rows.specs.Sound.{IsSoundBilling, IsSoundMemo, AreSoundMemos, is_issued_to}
use Rattle.bsp_rows.proofs.MapLemmas.{get_written, get_other, same_key, same_Some, count_added, count_changed}
use Rattle.bsp_calendar.specs.SoundPlan.{Grows}

-- ---- the limit

limit_by : (o : Option Terms) (m : Published) → ((t : Terms) → o ≡ Some t → m.terms ≡ Some t) → limit_of o ≤ limit_of m.terms
limit_by None m h = omega arith
limit_by (Some t) m h = let e : limit_of m.terms ≡ limit_of (Some t) = ap limit_of (h t refl) in omega (arith, e)

pub limit_grows : (p m : Published) → Grows p m → (n : ℕ) → n ≤ limit_of p.terms → n ≤ limit_of m.terms
limit_grows p m g n h = let up = limit_by p.terms m g.terms in omega (arith, up, h)

-- ---- the day moves on

billing_grows : (p m : Published) → Grows p m → (memo : MemoFields) (period : ℕ) → IsSoundBilling p memo period → IsSoundBilling m memo period
billing_grows p m g memo period b = record {
  closed = g.closed period b.closed;
  terms = b.terms;
  there = g.terms b.terms b.there;
  rightly = right_later b.terms.review_days p.day m.day memo g.day b.rightly;
}

-- a request for the plan keeps the memos
pub memos_grow : (p m : Published) (agents : FinMap nat_cmp (List ℕ)) (memos : FinMap memo_cmp MemoFields) → Grows p m → AreSoundMemos p agents memos → AreSoundMemos m agents memos
memos_grow p m agents memos g s = record {
  each = λ k memo h. let o = s.each k memo h in record {
    keyed = o.keyed;
    fit = o.fit;
    registered = o.registered;
    issued = up_to_later memo.issued p.day m.day o.issued g.day;
    billed = λ period e. billing_grows p m g memo period (o.billed period e);
  };
  limit = λ agent airline. limit_grows p m g _ (s.limit agent airline);
}

-- ---- a memo changed, and a memo added

module _ (p : Published) (agents : FinMap nat_cmp (List ℕ)) (memos : FinMap memo_cmp MemoFields) (s : AreSoundMemos p agents memos) where
  at_key : (key k : MemoKey) (new memo : MemoFields) → IsSoundMemo p agents key new → get (insert memos key new) k ≡ Some memo → (b : Bool) → eq_by_cmp memo_cmp k key ≡ b → IsSoundMemo p agents k memo
  at_key key k new memo n h true same =
      let is : k ≡ key = same_key memo_exact k key same in
      let it : new ≡ memo = same_Some new memo (sym (get_written memo_total memo_exact memos key new) ∙ (sym (ap (get (insert memos key new)) is) ∙ h)) in
      subst (λ (x : MemoKey × MemoFields). IsSoundMemo p agents x.0 x.1) {x = (key, new)} {y = (k, memo)} (λ i. (sym is i, it i)) n
  at_key key k new memo n h false same = s.each k memo (sym (get_other memo_total memo_exact memos key k new same) ∙ h)

  pub memo_changed : (key : MemoKey) (old new : MemoFields) → get memos key ≡ Some old → IsSoundMemo p agents key new → new.agent ≡ old.agent → AreSoundMemos p agents (insert memos key new)
  memo_changed key old new there n same = record {
    each = λ k memo h. at_key key k new memo n h (eq_by_cmp memo_cmp k key) refl;
    limit = λ agent airline. subst (λ (c : ℕ). c ≤ limit_of p.terms) (sym (count_changed memo_total memo_exact (is_issued_to agent airline) memos key new old there (ap (λ (a : ℕ). (a == agent) && (key.airline == airline)) same))) (s.limit agent airline);
  }

  added_by : (key : MemoKey) (new : MemoFields) → count_by (is_issued_to new.agent key.airline) (entries memos) < limit_of p.terms → (agent airline : ℕ) (b : Bool) → is_issued_to agent airline (key, new) ≡ b → cond b 1 0 + count_by (is_issued_to agent airline) (entries memos) ≤ limit_of p.terms
  added_by key new below agent airline true is =
      let both = and_parts (new.agent == agent) (key.airline == airline) is in
      let a : agent ≡ new.agent = sym (eqb-true new.agent agent both.0) in
      let l : airline ≡ key.airline = sym (eqb-true key.airline airline both.1) in
      let n : count_by (is_issued_to agent airline) (entries memos) ≡ count_by (is_issued_to new.agent key.airline) (entries memos) = λ i. count_by (is_issued_to (a i) (l i)) (entries memos) in
      rw n (omega (arith, below))
  added_by key new below agent airline false is = let within = s.limit agent airline in omega (arith, within)

  -- an issue, where the airline has fewer memos to the agent than the limit
  pub memo_added : (key : MemoKey) (new : MemoFields) → get memos key ≡ None → IsSoundMemo p agents key new → count_by (is_issued_to new.agent key.airline) (entries memos) < limit_of p.terms → AreSoundMemos p agents (insert memos key new)
  memo_added key new free n below = record {
    each = λ k memo h. at_key key k new memo n h (eq_by_cmp memo_cmp k key) refl;
    limit = λ agent airline. subst (λ (c : ℕ). c ≤ limit_of p.terms) (sym (count_added memo_total memo_exact (is_issued_to agent airline) memos key new free)) (added_by key new below agent airline (is_issued_to agent airline (key, new)) refl);
  }

  -- a billing in a closed period of a memo that a close on the business day admits
  pub memo_billed : (key : MemoKey) (memo : MemoFields) (period : ℕ) (terms : Terms) → get memos key ≡ Some memo → p.terms ≡ Some terms → is_closed p period ≡ true → admits memo p.day terms.review_days ≡ true → AreSoundMemos p agents (insert memos key (billed_in period memo))
  memo_billed key memo period terms there t closed h =
      let o = s.each key memo there in
      memo_changed key memo (billed_in period memo) there (record {
        keyed = o.keyed;
        fit = is_memo-billed_in terms.review_days period p.day memo o.fit h;
        registered = o.registered;
        issued = o.issued;
        billed = λ other e. record {
          closed = subst (λ (x : ℕ). is_closed p x ≡ true) (same_Some period other e) closed;
          terms = terms;
          there = t;
          rightly = right_at_close terms.review_days period p.day memo h;
        };
      }) refl

  -- an action of the agent or of the airline
  pub memo_acted : (key : MemoKey) (memo : MemoFields) (action : Action) (day : CivilDay) (review : ℕ) → get memos key ≡ Some memo → AreSoundMemos p agents (insert memos key (after_action review action day memo))
  memo_acted key memo action day review there =
      let o = s.each key memo there in
      let kept = issue-left_by (answer_to memo action day review) action memo in
      let same : (after_action review action day memo).billed ≡ memo.billed = billed-left_by (answer_to memo action day review) action memo in
      memo_changed key memo (after_action review action day memo) there (record {
        keyed = (λ i. record { airline = kept.airline i; document = kept.document i }) ∙ o.keyed;
        fit = is_memo-after_action review action day memo o.fit;
        registered = subst (λ (a : ℕ). IsSome (get agents a)) (sym kept.agent) o.registered;
        issued = subst (λ (d : CivilDay). is_up_to d p.day ≡ true) (sym kept.issued) o.issued;
        billed = λ period e.
            let was : memo.billed ≡ Some period = sym same ∙ e in
            let stays : after_action review action day memo ≡ memo = billed_unchanged review (Acted action day ∷ []) memo o.fit (ap is_some was) in
            subst (λ (x : MemoFields). IsSoundBilling p x period) (sym stays) (o.billed period was);
      }) kept.agent
