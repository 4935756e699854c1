-- Each change of a desk keeps the rows sound.
use Rattle.std.proofs.Common.{◌≡◌, ℕ, ◌+◌, ◌<◌, ◌≤◌, Bool, true, false, cond, List, [], ◌∷◌, map, count_by, length, Option, Some, None, is_some, Result, Ok, Err, option_map, refl, sym, ap, subst, ◌∙◌, arith, if◌then◌else◌}
use Rattle.std.specs.FinMap.{FinMap, get, insert, entries, empty, get-empty, len-empty, len-entries}
use Rattle.std.specs.Ordering.{nat_cmp}
use Rattle.std.specs.declared.cmp.Ordering.{Ordering}
use Rattle.std.proofs.lemmas.List.Sums.{count_by-le-length}
use Rattle.std.proofs.lemmas.Bool.{both_ways}
use Rattle.bsp_fields.specs.CivilDay.{CivilDay}
use Rattle.bsp_fields.specs.Days.{day_number}
use Rattle.bsp_calendar.specs.History.{Request, outcome}
use Rattle.bsp_calendar.specs.History.Request.{Close}
use Rattle.bsp_calendar.specs.Published.{Published, is_closed}
use Rattle.bsp_calendar.specs.declared.entries.Terms.{Terms}
use Rattle.bsp_calendar.specs.declared.fault.PlanFault.{PlanFault}
use Rattle.bsp_calendar.proofs.DayLemmas.{up_to_itself}
use Rattle.bsp_calendar.proofs.GrowsLemmas.{grows_itself, just_closed, request_grows}
use Rattle.bsp_calendar.proofs.SoundLemmas.{opening_sound, sound_kept}
use Rattle.bsp_rules.specs.Rows.{is_canx}
use Rattle.bsp_rules.proofs.MeaningLemmas.{accepted_is_passed}
use Rattle.bsp_rules.specs.declared.rows.Item.{Item}
use Rattle.bsp_memos.specs.Billing.{admits, billed_in}
use Rattle.bsp_memos.specs.Lives.{Closed, after_action, after_event}
use Rattle.bsp_memos.specs.Steps.{answer_to}
use Rattle.bsp_memos.specs.declared.state.MemoState.TheVariants.{Open}
use Rattle.bsp_rules.specs.Verdicts.{limit_of}
use Rattle.bsp_memos.specs.declared.fields.MemoFields.{MemoFields}
use Rattle.bsp_memos.proofs.KeptLemmas.{issue_sound}
use Rattle.bsp_memos.proofs.StepLemmas.{issue-left_by}
use Rattle.bsp_rows.specs.Rows.{Rows, no_rows, item_cmp, range_cmp, memo_cmp, key_of, memo_key, range_key}
use Rattle.bsp_rows.specs.Writes.{with_item, with_range, without_range, plan_left, changed_to}
use Rattle.bsp_rows.specs.declared.keys.ItemKey.{ItemKey}
use Rattle.bsp_rows.specs.declared.keys.MemoKey.{MemoKey}
use Rattle.bsp_rows.specs.Sound.{Sound, IsSoundMemo, AreSoundMemos, is_counted, is_issued_to}
use Rattle.bsp_rows.specs.Changes.{sale_key, ended_where, after_accepted, facts_at, each, with_value}
use Rattle.bsp_rows.specs.Laws.{AcceptedIsFree, AcceptedIsSound, ActionIsSound, AgentIsSound, AirlineIsSound, BillingIsSound, CloseHasTerms, CloseIsSound, IssueIsSound, RangeIsSound, RequestIsSound, WithdrawalIsSound}
use Rattle.bsp_rows.proofs.ClearedLemmas.{IsCleared, cleared}
use Rattle.bsp_rows.proofs.CountLemmas.{issued_counted}
use Rattle.bsp_rows.proofs.ItemLemmas.{items_kept}
use Rattle.bsp_rows.proofs.KeyOrders.{memo_total, memo_exact}
use Rattle.bsp_rows.proofs.MapLemmas.{get_written, same_Some, counted}
use Rattle.bsp_rows.proofs.MemoLemmas.{memos_grow, memo_added, memo_billed, memo_acted}
use Rattle.bsp_rows.proofs.PartLemmas.{each_get, each_entries}
use Rattle.bsp_rows.proofs.StockLemmas.{items_beside, known_still, none_apart, ranges_known, ranges_added, has_still, ranges_withdrawn, in_stock_still}
use Rattle.bsp_rows.proofs.TakenLemmas.{fate, mid_at}

-- ---- an accepted transaction

items_alone : (canx : Bool) (k : ItemKey) (rows : Rows) → ended_where canx k rows ≡ record rows { items = (ended_where canx k rows).items }
items_alone true k rows = refl
items_alone false k rows = refl

pub accepted_sound : AcceptedIsSound
accepted_sound reporter rows item s a =
    let passed = (accepted_is_passed reporter item.transaction (facts_at item.agent item.transaction rows) rows.published item.period).0 a.accepted in
    let c = cleared reporter rows item s.items a.group passed in
    let kept = items_kept rows item s.items s.plan.periods c a.group a.bears a.as_accepted in
    let same : after_accepted item rows ≡ record rows { items = (after_accepted item rows).items } = ap (with_item item) (items_alone (is_canx item) (sale_key item) rows) in
    subst Sound (sym same) (record { plan = s.plan; ranges = s.ranges; items = kept; memos = s.memos })

free_by : (rows : Rows) (item : Item) → IsCleared rows item → (found : Option Item) → get rows.items (key_of item) ≡ found → get rows.items (key_of item) ≡ None
free_by rows item c None is = is
free_by rows item c (Some i) is = let both = c.free (key_of item) i is refl refl in absurd (both_ways (is_canx item) both.1 both.0)

pub accepted_free : AcceptedIsFree
accepted_free reporter rows item s a =
    let passed = (accepted_is_passed reporter item.transaction (facts_at item.agent item.transaction rows) rows.published item.period).0 a.accepted in
    let c = cleared reporter rows item s.items a.group passed in
    mid_at rows (sale_key item) (key_of item) (is_canx item) ∙ ap (option_map (fate item (key_of item))) (free_by rows item c (get rows.items (key_of item)) refl)

-- ---- the plan

planned : (rows : Rows) (r : Request) (m : Published) → Sound rows → outcome rows.published r ≡ Ok m → Sound (record rows { published = m })
planned rows r m s h =
    let g = request_grows rows.published r m s.plan h in
    record {
      plan = sound_kept rows.published r m s.plan h;
      ranges = s.ranges;
      items = items_beside rows.published m rows.agents rows.agents rows.ranges rows.ranges rows.items s.items g (λ a k. k) (λ k i at h. h);
      memos = memos_grow rows.published m rows.agents rows.memos g s.memos;
    }

answered : (rows : Rows) (r : Request) (o : Result Published PlanFault) → outcome rows.published r ≡ o → Sound rows → Sound (record rows { published = plan_left rows.published o })
answered rows r (Ok m) h s = planned rows r m s h
answered rows r (Err fault) h s = s

pub request_sound : RequestIsSound
request_sound rows r s = answered rows r (outcome rows.published r) refl s

-- ---- memos

pub billing_sound : BillingIsSound
billing_sound rows key memo code terms s there t closed h =
    let kept = memo_billed rows.published rows.agents rows.memos s.memos key memo code terms there t closed h in
    subst (λ (found : Option MemoFields). Sound (record rows { memos = changed_to (billed_in code) key found rows.memos })) (sym there) (record { plan = s.plan; ranges = s.ranges; items = s.items; memos = kept })

pub issue_sound_rows : IssueIsSound
issue_sound_rows rows airline document agent kind amount reason s right free known below =
    let both = issue_sound airline document agent kind amount reason rows.published.day right in
    let memo : MemoFields = record { airline = airline; document = document; agent = agent; kind = kind; amount = amount; issued_amount = amount; reason = reason; issued = rows.published.day; state = Open; billed = None } in
    let few : count_by (is_issued_to agent airline) (entries rows.memos) < limit_of rows.published.terms = subst (λ (n : ℕ). n < limit_of rows.published.terms) (issued_counted agent airline rows) below in
    record {
      plan = s.plan;
      ranges = s.ranges;
      items = s.items;
      memos = memo_added rows.published rows.agents rows.memos s.memos (memo_key memo) memo free (record {
        keyed = refl;
        fit = both.1;
        registered = known;
        issued = up_to_itself (day_number rows.published.day);
        billed = λ period e. absurd (cc e);
      }) few;
    }

pub action_sound : ActionIsSound
action_sound rows memo action day review s there =
    let kept = issue-left_by (answer_to memo action day review) action memo in
    let same : memo_key memo ≡ memo_key (after_action review action day memo) = λ i. record { airline = sym kept.airline i; document = sym kept.document i } in
    subst (λ (k : MemoKey). Sound (record rows { memos = insert rows.memos k (after_action review action day memo) })) same
    (record { plan = s.plan; ranges = s.ranges; items = s.items; memos = memo_acted rows.published rows.agents rows.memos s.memos (memo_key memo) memo action day review there })

-- ---- a close

module _ (p : Published) (agents : FinMap nat_cmp (List ℕ)) (memos : FinMap memo_cmp MemoFields) (s : AreSoundMemos p agents memos) (code : ℕ) (terms : Terms)
    (there : p.terms ≡ Some terms) (closed : is_closed p code ≡ true) where
  abbrev left : MemoFields → MemoFields
  left m = after_event terms.review_days (Closed code p.day) m

  left_by : (k : MemoKey) (m : MemoFields) → get memos k ≡ Some m → (due : Bool) → admits m p.day terms.review_days ≡ due → IsSoundMemo p agents k (if due then billed_in code m else m)
  left_by k m at true h = (memo_billed p agents memos s k m code terms at there closed h).each k (billed_in code m) (get_written memo_total memo_exact memos k (billed_in code m))
  left_by k m at false h = s.each k m at

  found_left : (k : MemoKey) (v : MemoFields) (found : Option MemoFields) → get memos k ≡ found → option_map left found ≡ Some v → IsSoundMemo p agents k v
  found_left k v None at h = absurd (cc h)
  found_left k v (Some m) at h = subst (λ (x : MemoFields). IsSoundMemo p agents k x) (same_Some (left m) v h) (left_by k m at (admits m p.day terms.review_days) refl)

  same_parties : (agent airline : ℕ) (e : MemoKey × MemoFields) (due : Bool) → is_issued_to agent airline (e.0, (if due then billed_in code e.1 else e.1)) ≡ is_issued_to agent airline e
  same_parties agent airline e true = refl
  same_parties agent airline e false = refl

  same_count : (agent airline : ℕ) (es : List (MemoKey × MemoFields)) → count_by (is_issued_to agent airline) (map (with_value left) es) ≡ count_by (is_issued_to agent airline) es
  same_count agent airline [] = refl
  same_count agent airline (e ∷ es) =
      counted (is_issued_to agent airline) (with_value left e) (map (with_value left) es)
      ∙ ((λ i. cond (same_parties agent airline e (admits e.1 p.day terms.review_days) i) 1 0 + same_count agent airline es i)
      ∙ sym (counted (is_issued_to agent airline) e es))

  memos_closed : AreSoundMemos p agents (each left memos)
  memos_closed = record {
    each = λ k v h. found_left k v (get memos k) refl (sym (each_get memo_total memo_exact left memos k) ∙ h);
    limit = λ agent airline. subst (λ (n : ℕ). n ≤ limit_of p.terms) (sym (ap (count_by (is_issued_to agent airline)) (each_entries memo_total memo_exact left memos) ∙ same_count agent airline (entries memos))) (s.limit agent airline);
  }

pub close_sound : CloseIsSound
close_sound rows code m terms s unclosed h there =
    let now = just_closed rows.published code m s.plan unclosed h in
    let after = planned rows (Close code) m s h in
    let (t, kept, was) = now.terms in
    let published : m.terms ≡ Some terms = kept ∙ (sym was ∙ there) in
    subst (λ (d : CivilDay). Sound (record rows { published = m; memos = each (after_event terms.review_days (Closed code d)) rows.memos })) now.day
    (record { plan = after.plan; ranges = after.ranges; items = after.items; memos = memos_closed m rows.agents rows.memos after.memos code terms published now.closed })

pub close_terms : CloseHasTerms
close_terms rows code m s unclosed h = let (t, kept, was) = (just_closed rows.published code m s.plan unclosed h).terms in ap is_some was

-- ---- stock

pub range_sound : RangeIsSound
range_sound rows agent range s known numbers apart = record {
  plan = s.plan;
  ranges = ranges_added rows agent range s.ranges.apart numbers apart rows.agents s.ranges known;
  items = items_beside rows.published rows.published rows.agents rows.agents rows.ranges (with_range agent range rows).ranges rows.items s.items (grows_itself rows.published) (λ a k. k) (λ k i at h. record { key = h.key; own = h.own; has = has_still rows agent range s.ranges.apart numbers apart h.key k.number h.has });
  memos = s.memos;
}

pub withdrawal_sound : WithdrawalIsSound
withdrawal_sound rows agent range s there unused = record {
  plan = s.plan;
  ranges = ranges_withdrawn rows.ranges (range_key agent range) rows.agents s.ranges;
  items = items_beside rows.published rows.published rows.agents rows.agents rows.ranges (without_range agent range rows).ranges rows.items s.items (grows_itself rows.published) (λ a k. k) (in_stock_still rows agent range there unused);
  memos = s.memos;
}

-- ---- registration

pub agent_sound : AgentIsSound
agent_sound rows agent token s =
    let known = known_still rows.agents agent token in
    record {
      plan = s.plan;
      ranges = ranges_known rows.agents (insert rows.agents agent token) rows.ranges s.ranges known;
      items = items_beside rows.published rows.published rows.agents (insert rows.agents agent token) rows.ranges rows.ranges rows.items s.items (grows_itself rows.published) known (λ k i at h. h);
      memos = record {
        each = λ k m h. let o = s.memos.each k m h in record { keyed = o.keyed; fit = o.fit; registered = known m.agent o.registered; issued = o.issued; billed = o.billed };
        limit = s.memos.limit;
      };
    }

pub airline_sound : AirlineIsSound
airline_sound rows airline token s = record { plan = s.plan; ranges = s.ranges; items = s.items; memos = s.memos }

-- ---- no rows

none_at : {K X P : Type 0} (R : K → K → Ordering) (k : K) (x : X) → get (empty {X = X} {R = R}) k ≡ Some x → P
none_at {X = X} R k x h = absurd (cc (sym (get-empty {X = X} R k) ∙ h))

none_counted : {K X : Type 0} (R : K → K → Ordering) (test : K × X → Bool) → count_by test (entries (empty {X = X} {R = R})) ≤ 0
none_counted {X = X} R test =
    let few = count_by-le-length test (entries (empty {X = X} {R = R})) in
    let none : length (entries (empty {X = X} {R = R})) ≡ 0 = sym (len-entries (empty {X = X} {R = R})) ∙ len-empty R X in
    omega (arith, few, none)

pub no_rows_sound : Sound no_rows
no_rows_sound = record {
  plan = opening_sound;
  ranges = record {
    registered = λ k last h. none_at range_cmp k last h;
    apart = none_apart;
  };
  items = record {
    each = λ k i h. none_at item_cmp k i h;
    related_once = λ k l i j number h g e r t. none_at item_cmp k i h;
    related_lives = λ k l i j h g e c. none_at item_cmp k i h;
    documents = λ agent airline period. none_counted item_cmp (is_counted agent airline period);
  };
  memos = record {
    each = λ k m h. none_at memo_cmp k m h;
    limit = λ agent airline. none_counted memo_cmp (is_issued_to agent airline);
  };
}
