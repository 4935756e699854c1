-- What each write of the rows is to one agent's ledger.
use Rattle.std.proofs.Common.{◌≡◌, ℕ, ◌==◌, Bool, true, false, cond, List, [], ◌∷◌, ◌++◌, Option, Some, None, refl, sym, ap, subst, ◌∙◌}
use Rattle.std.specs.Ordering.{nat_cmp, eq_by_cmp}
use Rattle.std.specs.Cmp.{nat_cmp_total}
use Rattle.std.specs.FinMap.{FinMap, get, insert, remove, nat_cmp-IsAntisymmetric}
use Rattle.std.specs.Option.{unwrap_or}
use Rattle.std.proofs.lemmas.Bool.{eqb-true, eq-eqb, both_ways}
use Rattle.bsp_rows.specs.CivilDay.{CivilDay}
use Rattle.bsp_rows.specs.Published.{Published, target_of}
use Rattle.bsp_rows.specs.History.Request.{Close}
use Rattle.bsp_rows.specs.Transaction.{Transaction}
use Rattle.bsp_rows.specs.RulesRows.{is_canx}
use Rattle.bsp_rows.specs.Item.{Item}
use Rattle.bsp_rows.specs.Range.{Range}
use Rattle.bsp_rows.specs.Reporter.TheVariants.{Office, Agent}
use Rattle.bsp_rows.specs.Verdict.{Verdict}
use Rattle.bsp_rows.specs.Verdict.TheVariants as verdict
use Rattle.bsp_rows.specs.Lives.{after_event, after_action}
use Rattle.bsp_rows.specs.Lives.Event.{Closed}
use Rattle.bsp_rows.specs.Billing.{admits, billed_in}
use Rattle.bsp_rows.specs.Steps.{Action, answer_to}
use Rattle.bsp_rows.specs.MemoFields.{MemoFields}
use Rattle.bsp_rows.proofs.StepLemmas.{issue-left_by}
use Rattle.bsp_rows.specs.declared.keys.ItemKey.{ItemKey}
use Rattle.bsp_rows.specs.declared.keys.MemoKey.{MemoKey}
use Rattle.bsp_rows.specs.declared.keys.RangeKey.{RangeKey}
use Rattle.bsp_rows.specs.Part.{kept}
use Rattle.bsp_rows.specs.Rows.{Rows, range_cmp, item_cmp, memo_cmp, key_of, range_key, memo_key}
use Rattle.bsp_rows.specs.Writes.{after_request, ended, changed, with_agent_token, with_range, without_range, with_memo, with_item}
use Rattle.bsp_rows.proofs.KeyOrders.{range_total, range_exact, item_total, item_exact, memo_exact}
use Rattle.bsp_rows.specs.Changes.{sale_key, ended_where, after_accepted}
use Rattle.bsp_rows.proofs.KeyOrders.{memo_total}
use Rattle.bsp_rows.proofs.MapLemmas.{same_key, get_written, get_other}
use Rattle.bsp_rows.proofs.MeaningLemmas.{accepted_is_passed}
use Rattle.bsp_office_spec.specs.Ledger.{Ledger, ledger_of, ended_in, taken, with_own_item, new_item, own_verdict, own_verdicts, ledger_judged, ledger_filed, ledger_acted, review_of}
use Rattle.bsp_office_spec.specs.Step.{joined, bearer, reporter, rows_judged, rows_filed, office_verdict, office_verdict_for, office_verdicts, with_close, with_action}
use Rattle.bsp_office_spec.specs.View.{Sight, ledger_after, ledger_all, ledger_planned, if_own, reported_one, reported_in}
use Rattle.bsp_office_spec.specs.View.Sight.{Reported, Registered, Allotted, Withdrew, Issued}
use Rattle.bsp_rows.proofs.PartLemmas.{passing, kept_get, kept_insert, kept_beside, kept_remove, kept_remove_beside, kept_changed, kept_each, changed_none}
use Rattle.bsp_messages.specs.declared.airline_bodies.MemoIssue.{MemoIssue}
use Rattle.bsp_office_spec.specs.AirlineLedger.{new_memo}
use Rattle.bsp_office_spec.specs.Ledger.{agent_of}

-- ---- whose entry it is

abbrev pub own_range : ℕ → RangeKey × ℕ → Bool
own_range agent e = e.0.agent == agent

abbrev pub own_item : ℕ → ItemKey × Item → Bool
own_item agent e = e.0.agent == agent

abbrev pub own_memo : ℕ → MemoKey × MemoFields → Bool
own_memo agent e = e.1.agent == agent

pub passing_none : {K X : Type 0} (test : K × X → Bool) (k : K) → ((v : X) → test (k, v) ≡ false) → (found : Option X) → passing test k found ≡ None
passing_none test k h None = refl
passing_none test k h (Some v) = ap (λ c. cond c (Some v) None) (h v)

-- a ledger of its five tables
abbrev pub tables : Option (List ℕ) → FinMap range_cmp ℕ → FinMap item_cmp Item → FinMap memo_cmp MemoFields → Published → Ledger
tables token ranges items memos published = record { own = record { token = token; ranges = ranges; items = items; memos = memos }; published = published }

-- ---- registration

pub other_key : (a b : ℕ) → (b == a) ≡ false → (c : Bool) → eq_by_cmp nat_cmp a b ≡ c → eq_by_cmp nat_cmp a b ≡ false
other_key a b h true is = absurd (both_ways (b == a) h (eq-eqb b a (sym (same_key nat_cmp-IsAntisymmetric a b is))))
other_key a b h false is = is

pub registered_own : (a b : ℕ) (token : List ℕ) (rows : Rows) → (b == a) ≡ true → ledger_of a (with_agent_token b token rows) ≡ ledger_after a (ledger_of a rows) (Registered token)
registered_own a b token rows h =
    let there : get (insert rows.agents b token) a ≡ Some token = ap (λ (x : ℕ). get (insert rows.agents x token) a) (eqb-true b a h) ∙ get_written nat_cmp_total nat_cmp-IsAntisymmetric rows.agents a token in
    ap (λ t. tables t (kept (own_range a) rows.ranges) (kept (own_item a) rows.items) (kept (own_memo a) rows.memos) rows.published) there

pub registered_other : (a b : ℕ) (token : List ℕ) (rows : Rows) → (b == a) ≡ false → ledger_of a (with_agent_token b token rows) ≡ ledger_of a rows
registered_other a b token rows h =
    ap (λ t. tables t (kept (own_range a) rows.ranges) (kept (own_item a) rows.items) (kept (own_memo a) rows.memos) rows.published)
    (get_other nat_cmp_total nat_cmp-IsAntisymmetric rows.agents b a token (other_key a b h (eq_by_cmp nat_cmp a b) refl))

-- ---- stock

with_ranges : ℕ → Rows → FinMap range_cmp ℕ → Ledger
with_ranges a rows ranges = tables (get rows.agents a) ranges (kept (own_item a) rows.items) (kept (own_memo a) rows.memos) rows.published

pub allotted_own : (a b : ℕ) (range : Range) (rows : Rows) → (b == a) ≡ true → ledger_of a (with_range b range rows) ≡ ledger_after a (ledger_of a rows) (Allotted range)
unfolding with_ranges
allotted_own a b range rows h =
    ap (with_ranges a rows) (kept_insert range_total range_exact (own_range a) rows.ranges (range_key b range) range.last h
    ∙ ap (λ (x : ℕ). insert (kept (own_range a) rows.ranges) (range_key x range) range.last) (eqb-true b a h))

pub allotted_other : (a b : ℕ) (range : Range) (rows : Rows) → (b == a) ≡ false → ledger_of a (with_range b range rows) ≡ ledger_of a rows
unfolding with_ranges
allotted_other a b range rows h =
    ap (with_ranges a rows) (kept_beside range_total range_exact (own_range a) rows.ranges (range_key b range) range.last h (passing_none (own_range a) (range_key b range) (λ v. h) (get rows.ranges (range_key b range))))

pub withdrawn_own : (a b : ℕ) (range : Range) (rows : Rows) → (b == a) ≡ true → ledger_of a (without_range b range rows) ≡ ledger_after a (ledger_of a rows) (Withdrew range)
unfolding with_ranges
withdrawn_own a b range rows h =
    ap (with_ranges a rows) (kept_remove range_total range_exact (own_range a) rows.ranges (range_key b range)
    ∙ ap (λ (x : ℕ). remove (kept (own_range a) rows.ranges) (range_key x range)) (eqb-true b a h))

pub withdrawn_other : (a b : ℕ) (range : Range) (rows : Rows) → (b == a) ≡ false → ledger_of a (without_range b range rows) ≡ ledger_of a rows
unfolding with_ranges
withdrawn_other a b range rows h =
    ap (with_ranges a rows) (kept_remove_beside range_total range_exact (own_range a) rows.ranges (range_key b range) (passing_none (own_range a) (range_key b range) (λ v. h) (get rows.ranges (range_key b range))))

-- ---- the plan

closed_keeps : (review period : ℕ) (day : CivilDay) (a : ℕ) (m : MemoFields) → own_memo a (memo_key m, after_event review (Closed period day) m) ≡ own_memo a (memo_key m, m)
closed_keeps review period day a m = by (admits m day review) where
  by : (b : Bool) → own_memo a (memo_key m, cond b (billed_in period m) m) ≡ own_memo a (memo_key m, m)
  by true = refl
  by false = refl

with_memos : ℕ → Rows → Published → FinMap memo_cmp MemoFields → Ledger
with_memos a rows p memos = tables (get rows.agents a) (kept (own_range a) rows.ranges) (kept (own_item a) rows.items) memos p

pub closed_seen : (a period : ℕ) (rows : Rows) → ledger_of a (with_close period rows) ≡ ledger_planned (Close period) (ledger_of a rows)
unfolding with_memos
closed_seen a period rows =
    ap (with_memos a rows (after_request (Close period) rows).published)
    (kept_each memo_total memo_exact (own_memo a) (after_event (review_of rows.published.terms) (Closed period rows.published.day)) rows.memos (λ k v. closed_keeps (review_of rows.published.terms) period rows.published.day a v))

-- ---- memos

pub acted_seen : (a : ℕ) (action : Action) (key : MemoKey) (rows : Rows) → ledger_of a (with_action action key rows) ≡ ledger_acted action key (ledger_of a rows)
unfolding with_memos
acted_seen a action key rows =
    ap (with_memos a rows rows.published)
    (kept_changed memo_total memo_exact (own_memo a) (after_action (review_of rows.published.terms) action rows.published.day) key rows.memos
    (λ v. ap (λ (n : ℕ). n == a) (issue-left_by (answer_to v action rows.published.day (review_of rows.published.terms)) action v).agent))

-- on a memo that is not the agent's
pub acted_beside : (action : Action) (key : MemoKey) (l : Ledger) → get l.own.memos key ≡ None → ledger_acted action key l ≡ l
acted_beside action key l h =
    ap (λ memos. tables l.own.token l.own.ranges l.own.items memos l.published) (changed_none memo_total memo_exact (after_action (review_of l.published.terms) action l.published.day) key l.own.memos h)

pub issued_own : (a b airline : ℕ) (issue : MemoIssue) (rows : Rows) → (b == a) ≡ true → ledger_of a (with_memo (new_memo airline b issue rows.published.day) rows) ≡ ledger_after a (ledger_of a rows) (Issued airline issue)
unfolding with_memos
issued_own a b airline issue rows h =
    ap (with_memos a rows rows.published)
    (kept_insert memo_total memo_exact (own_memo a) rows.memos (memo_key (new_memo airline b issue rows.published.day)) (new_memo airline b issue rows.published.day) h
    ∙ ap (λ (x : ℕ). insert (kept (own_memo a) rows.memos) (memo_key (new_memo airline x issue rows.published.day)) (new_memo airline x issue rows.published.day)) (eqb-true b a h))

pub issued_other : (a b airline : ℕ) (issue : MemoIssue) (rows : Rows) → (b == a) ≡ false → get rows.memos (memo_key (new_memo airline b issue rows.published.day)) ≡ None → ledger_of a (with_memo (new_memo airline b issue rows.published.day) rows) ≡ ledger_of a rows
unfolding with_memos
issued_other a b airline issue rows h free =
    ap (with_memos a rows rows.published)
    (kept_beside memo_total memo_exact (own_memo a) rows.memos (memo_key (new_memo airline b issue rows.published.day)) (new_memo airline b issue rows.published.day) h
    (ap (passing (own_memo a) (memo_key (new_memo airline b issue rows.published.day))) free))

-- ---- accepted transactions

with_items : ℕ → Rows → FinMap item_cmp Item → Ledger
with_items a rows items = tables (get rows.agents a) (kept (own_range a) rows.ranges) items (kept (own_memo a) rows.memos) rows.published

taken_by : (item : Item) (rows : Rows) (canx : Bool) → with_item item (ended_where canx (sale_key item) rows) ≡ record rows { items = insert (cond canx (ended_where true (sale_key item) rows).items rows.items) (key_of item) item }
taken_by item rows true = refl
taken_by item rows false = refl

pub taken_is : (item : Item) (rows : Rows) → after_accepted item rows ≡ record rows { items = taken item rows.items }
taken_is item rows = taken_by item rows (is_canx item)

canx_ended : Item → FinMap item_cmp Item → FinMap item_cmp Item
canx_ended item items = changed ended (sale_key item) items

kept_ended_by : (a : ℕ) (item : Item) (items : FinMap item_cmp Item) (b : Bool) → kept (own_item a) (cond b (canx_ended item items) items) ≡ cond b (canx_ended item (kept (own_item a) items)) (kept (own_item a) items)
unfolding canx_ended
kept_ended_by a item items true = kept_changed item_total item_exact (own_item a) ended (sale_key item) items (λ v. refl)
kept_ended_by a item items false = refl

kept_ended : (a : ℕ) (item : Item) (items : FinMap item_cmp Item) → kept (own_item a) (ended_in item items) ≡ ended_in item (kept (own_item a) items)
unfolding canx_ended
kept_ended a item items = kept_ended_by a item items (is_canx item)

ended_beside_by : (a : ℕ) (item : Item) (items : FinMap item_cmp Item) → (item.agent == a) ≡ false → (b : Bool) → cond b (canx_ended item (kept (own_item a) items)) (kept (own_item a) items) ≡ kept (own_item a) items
unfolding canx_ended
ended_beside_by a item items h true =
    changed_none item_total item_exact ended (sale_key item) (kept (own_item a) items)
    (kept_get item_total item_exact (own_item a) items (sale_key item) ∙ passing_none (own_item a) (sale_key item) (λ v. h) (get items (sale_key item)))
ended_beside_by a item items h false = refl

ended_beside : (a : ℕ) (item : Item) (items : FinMap item_cmp Item) → (item.agent == a) ≡ false → ended_in item (kept (own_item a) items) ≡ kept (own_item a) items
unfolding canx_ended
ended_beside a item items h = ended_beside_by a item items h (is_canx item)

pub accepted_own : (a : ℕ) (item : Item) (rows : Rows) → (item.agent == a) ≡ true → ledger_of a (after_accepted item rows) ≡ with_own_item item (ledger_of a rows)
unfolding with_items
accepted_own a item rows h =
    ap (ledger_of a) (taken_is item rows)
    ∙ ap (with_items a rows) (kept_insert item_total item_exact (own_item a) (ended_in item rows.items) (key_of item) item h
    ∙ ap (λ (m : FinMap item_cmp Item). insert m (key_of item) item) (kept_ended a item rows.items))

pub accepted_other : (a : ℕ) (item : Item) (rows : Rows) → (item.agent == a) ≡ false → ledger_of a (after_accepted item rows) ≡ ledger_of a rows
unfolding with_items
accepted_other a item rows h =
    ap (ledger_of a) (taken_is item rows)
    ∙ ap (with_items a rows) (kept_beside item_total item_exact (own_item a) (ended_in item rows.items) (key_of item) item h (passing_none (own_item a) (key_of item) (λ v. h) (get (ended_in item rows.items) (key_of item)))
    ∙ (kept_ended a item rows.items ∙ ended_beside a item rows.items h))

-- ---- an agent's own file

pub judged_own : (a : ℕ) (t : Transaction) (v : Verdict) (rows : Rows) → ledger_of a (rows_judged (reporter (Some a)) t v rows) ≡ ledger_judged a t v (ledger_of a rows)
judged_own a t (verdict.Held period) rows = refl
judged_own a t (verdict.Accepted period) rows = accepted_own a (new_item a (ledger_of a rows) t period) rows (eq-eqb a a refl)
judged_own a t (verdict.Refused refusal) rows = refl

pub filed_own : (a : ℕ) (ts : List Transaction) (rows : Rows) → ledger_of a (rows_filed (reporter (Some a)) ts (own_verdicts a (ledger_of a rows) ts) rows) ≡ ledger_filed a ts (ledger_of a rows)
filed_own a [] rows = refl
filed_own a (t ∷ ts) rows =
    let v : Verdict = own_verdict (Agent a) (ledger_of a rows) t in
    let next : Rows = rows_judged (reporter (Some a)) t v rows in
    subst (λ (m : Ledger). ledger_of a (rows_filed (reporter (Some a)) ts (own_verdicts a m ts) next) ≡ ledger_filed a ts m) (judged_own a t v rows) (filed_own a ts next)

judged_other : (a b : ℕ) (t : Transaction) (v : Verdict) (rows : Rows) → (b == a) ≡ false → ledger_of a (rows_judged (reporter (Some b)) t v rows) ≡ ledger_of a rows
judged_other a b t (verdict.Held period) rows h = refl
judged_other a b t (verdict.Accepted period) rows h = accepted_other a (new_item b (ledger_of b rows) t period) rows h
judged_other a b t (verdict.Refused refusal) rows h = refl

-- another agent's file
pub filed_other : (a b : ℕ) (ts : List Transaction) (vs : List Verdict) (rows : Rows) → (b == a) ≡ false → ledger_of a (rows_filed (reporter (Some b)) ts vs rows) ≡ ledger_of a rows
filed_other a b [] vs rows h = refl
filed_other a b (t ∷ ts) [] rows h = refl
filed_other a b (t ∷ ts) (v ∷ vs) rows h = filed_other a b ts vs (rows_judged (reporter (Some b)) t v rows) h ∙ judged_other a b t v rows h

-- ---- the office's file

pub all_append : (a : ℕ) (l : Ledger) (ss more : List Sight) → ledger_all a l (ss ++ more) ≡ ledger_all a (ledger_all a l ss) more
all_append a l [] more = refl
all_append a l (s ∷ ss) more = all_append a (ledger_after a l s) ss more

accepted_by : (a b : ℕ) (t : Transaction) (period : ℕ) (rows : Rows) → target_of rows.published t.issued ≡ Some period → (c : Bool) → (b == a) ≡ c → ledger_of a (after_accepted (new_item b (ledger_of b rows) t period) rows) ≡ ledger_all a (ledger_of a rows) (cond c (Reported t ∷ []) [])
accepted_by a b t period rows target true h =
    accepted_own a (new_item b (ledger_of b rows) t period) rows h
    ∙ (ap (λ (x : ℕ). with_own_item (new_item x (ledger_of x rows) t period) (ledger_of a rows)) (eqb-true b a h)
    ∙ ap (λ (x : ℕ). with_own_item (new_item a (ledger_of a rows) t x) (ledger_of a rows)) (sym (ap (λ (o : Option ℕ). unwrap_or o 0) target)))
accepted_by a b t period rows target false h = accepted_other a (new_item b (ledger_of b rows) t period) rows h

joined_by : (a : ℕ) (t : Transaction) (period : ℕ) (rows : Rows) (bears : Option ℕ) → office_verdict_for bears rows t ≡ verdict.Accepted period → ledger_of a (joined bears t period rows) ≡ ledger_all a (ledger_of a rows) (if_own a bears (Reported t))
joined_by a t period rows None h = refl
joined_by a t period rows (Some b) h = accepted_by a b t period rows ((accepted_is_passed Office t _ rows.published period).0 h).target (b == a) refl

judged_office : (a : ℕ) (t : Transaction) (v : Verdict) (rows : Rows) → office_verdict rows t ≡ v → ledger_of a (rows_judged bearer t v rows) ≡ ledger_all a (ledger_of a rows) (reported_one a t v)
judged_office a t (verdict.Held period) rows h = refl
judged_office a t (verdict.Accepted period) rows h = joined_by a t period rows (agent_of t.agent) h
judged_office a t (verdict.Refused refusal) rows h = refl

pub filed_office : (a : ℕ) (ts : List Transaction) (rows : Rows) → ledger_of a (rows_filed bearer ts (office_verdicts rows ts) rows) ≡ ledger_all a (ledger_of a rows) (reported_in a ts (office_verdicts rows ts))
filed_office a [] rows = refl
filed_office a (t ∷ ts) rows =
    let v : Verdict = office_verdict rows t in
    let next : Rows = rows_judged bearer t v rows in
    filed_office a ts next
    ∙ (ap (λ (m : Ledger). ledger_all a m (reported_in a ts (office_verdicts next ts))) (judged_office a t v rows refl)
    ∙ sym (all_append a (ledger_of a rows) (reported_one a t v) (reported_in a ts (office_verdicts next ts))))
