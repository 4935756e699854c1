-- What each write of the rows is to one airline's ledger.
use Rattle.std.proofs.Common.{◌≡◌, ℕ, ◌==◌, Bool, true, false, cond, List, [], ◌∷◌, ◌++◌, Option, Some, None, is_some, option_map, refl, sym, ap, subst, ◌∙◌}
use Rattle.std.specs.Ordering.{nat_cmp, eq_by_cmp}
use Rattle.std.specs.Cmp.{nat_cmp_total}
use Rattle.std.specs.FinMap.{FinMap, get, insert, get-insert, nat_cmp-IsAntisymmetric, same_map}
use Rattle.std.specs.Option.{unwrap_or}
use Rattle.std.proofs.lemmas.Bool.{eqb-true, eq-eqb}
use Rattle.bsp_rows.specs.Decimal.{fixed_digits}
use Rattle.bsp_rows.specs.History.Request.{Close}
use Rattle.bsp_rows.specs.Published.{Published as Plan}
use Rattle.bsp_rows.specs.GroupValues.{is_group_values}
use Rattle.bsp_rows.specs.Transaction.{Transaction}
use Rattle.bsp_rows.specs.RulesRows.{is_canx}
use Rattle.bsp_rows.specs.Item.{Item}
use Rattle.bsp_rows.specs.Reporter.{Reporter}
use Rattle.bsp_rows.specs.Reporter.TheVariants.{Office, Agent}
use Rattle.bsp_rows.specs.Verdict.{Verdict}
use Rattle.bsp_rows.specs.Verdict.TheVariants as verdict
use Rattle.bsp_rows.proofs.MeaningLemmas.{accepted_is_passed}
use Rattle.bsp_rows.specs.Lives.{after_action, after_event}
use Rattle.bsp_rows.specs.Lives.Event.{Closed}
use Rattle.bsp_rows.specs.Steps.{Action}
use Rattle.bsp_rows.specs.MemoFields.{MemoFields}
use Rattle.bsp_messages.specs.declared.airline_bodies.MemoIssue.{MemoIssue}
use Rattle.bsp_rows.specs.declared.keys.MemoKey.{MemoKey}
use Rattle.bsp_rows.specs.Changes.{IsAcceptance, after_accepted, each, ended_where, facts_at, sale_key}
use Rattle.bsp_rows.specs.Part.{kept}
use Rattle.bsp_rows.specs.Rows.{Rows, item_cmp, key_of, memo_cmp}
use Rattle.bsp_rows.specs.Sound.{Sound}
use Rattle.bsp_rows.specs.Writes.{after_request, changed, ended, with_agent_token, with_airline_token, with_memo}
use Rattle.bsp_rows.proofs.ClearedLemmas.{IsCleared, cleared}
use Rattle.bsp_rows.proofs.KeptLemmas.{accepted_free}
use Rattle.bsp_rows.proofs.KeyOrders.{item_exact, item_total, memo_exact, memo_total}
use Rattle.bsp_rows.proofs.MapLemmas.{get_other, get_written}
use Rattle.bsp_rows.proofs.PartLemmas.{changed_none, each_get, kept_beside, kept_changed, kept_each, kept_get, kept_insert, passing}
use Rattle.bsp_office_spec.specs.AirlineLedger.{AirlineLedger, airline_ledger_of, is_known, issue_key, new_memo, no_token}
use Rattle.bsp_office_spec.specs.AirlineView.{AirlineSight, airline_acted, airline_after, airline_all, airline_issued, airline_planned, taken_in, taken_item, taken_of, taken_one, with_airline_items}
use Rattle.bsp_office_spec.specs.AirlineView.AirlineSight.{Known, Renewed, Taken}
use Rattle.bsp_office_spec.specs.Ledger.{Ledger, agent_of, ended_in, ledger_of, new_item, own_verdict, own_verdicts, review_of}
use Rattle.bsp_office_spec.specs.Step.{AreGroups, bearer, joined, office_verdict, office_verdict_for, office_verdicts, reporter, rows_filed, rows_judged, with_action, with_close}
use Rattle.bsp_office_spec.proofs.AirlineTax.{bears_airline, taken_as_accepted}
use Rattle.bsp_office_spec.proofs.ChangeLemmas.{accepts, office_judged_keeps, own_judged_keeps, reported_own}
use Rattle.bsp_office_spec.proofs.Invariant.{sound_is_kept}
use Rattle.bsp_office_spec.proofs.Seen.{insert_same, of_its_airline}
use Rattle.bsp_office_spec.proofs.SeenLemmas.{judged_own, other_key, passing_none, taken_is}

abbrev tables : Option (List ℕ) → FinMap item_cmp Item → FinMap memo_cmp MemoFields → FinMap nat_cmp (List ℕ) → Plan → AirlineLedger
tables token items memos agents plan = record { own = record { token = token; items = items; memos = memos }; agents = agents; published = plan }

-- ---- registrations

no_token_step : (m : FinMap nat_cmp (List ℕ)) (token : List ℕ) (q : ℕ) (b : Bool) → option_map no_token (cond b (Some token) (get m q)) ≡ cond b (Some []) (option_map no_token (get m q))
no_token_step m token q true = refl
no_token_step m token q false = refl

known_added : (m : FinMap nat_cmp (List ℕ)) (k : ℕ) (token : List ℕ) → each no_token (insert m k token) ≡ insert (each no_token m) k []
known_added m k token = same_map nat_cmp_total nat_cmp-IsAntisymmetric _ _ (λ q.
    each_get nat_cmp_total nat_cmp-IsAntisymmetric no_token (insert m k token) q
    ∙ (ap (option_map no_token) (get-insert nat_cmp_total m k token q)
    ∙ (no_token_step m token q (eq_by_cmp nat_cmp q k)
    ∙ sym (get-insert nat_cmp_total (each no_token m) k [] q ∙ ap (cond (eq_by_cmp nat_cmp q k) (Some [])) (each_get nat_cmp_total nat_cmp-IsAntisymmetric no_token m q)))))

pub known_seen : (c b : ℕ) (token : List ℕ) (rows : Rows) → airline_ledger_of c (with_agent_token b token rows) ≡ airline_after c (airline_ledger_of c rows) (Known b)
known_seen c b token rows =
    ap (λ agents. tables (get rows.airlines c) (kept (bears_airline c) rows.items) (kept (of_its_airline c) rows.memos) agents rows.published) (known_added rows.agents b token)

no_token_there : (found : Option (List ℕ)) → is_some (option_map no_token found) ≡ true → option_map no_token found ≡ Some []
no_token_there None h = absurd (cc h)
no_token_there (Some token) h = refl

-- an agent that is known already adds nothing
pub known_again : (c b : ℕ) (rows : Rows) → is_known b (airline_ledger_of c rows) ≡ true → airline_after c (airline_ledger_of c rows) (Known b) ≡ airline_ledger_of c rows
known_again c b rows h =
    let at : get (each no_token rows.agents) b ≡ option_map no_token (get rows.agents b) = each_get nat_cmp_total nat_cmp-IsAntisymmetric no_token rows.agents b in
    let there : get (each no_token rows.agents) b ≡ Some [] = at ∙ no_token_there (get rows.agents b) (ap is_some (sym at) ∙ h) in
    ap (λ agents. tables (get rows.airlines c) (kept (bears_airline c) rows.items) (kept (of_its_airline c) rows.memos) agents rows.published)
    (insert_same nat_cmp_total nat_cmp-IsAntisymmetric (each no_token rows.agents) b [] there)

abbrev with_token : ℕ → Rows → Option (List ℕ) → AirlineLedger
with_token c rows token = tables token (kept (bears_airline c) rows.items) (kept (of_its_airline c) rows.memos) (each no_token rows.agents) rows.published

pub renewed_by : (c d : ℕ) (token : List ℕ) (rows : Rows) (b : Bool) → (d == c) ≡ b → airline_ledger_of c (with_airline_token d token rows) ≡ airline_all c (airline_ledger_of c rows) (cond b (Renewed token ∷ []) [])
renewed_by c d token rows true h =
    ap (with_token c rows) (ap (λ (x : ℕ). get (insert rows.airlines x token) c) (eqb-true d c h) ∙ get_written nat_cmp_total nat_cmp-IsAntisymmetric rows.airlines c token)
renewed_by c d token rows false h =
    ap (with_token c rows) (get_other nat_cmp_total nat_cmp-IsAntisymmetric rows.airlines d c token (other_key c d h (eq_by_cmp nat_cmp c d) refl))

-- ---- the plan and memos

abbrev with_memos : ℕ → Rows → Plan → FinMap memo_cmp MemoFields → AirlineLedger
with_memos c rows plan memos = tables (get rows.airlines c) (kept (bears_airline c) rows.items) memos (each no_token rows.agents) plan

pub close_seen : (c period : ℕ) (rows : Rows) → airline_ledger_of c (with_close period rows) ≡ airline_planned (Close period) (airline_ledger_of c rows)
close_seen c period rows =
    ap (with_memos c rows (after_request (Close period) rows).published)
    (kept_each memo_total memo_exact (of_its_airline c) (after_event (review_of rows.published.terms) (Closed period rows.published.day)) rows.memos (λ k v. refl))

pub action_seen : (c : ℕ) (action : Action) (key : MemoKey) (rows : Rows) → airline_ledger_of c (with_action action key rows) ≡ airline_acted action key (airline_ledger_of c rows)
action_seen c action key rows =
    ap (with_memos c rows rows.published) (kept_changed memo_total memo_exact (of_its_airline c) (after_action (review_of rows.published.terms) action rows.published.day) key rows.memos (λ v. refl))

-- on another airline's memo
pub action_unseen : (c : ℕ) (action : Action) (key : MemoKey) (rows : Rows) → (key.airline == c) ≡ false → airline_ledger_of c (with_action action key rows) ≡ airline_ledger_of c rows
action_unseen c action key rows h =
    action_seen c action key rows
    ∙ ap (with_memos c rows rows.published)
    (changed_none memo_total memo_exact (after_action (review_of rows.published.terms) action rows.published.day) key (kept (of_its_airline c) rows.memos)
    (kept_get memo_total memo_exact (of_its_airline c) rows.memos key ∙ passing_none (of_its_airline c) key (λ v. h) (get rows.memos key)))

pub issue_seen : (c b : ℕ) (issue : MemoIssue) (rows : Rows) → airline_ledger_of c (with_memo (new_memo c b issue rows.published.day) rows) ≡ airline_issued c issue (Some b) (airline_ledger_of c rows)
issue_seen c b issue rows =
    ap (with_memos c rows rows.published)
    (kept_insert memo_total memo_exact (of_its_airline c) rows.memos (issue_key c issue.document) (new_memo c b issue rows.published.day) (eq-eqb c c refl))

pub issue_unseen : (c d b : ℕ) (issue : MemoIssue) (rows : Rows) → (d == c) ≡ false → airline_ledger_of c (with_memo (new_memo d b issue rows.published.day) rows) ≡ airline_ledger_of c rows
issue_unseen c d b issue rows h =
    ap (with_memos c rows rows.published)
    (kept_beside memo_total memo_exact (of_its_airline c) rows.memos (issue_key d issue.document) (new_memo d b issue rows.published.day) h
    (passing_none (of_its_airline c) (issue_key d issue.document) (λ v. h) (get rows.memos (issue_key d issue.document))))

-- ---- accepted transactions

abbrev with_items : ℕ → Rows → FinMap item_cmp Item → AirlineLedger
with_items c rows items = tables (get rows.airlines c) items (kept (of_its_airline c) rows.memos) (each no_token rows.agents) rows.published

kept_ended_by : (c : ℕ) (item : Item) (items : FinMap item_cmp Item) (b : Bool) → kept (bears_airline c) (cond b (changed ended (sale_key item) items) items) ≡ cond b (changed ended (sale_key item) (kept (bears_airline c) items)) (kept (bears_airline c) items)
kept_ended_by c item items true = kept_changed item_total item_exact (bears_airline c) ended (sale_key item) items (λ v. refl)
kept_ended_by c item items false = refl

accepted_own : (c : ℕ) (item : Item) (rows : Rows) → (item.transaction.document.airline == c) ≡ true → airline_ledger_of c (after_accepted item rows) ≡ with_airline_items item (airline_ledger_of c rows)
accepted_own c item rows h =
    ap (airline_ledger_of c) (taken_is item rows)
    ∙ ap (with_items c rows) (kept_insert item_total item_exact (bears_airline c) (ended_in item rows.items) (key_of item) item h
    ∙ ap (λ (m : FinMap item_cmp Item). insert m (key_of item) item) (kept_ended_by c item rows.items (is_canx item)))

module _ (c : ℕ) (who : Reporter) (rows : Rows) (item : Item) (s : Sound rows) (a : IsAcceptance who rows item) (other : (item.transaction.document.airline == c) ≡ false) where
  clear : IsCleared rows item
  clear = cleared who rows item s.items a.group ((accepted_is_passed who item.transaction (facts_at item.agent item.transaction rows) rows.published item.period).0 a.accepted)

  -- what a CANX ends is of its airline
  sale_hidden : is_canx item ≡ true → (found : Option Item) → get rows.items (sale_key item) ≡ found → passing (bears_airline c) (sale_key item) found ≡ None
  sale_hidden x None at = refl
  sale_hidden x (Some i) at = ap (λ b. cond b (Some i) None) (ap (λ (n : ℕ). n == c) (clear.airline x (sale_key item) i at refl refl) ∙ other)

  ended_beside : (b : Bool) → is_canx item ≡ b → cond b (changed ended (sale_key item) (kept (bears_airline c) rows.items)) (kept (bears_airline c) rows.items) ≡ kept (bears_airline c) rows.items
  ended_beside true x = changed_none item_total item_exact ended (sale_key item) (kept (bears_airline c) rows.items) (kept_get item_total item_exact (bears_airline c) rows.items (sale_key item) ∙ sale_hidden x (get rows.items (sale_key item)) refl)
  ended_beside false x = refl

  items_are_by : (b : Bool) → (ended_where b (sale_key item) rows).items ≡ cond b (changed ended (sale_key item) rows.items) rows.items
  items_are_by true = refl
  items_are_by false = refl

  accepted_other : airline_ledger_of c (after_accepted item rows) ≡ airline_ledger_of c rows
  accepted_other =
      let free : get (ended_in item rows.items) (key_of item) ≡ None = ap (λ (m : FinMap item_cmp Item). get m (key_of item)) (sym (items_are_by (is_canx item))) ∙ accepted_free who rows item s a in
      ap (airline_ledger_of c) (taken_is item rows)
      ∙ ap (with_items c rows) (kept_beside item_total item_exact (bears_airline c) (ended_in item rows.items) (key_of item) item other (ap (passing (bears_airline c) (key_of item)) free)
      ∙ (kept_ended_by c item rows.items (is_canx item) ∙ ended_beside (is_canx item) refl))

taken_by : (c : ℕ) (who : Reporter) (b : ℕ) (t : Transaction) (period : ℕ) (rows : Rows) → Sound rows → IsAcceptance who rows (new_item b (ledger_of b rows) t period) → (x : Bool) → (t.document.airline == c) ≡ x → airline_ledger_of c (after_accepted (new_item b (ledger_of b rows) t period) rows) ≡ airline_all c (airline_ledger_of c rows) (cond x (Taken b t ∷ []) [])
taken_by c who b t period rows s a true h =
    let target = ((accepted_is_passed who t (facts_at b t rows) rows.published period).0 a.accepted).target in
    accepted_own c (new_item b (ledger_of b rows) t period) rows h
    ∙ (ap (λ (item : Item). with_airline_items item (airline_ledger_of c rows)) (taken_as_accepted c who b t period rows s a h)
    ∙ ap (λ (p : ℕ). with_airline_items (taken_item b (airline_ledger_of c rows) t p) (airline_ledger_of c rows)) (sym (ap (λ (o : Option ℕ). unwrap_or o 0) target)))
taken_by c who b t period rows s a false h = accepted_other c who rows (new_item b (ledger_of b rows) t period) s a h

-- ---- files

pub airline_append : (c : ℕ) (l : AirlineLedger) (ss more : List AirlineSight) → airline_all c l (ss ++ more) ≡ airline_all c (airline_all c l ss) more
airline_append c l [] more = refl
airline_append c l (s ∷ ss) more = airline_append c (airline_after c l s) ss more

office_joined : (c : ℕ) (t : Transaction) (period : ℕ) (rows : Rows) → Sound rows → is_group_values t ≡ true → (r : Option ℕ) → agent_of t.agent ≡ r → office_verdict_for r rows t ≡ verdict.Accepted period → airline_ledger_of c (joined r t period rows) ≡ airline_all c (airline_ledger_of c rows) (taken_of c r t)
office_joined c t period rows s group None is h = refl
office_joined c t period rows s group (Some b) is h = taken_by c Office b t period rows s (accepts Office b t period rows group is h) (t.document.airline == c) refl

office_judged : (c : ℕ) (t : Transaction) (rows : Rows) → Sound rows → is_group_values t ≡ true → (v : Verdict) → office_verdict rows t ≡ v → airline_ledger_of c (rows_judged bearer t v rows) ≡ airline_all c (airline_ledger_of c rows) (taken_one c bearer t v)
office_judged c t rows s group (verdict.Held period) h = refl
office_judged c t rows s group (verdict.Accepted period) h = office_joined c t period rows s group (agent_of t.agent) refl h
office_judged c t rows s group (verdict.Refused refusal) h = refl

pub office_filed : (c : ℕ) (ts : List Transaction) (rows : Rows) → Sound rows → AreGroups ts → airline_ledger_of c (rows_filed bearer ts (office_verdicts rows ts) rows) ≡ airline_all c (airline_ledger_of c rows) (taken_in c bearer ts (office_verdicts rows ts))
office_filed c [] rows s groups = refl
office_filed c (t ∷ ts) rows s groups =
    let v : Verdict = office_verdict rows t in
    let next : Rows = rows_judged bearer t v rows in
    office_filed c ts next (office_judged_keeps Sound sound_is_kept t rows s groups.0 v refl) groups.1
    ∙ (ap (λ (m : AirlineLedger). airline_all c m (taken_in c bearer ts (office_verdicts next ts))) (office_judged c t rows s groups.0 v refl)
    ∙ sym (airline_append c (airline_ledger_of c rows) (taken_one c bearer t v) (taken_in c bearer ts (office_verdicts next ts))))

agent_judged : (c b : ℕ) (t : Transaction) (rows : Rows) → agent_of (fixed_digits 8 b) ≡ Some b → Sound rows → is_group_values t ≡ true → (v : Verdict) → own_verdict (Agent b) (ledger_of b rows) t ≡ v → airline_ledger_of c (rows_judged (reporter (Some b)) t v rows) ≡ airline_all c (airline_ledger_of c rows) (taken_one c (reporter (Some b)) t v)
agent_judged c b t rows reads s group (verdict.Held period) h = refl
agent_judged c b t rows reads s group (verdict.Accepted period) h = taken_by c (Agent b) b t period rows s (accepts (Agent b) b t period rows group (reported_own b t rows period h reads) h) (t.document.airline == c) refl
agent_judged c b t rows reads s group (verdict.Refused refusal) h = refl

pub agent_filed : (c b : ℕ) (ts : List Transaction) (rows : Rows) → agent_of (fixed_digits 8 b) ≡ Some b → Sound rows → AreGroups ts → airline_ledger_of c (rows_filed (reporter (Some b)) ts (own_verdicts b (ledger_of b rows) ts) rows) ≡ airline_all c (airline_ledger_of c rows) (taken_in c (reporter (Some b)) ts (own_verdicts b (ledger_of b rows) ts))
agent_filed c b [] rows reads s groups = refl
agent_filed c b (t ∷ ts) rows reads s groups =
    let v : Verdict = own_verdict (Agent b) (ledger_of b rows) t in
    let next : Rows = rows_judged (reporter (Some b)) t v rows in
    let l : AirlineLedger = airline_ledger_of c rows in
    subst (λ (m : Ledger). airline_ledger_of c (rows_filed (reporter (Some b)) ts (own_verdicts b m ts) next) ≡ airline_all c l (taken_one c (reporter (Some b)) t v ++ taken_in c (reporter (Some b)) ts (own_verdicts b m ts))) (judged_own b t v rows)
    (agent_filed c b ts next reads (own_judged_keeps Sound sound_is_kept b t rows reads s groups.0 v refl) groups.1
    ∙ (ap (λ (m : AirlineLedger). airline_all c m (taken_in c (reporter (Some b)) ts (own_verdicts b (ledger_of b next) ts))) (agent_judged c b t rows reads s groups.0 v refl)
    ∙ sym (airline_append c l (taken_one c (reporter (Some b)) t v) (taken_in c (reporter (Some b)) ts (own_verdicts b (ledger_of b next) ts)))))
