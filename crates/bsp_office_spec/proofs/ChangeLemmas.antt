-- A file, a change of stock, a registration and an action keep what each change keeps.
use Rattle.std.proofs.Common.{◌≡◌, ℕ, ◌≤◌, not, Bool, true, false, cond, List, [], ◌∷◌, map, Option, Some, None, is_some, Result, Ok, Err, refl, sym, ap, subst, ◌∙◌}
use Rattle.std.specs.FinMap.{FinMap, get, insert, values}
use Rattle.std.proofs.lemmas.Bool.{eqb-true}
use Rattle.bsp_rows.specs.Decimal.{fixed_digits}
use Rattle.bsp_rows.specs.Codes.{agent_reading}
use Rattle.bsp_rows.specs.GroupValues.{is_group_values}
use Rattle.bsp_rows.specs.Transaction.{Transaction}
use Rattle.bsp_rules.specs.Tax.{accepted_item}
use Rattle.bsp_rules.specs.declared.facts.Facts.{Facts}
use Rattle.bsp_rows.specs.FactsOf.{facts_in}
use Rattle.bsp_rows.specs.Verdicts.{verdict_on}
use Rattle.bsp_rows.specs.Item.{Item}
use Rattle.bsp_rows.specs.Range.{Range}
use Rattle.bsp_rows.specs.Reporter.{Reporter}
use Rattle.bsp_rows.specs.Reporter.TheVariants.{Office, Agent}
use Rattle.bsp_rows.specs.Verdict.{Verdict}
use Rattle.bsp_rows.specs.Verdict.TheVariants as verdict
use Rattle.bsp_rows.specs.Lives.{after_action}
use Rattle.bsp_rows.specs.Steps.{Action, answer_to}
use Rattle.bsp_rows.specs.MemoFields.{MemoFields}
use Rattle.bsp_rows.proofs.StepLemmas.{issue-left_by}
use Rattle.bsp_rows.specs.declared.keys.ItemKey.{ItemKey}
use Rattle.bsp_rows.specs.declared.keys.MemoKey.{MemoKey}
use Rattle.bsp_rows.specs.Rows.{Rows, agent_items, ranges_of, range_of, agent_token, memo_key, memo_cmp, range_key, range_at, has_meeting, is_used_in}
use Rattle.bsp_rows.specs.Writes.{with_memo, with_range, without_range}
use Rattle.bsp_rows.proofs.KeyOrders.{item_total, item_exact, range_total, range_exact, memo_exact}
use Rattle.bsp_rows.specs.Changes.{IsAcceptance, after_accepted, facts_at}
use Rattle.bsp_rows.proofs.KeyOrders.{memo_total}
use Rattle.bsp_rows.proofs.MeaningLemmas.{accepted_is_passed, agent_is_reporters}
use Rattle.bsp_rows.specs.FieldFault.{FieldFault}
use Rattle.bsp_rows.specs.Decimal.{fixed_digits}
use Rattle.std.specs.Result.{result_ok}
use Rattle.bsp_rows.proofs.MapLemmas.{same_Some}
use Rattle.bsp_office_spec.specs.Ledger.{Ledger, ledger_of, new_item, own_facts, own_verdict, own_verdicts, ranges_in, review_of}
use Rattle.bsp_office_spec.specs.Step.{bearer, reporter, joined, rows_judged, rows_filed, office_verdict, office_verdict_for, office_verdicts, AreGroups, with_action, is_registered, is_last, has_range, allotment, withdrawal, allotted, withdrawn, registered_as}
use Rattle.bsp_rows.proofs.PartLemmas.{kept_entries, changed_none, changed_some}
use Rattle.bsp_office_spec.proofs.SeenLemmas.{own_item, own_range, judged_own}
use Rattle.bsp_messages.specs.declared.refusal.RequestRefusal.TheVariants.{Forbidden}
use Rattle.bsp_messages.specs.declared.refusal.RequestRefusal.TheVariants as refusal
use Rattle.bsp_messages.specs.declared.refusal.StockFault.TheVariants.{NotRegistered, MeetsRange, NoSuchRange, RangeUsed}
use Rattle.bsp_rows.specs.Change.TheVariants.{Done, Held}
use Rattle.bsp_office_spec.specs.Answers.{is_done}
use Rattle.bsp_office_spec.specs.Answers.Answer.{Changed, Refused}
use Rattle.bsp_office_spec.specs.Ledger.{agent_of}
use Rattle.bsp_office_spec.proofs.Invariant.{IsKept}

-- ---- a part's rows are what the book's look-ups by agent give

pub part_items : (a : ℕ) (rows : Rows) → values (ledger_of a rows).own.items ≡ agent_items a rows
part_items a rows = ap (map (λ (e : ItemKey × Item). e.1)) (kept_entries item_total item_exact (own_item a) rows.items)

pub part_ranges : (a : ℕ) (rows : Rows) → ranges_in (ledger_of a rows).own ≡ ranges_of a rows
part_ranges a rows = ap (map range_of) (kept_entries range_total range_exact (own_range a) rows.ranges)

pub part_facts : (a : ℕ) (rows : Rows) (t : Transaction) → own_facts (ledger_of a rows) t ≡ facts_at a t rows
part_facts a rows t =
    ap (λ (rs : List Range). facts_in (is_some (agent_token a rows)) rs (values (ledger_of a rows).own.items) t rows.published) (part_ranges a rows)
    ∙ ap (λ (is : List Item). facts_in (is_some (agent_token a rows)) (ranges_of a rows) is t rows.published) (part_items a rows)

pub part_verdict : (who : Reporter) (a : ℕ) (rows : Rows) (t : Transaction) → own_verdict who (ledger_of a rows) t ≡ verdict_on who t (facts_at a t rows) rows.published
part_verdict who a rows t = ap (λ (f : Facts). verdict_on who t f rows.published) (part_facts a rows t)

pub part_item : (a : ℕ) (rows : Rows) (t : Transaction) (period : ℕ) → new_item a (ledger_of a rows) t period ≡ accepted_item a period t (facts_at a t rows).related rows.published
part_item a rows t period = ap (λ (f : Facts). accepted_item a period t f.related rows.published) (part_facts a rows t)

-- ---- files

read_ok : (r : Result ℕ FieldFault) (b : ℕ) → result_ok r ≡ Some b → r ≡ Ok b
read_ok (Ok n) b h = ap (λ (x : ℕ). Ok x) (same_Some n b h)
read_ok (Err fault) b h = absurd (cc h)

-- what an agent's file has accepted bears that agent
pub accepted_own : (b : ℕ) (t : Transaction) (l : Ledger) (period : ℕ) → own_verdict (Agent b) l t ≡ verdict.Accepted period → agent_of (fixed_digits 8 b) ≡ Some b → agent_of t.agent ≡ Some b
accepted_own b t l period h reads =
    let passed = (accepted_is_passed (Agent b) t _ l.published period).0 h in
    let own = ((agent_is_reporters (Agent b) t _).0 passed.agent).1 in
    ap agent_of own ∙ reads

pub reported_own : (b : ℕ) (t : Transaction) (rows : Rows) (period : ℕ) → own_verdict (Agent b) (ledger_of b rows) t ≡ verdict.Accepted period → agent_of (fixed_digits 8 b) ≡ Some b → agent_of t.agent ≡ Some b
reported_own b t rows = accepted_own b t (ledger_of b rows)

pub accepts : (who : Reporter) (b : ℕ) (t : Transaction) (period : ℕ) (rows : Rows) → is_group_values t ≡ true → agent_of t.agent ≡ Some b → own_verdict who (ledger_of b rows) t ≡ verdict.Accepted period → IsAcceptance who rows (new_item b (ledger_of b rows) t period)
accepts who b t period rows group bears h = record {
  group = group;
  bears = read_ok (agent_reading t.agent) b bears;
  as_accepted = part_item b rows t period;
  accepted = sym (part_verdict who b rows t) ∙ h;
}

module _ (P : Rows → Type 0) (kept : IsKept P) where
  -- ---- accepted transactions

  joins_keeps : (who : Reporter) (b : ℕ) (t : Transaction) (period : ℕ) (rows : Rows) → P rows → is_group_values t ≡ true → agent_of t.agent ≡ Some b → own_verdict who (ledger_of b rows) t ≡ verdict.Accepted period → P (after_accepted (new_item b (ledger_of b rows) t period) rows)
  joins_keeps who b t period rows s group bears h = kept.accepted who rows (new_item b (ledger_of b rows) t period) s (accepts who b t period rows group bears h)

  pub own_judged_keeps : (b : ℕ) (t : Transaction) (rows : Rows) → agent_of (fixed_digits 8 b) ≡ Some b → P rows → is_group_values t ≡ true → (v : Verdict) → own_verdict (Agent b) (ledger_of b rows) t ≡ v → P (rows_judged (reporter (Some b)) t v rows)
  own_judged_keeps b t rows reads s group (verdict.Held period) h = s
  own_judged_keeps b t rows reads s group (verdict.Accepted period) h = joins_keeps (Agent b) b t period rows s group (reported_own b t rows period h reads) h
  own_judged_keeps b t rows reads s group (verdict.Refused refusal) h = s

  pub own_file_keeps : (b : ℕ) (ts : List Transaction) (rows : Rows) → agent_of (fixed_digits 8 b) ≡ Some b → P rows → AreGroups ts → P (rows_filed (reporter (Some b)) ts (own_verdicts b (ledger_of b rows) ts) rows)
  own_file_keeps b [] rows reads s groups = s
  own_file_keeps b (t ∷ ts) rows reads s groups =
      let v : Verdict = own_verdict (Agent b) (ledger_of b rows) t in
      let next : Rows = rows_judged (reporter (Some b)) t v rows in
      subst (λ (m : Ledger). P (rows_filed (reporter (Some b)) ts (own_verdicts b m ts) next)) (judged_own b t v rows)
      (own_file_keeps b ts next reads (own_judged_keeps b t rows reads s groups.0 v refl) groups.1)

  office_joined_keeps : (t : Transaction) (period : ℕ) (rows : Rows) → P rows → is_group_values t ≡ true → (r : Option ℕ) → agent_of t.agent ≡ r → office_verdict_for r rows t ≡ verdict.Accepted period → P (joined r t period rows)
  office_joined_keeps t period rows s group None is h = s
  office_joined_keeps t period rows s group (Some b) is h = joins_keeps Office b t period rows s group is h

  pub office_judged_keeps : (t : Transaction) (rows : Rows) → P rows → is_group_values t ≡ true → (v : Verdict) → office_verdict rows t ≡ v → P (rows_judged bearer t v rows)
  office_judged_keeps t rows s group (verdict.Held period) h = s
  office_judged_keeps t rows s group (verdict.Accepted period) h = office_joined_keeps t period rows s group (agent_of t.agent) refl h
  office_judged_keeps t rows s group (verdict.Refused refusal) h = s

  pub office_file_keeps : (ts : List Transaction) (rows : Rows) → P rows → AreGroups ts → P (rows_filed bearer ts (office_verdicts rows ts) rows)
  office_file_keeps [] rows s groups = s
  office_file_keeps (t ∷ ts) rows s groups = office_file_keeps ts (rows_judged bearer t (office_verdict rows t) rows) (office_judged_keeps t rows s groups.0 (office_verdict rows t) refl) groups.1

  -- ---- stock

  allotment_keeps : (b : ℕ) (range : Range) (rows : Rows) → P rows → range.first ≤ range.last → (known held meets : Bool) → is_registered b rows ≡ known → has_meeting range rows ≡ meets → is_done (cond (not known) (Refused (refusal.Stock NotRegistered)) (cond held (Changed Held) (cond meets (Refused (refusal.Stock MeetsRange)) (Changed Done)))) ≡ true → P (with_range b range rows)
  allotment_keeps b range rows s order true false false k m h = kept.allotted rows b range s k order m
  allotment_keeps b range rows s order true false true k m h = absurd (cc h)
  allotment_keeps b range rows s order true true meets k m h = absurd (cc h)
  allotment_keeps b range rows s order false held meets k m h = absurd (cc h)

  pub allotted_keeps : (range : Range) (rows : Rows) → P rows → range.first ≤ range.last → (r : Option ℕ) → is_done (allotment r range rows) ≡ true → P (allotted r range rows)
  allotted_keeps range rows s order None h = s
  allotted_keeps range rows s order (Some b) h = allotment_keeps b range rows s order (is_registered b rows) (has_range b range rows) (has_meeting range rows) refl refl h

  last_is : (found : Option ℕ) (last : ℕ) → is_last found last ≡ true → found ≡ Some last
  last_is None last h = absurd (cc h)
  last_is (Some other) last h = ap (λ (n : ℕ). Some n) (eqb-true other last h)

  withdrawal_keeps : (b : ℕ) (range : Range) (rows : Rows) → P rows → (known has used : Bool) → has_range b range rows ≡ has → is_used_in b range rows ≡ used → is_done (cond (not known) (Refused (refusal.Stock NotRegistered)) (cond (not has) (Refused (refusal.Stock NoSuchRange)) (cond used (Refused (refusal.Stock RangeUsed)) (Changed Done)))) ≡ true → P (without_range b range rows)
  withdrawal_keeps b range rows s true true false has used h = kept.withdrawn rows b range s (last_is (range_at (range_key b range) rows) range.last has) used
  withdrawal_keeps b range rows s true true true has used h = absurd (cc h)
  withdrawal_keeps b range rows s true false isused has used h = absurd (cc h)
  withdrawal_keeps b range rows s false ishas isused has used h = absurd (cc h)

  pub withdrawn_keeps : (range : Range) (rows : Rows) → P rows → (r : Option ℕ) → is_done (withdrawal r range rows) ≡ true → P (withdrawn r range rows)
  withdrawn_keeps range rows s None h = s
  withdrawn_keeps range rows s (Some b) h = withdrawal_keeps b range rows s (is_registered b rows) (has_range b range rows) (is_used_in b range rows) refl refl h

  pub registered_keeps : (token : List ℕ) (rows : Rows) → P rows → (r : Option ℕ) → P (registered_as r token rows)
  registered_keeps token rows s None = s
  registered_keeps token rows s (Some b) = kept.agent rows b token s

  -- ---- memos

  action_found : (action : Action) (key : MemoKey) (rows : Rows) → P rows → (found : Option MemoFields) → get rows.memos key ≡ found → P (with_action action key rows)
  action_found action key rows s None h = subst (λ (m : FinMap memo_cmp MemoFields). P (record rows { memos = m })) (sym (changed_none memo_total memo_exact (after_action (review_of rows.published.terms) action rows.published.day) key rows.memos h)) s
  action_found action key rows s (Some memo) h =
      let f = after_action (review_of rows.published.terms) action rows.published.day in
      let own : memo_key memo ≡ key = ((kept.sound rows s).memos.each key memo h).keyed in
      let kept_issue = issue-left_by (answer_to memo action rows.published.day (review_of rows.published.terms)) action memo in
      let same : memo_key (f memo) ≡ key = (λ i. record { airline = kept_issue.airline i; document = kept_issue.document i }) ∙ own in
      let there : get rows.memos (memo_key memo) ≡ Some memo = ap (get rows.memos) own ∙ h in
      let step : P (with_memo (f memo) rows) = kept.acted rows memo action s there in
      subst (λ (m : FinMap memo_cmp MemoFields). P (record rows { memos = m }))
      (ap (λ (k : MemoKey). insert rows.memos k (f memo)) same ∙ sym (changed_some memo_total memo_exact f key rows.memos memo h)) step

  pub action_keeps : (action : Action) (key : MemoKey) (rows : Rows) → P rows → P (with_action action key rows)
  action_keeps action key rows s = action_found action key rows s (get rows.memos key) refl
