-- A closed period stays as it is.
use Rattle.std.proofs.Common.{◌≡◌, ℕ, ◌==◌, ◌&&◌, not, Bool, true, false, cond, List, [], ◌∷◌, Option, Some, None, IfSome, is_some, option_map, refl, sym, ap, subst, ◌∙◌, Ordering}
use Rattle.std.specs.Cmp.{IsTotalOrder}
use Rattle.std.specs.FinMap.{FinMap, IsAntisymmetric, get, insert, get-insert, same_map}
use Rattle.std.specs.List.{Contains}
use Rattle.std.specs.Ordering.{eq_by_cmp}
use Rattle.std.proofs.lemmas.Slice.Eq.{bytes_eq-Decides}
use Rattle.std.proofs.lemmas.Bool.{and_from, and_parts, both_ways, eqb-true}
use Rattle.bsp_rows.specs.CivilDay.{CivilDay}
use Rattle.bsp_rows.specs.Published.{IsTarget, Published, is_closed, period_of, target_of}
use Rattle.bsp_rows.specs.Period.{Period}
use Rattle.bsp_rows.proofs.ListedLemmas.{any_false}
use Rattle.bsp_rows.proofs.TargetLemmas.{in_target}
use Rattle.bsp_rows.specs.TransactionCode.{TransactionCode}
use Rattle.bsp_rows.specs.TransactionCode.TheVariants.{Tktt, Rfnd, Canx}
use Rattle.bsp_rows.specs.Transaction.{Transaction}
use Rattle.bsp_rows.specs.FactsOf.{facts_in, own_number}
use Rattle.bsp_rows.specs.Meanings.{IsPassed}
use Rattle.bsp_rows.specs.RulesRows.{has_number, is_canx, is_past}
use Rattle.bsp_rows.specs.SameContent.{same_code}
use Rattle.bsp_rows.specs.Item.{Item}
use Rattle.bsp_rows.specs.Range.{Range}
use Rattle.bsp_rows.specs.Reporter.{Reporter}
use Rattle.bsp_rows.proofs.MeaningLemmas.{accepted_is_passed, canx_free}
use Rattle.bsp_rows.specs.Billing.{admits, billed_in, is_due}
use Rattle.bsp_rows.specs.Lives.{after_action, after_event}
use Rattle.bsp_rows.specs.Lives.Event.{Acted, Closed}
use Rattle.bsp_rows.specs.Owed.{is_billed_in, is_period}
use Rattle.bsp_rows.specs.Steps.{Action, answer_to}
use Rattle.bsp_rows.specs.MemoFields.{MemoFields}
use Rattle.bsp_rows.proofs.MemosKeptLemmas.{billed_unchanged}
use Rattle.bsp_rows.proofs.StepLemmas.{billed-left_by, issue-left_by}
use Rattle.bsp_rows.specs.declared.keys.ItemKey.{ItemKey}
use Rattle.bsp_rows.specs.declared.keys.MemoKey.{MemoKey}
use Rattle.bsp_rows.specs.Changes.{IsAcceptance, each, ended_where, facts_at, sale_key}
use Rattle.bsp_rows.specs.Part.{kept}
use Rattle.bsp_rows.specs.Rows.{Rows, agent_items, item_cmp, key_of, memo_key}
use Rattle.bsp_rows.specs.Sound.{Sound}
use Rattle.bsp_rows.specs.Writes.{changed, ended}
use Rattle.bsp_rows.proofs.ClearedLemmas.{IsCleared, cleared}
use Rattle.bsp_rows.proofs.KeptLemmas.{accepted_free}
use Rattle.bsp_rows.proofs.KeyOrders.{item_exact, item_total}
use Rattle.bsp_rows.proofs.MapLemmas.{same_key}
use Rattle.bsp_rows.proofs.DocumentLemmas.{one_number}
use Rattle.bsp_rows.proofs.PartLemmas.{changed_none, each_get, kept_changed, kept_get, passing}
use Rattle.bsp_rows.proofs.RowLemmas.{among_items}
use Rattle.bsp_office_spec.specs.Ledger.{ended_in, review_of, taken}

-- ---- maps

module _ {K X : Type 0} {R : K → K → Ordering} (o : IsTotalOrder R) (exact : IsAntisymmetric R) where
  same_step : (test : K × X → Bool) (m : FinMap R X) (k : K) (v : X) → passing test k (Some v) ≡ passing test k (get m k) → (q : K) (b : Bool) → eq_by_cmp R q k ≡ b → passing test q (cond b (Some v) (get m q)) ≡ passing test q (get m q)
  same_step test m k v h q true is = subst (λ (x : K). passing test x (Some v) ≡ passing test x (get m x)) (sym (same_key exact q k is)) h
  same_step test m k v h q false is = refl

  -- what passes at a key is as it was
  pub kept_same : (test : K × X → Bool) (m : FinMap R X) (k : K) (v : X) → passing test k (Some v) ≡ passing test k (get m k) → kept test (insert m k v) ≡ kept test m
  kept_same test m k v h = same_map o exact _ _ (λ q.
      kept_get o exact test (insert m k v) q ∙ (ap (passing test q) (get-insert o m k v q) ∙ (same_step test m k v h q (eq_by_cmp R q k) refl ∙ sym (kept_get o exact test m q))))

  each_step : (test : K × X → Bool) (f : X → X) → ((k : K) (v : X) → passing test k (Some (f v)) ≡ passing test k (Some v)) → (q : K) (found : Option X) → passing test q (option_map f found) ≡ passing test q found
  each_step test f h q None = refl
  each_step test f h q (Some v) = h q v

  -- what passes is not changed
  pub kept_each_same : (test : K × X → Bool) (f : X → X) (m : FinMap R X) → ((k : K) (v : X) → passing test k (Some (f v)) ≡ passing test k (Some v)) → kept test (each f m) ≡ kept test m
  kept_each_same test f m h = same_map o exact _ _ (λ q.
      kept_get o exact test (each f m) q ∙ (ap (passing test q) (each_get o exact f m q) ∙ (each_step test f h q (get m q) ∙ sym (kept_get o exact test m q))))

-- ---- periods that differ

pub other_period : (p : Published) (a b : ℕ) → is_closed p a ≡ false → is_closed p b ≡ true → (c : Bool) → (a == b) ≡ c → (a == b) ≡ false
other_period p a b unshut shut true is = absurd (both_ways (is_closed p b) (ap (is_closed p) (sym (eqb-true a b is)) ∙ unshut) shut)
other_period p a b unshut shut false is = is

-- ---- an accepted transaction

target_is : (p : Published) (issued : CivilDay) (code : ℕ) (found : Option ℕ) → IfSome found (IsTarget p issued) → found ≡ Some code → is_closed p code ≡ false
target_is p issued code None h is = absurd (cc is)
target_is p issued code (Some n) h is = ap (is_closed p) (sym (Rattle.bsp_rows.proofs.MapLemmas.same_Some n code is)) ∙ h.unclosed

canx_is : (code : TransactionCode) → same_code code Canx ≡ true → code ≡ Canx
canx_is Tktt h = absurd (cc h)
canx_is Rfnd h = absurd (cc h)
canx_is Canx h = refl

closed_is : (registered : Bool) (ranges : List Range) (items : List Item) (t : Transaction) (p : Published) (i : Item) → (facts_in registered ranges items t p).own.is_in_closed_period ≡ false → Contains items i → (has_number t.document.number i && is_past p i.period) ≡ false
unfolding facts_in own_number
closed_is registered ranges items t p i h among = any_false (λ j. has_number t.document.number j && is_past p j.period) items i h among

module _ (who : Reporter) (rows : Rows) (item : Item) (s : Sound rows) (a : IsAcceptance who rows item) (code : ℕ) (q : Period) (shut : is_closed rows.published code ≡ true) (there : period_of rows.published code ≡ Some q) where
  passed : IsPassed who item.transaction (facts_at item.agent item.transaction rows) rows.published item.period
  passed = (accepted_is_passed who item.transaction (facts_at item.agent item.transaction rows) rows.published item.period).0 a.accepted

  clear : IsCleared rows item
  clear = cleared who rows item s.items a.group passed

  -- its period is not the closed one
  apart : (item.period == code) ≡ false
  apart = other_period rows.published item.period code (target_is rows.published item.transaction.issued item.period (target_of rows.published item.transaction.issued) (in_target rows.published item.transaction.issued s.plan.periods) clear.target) shut (item.period == code) refl

  -- what a CANX ends is not in the closed period
  sale_apart_by : is_canx item ≡ true → (i : Item) → get rows.items (sale_key item) ≡ Some i → (b : Bool) → (i.period == code) ≡ b → (i.period == code) ≡ false
  sale_apart_by c i at false is = is
  sale_apart_by c i at true is =
      let same : i.period ≡ code = eqb-true i.period code is in
      let right = (s.items.each (sale_key item) i at).right in
      let number : i.transaction.document.number ≡ item.transaction.document.number = one_number i.transaction.document.number item.transaction.document.number i.transaction.document.check_digit item.transaction.document.check_digit _ _ right.numbered clear.reads (ap (λ (k : ItemKey). k.number) right.keyed) in
      let has : has_number item.transaction.document.number i ≡ true = (bytes_eq-Decides i.transaction.document.number item.transaction.document.number).1 number in
      let past : is_past rows.published i.period ≡ true = and_from _ _ (ap is_some (ap (period_of rows.published) same ∙ there)) (ap (is_closed rows.published) same ∙ shut) in
      let free = canx_free who item.transaction (facts_at item.agent item.transaction rows) rows.published item.period passed (canx_is item.transaction.code c) in
      let no = closed_is _ _ (agent_items item.agent rows) item.transaction rows.published i free.unclosed (among_items rows item.agent (sale_key item) i at refl) in
      absurd (both_ways _ no (and_from _ _ has past))

  hidden_by : is_canx item ≡ true → (found : Option Item) → get rows.items (sale_key item) ≡ found → passing (λ e. e.1.period == code) (sale_key item) found ≡ None
  hidden_by c None at = refl
  hidden_by c (Some i) at = ap (λ b. cond b (Some i) None) (sale_apart_by c i at (i.period == code) refl)

  abbrev in_code : ItemKey × Item → Bool
  in_code e = e.1.period == code

  ended_same_by : (b : Bool) → is_canx item ≡ b → kept in_code (cond b (changed ended (sale_key item) rows.items) rows.items) ≡ kept in_code rows.items
  ended_same_by true c =
      kept_changed item_total item_exact in_code ended (sale_key item) rows.items (λ v. refl)
      ∙ changed_none item_total item_exact ended (sale_key item) (kept in_code rows.items) (kept_get item_total item_exact in_code rows.items (sale_key item) ∙ hidden_by c (get rows.items (sale_key item)) refl)
  ended_same_by false c = refl

  items_are_by : (b : Bool) → (ended_where b (sale_key item) rows).items ≡ cond b (changed ended (sale_key item) rows.items) rows.items
  items_are_by true = refl
  items_are_by false = refl

  -- the items of the closed period are as they were
  pub accepted_beside : kept in_code (taken item rows.items) ≡ kept in_code rows.items
  accepted_beside =
      let free : get (ended_in item rows.items) (key_of item) ≡ None = ap (λ (m : FinMap item_cmp Item). get m (key_of item)) (sym (items_are_by (is_canx item))) ∙ accepted_free who rows item s a in
      kept_same item_total item_exact in_code (ended_in item rows.items) (key_of item) item
      (ap (λ b. cond b (Some item) None) apart ∙ sym (ap (passing in_code (key_of item)) free))
      ∙ ended_same_by (is_canx item) refl

-- ---- memos

not_true : (b : Bool) → not b ≡ true → b ≡ false
not_true true h = absurd (cc h)
not_true false h = refl

unbilled : (code : ℕ) (billed : Option ℕ) → is_some billed ≡ false → is_period code billed ≡ false
unbilled code None h = refl
unbilled code (Some n) h = absurd (cc h)

-- a close of another period changes no memo billed in this one
pub close_beside : (code other review : ℕ) (day : CivilDay) → (other == code) ≡ false → (k : MemoKey) (m : MemoFields) → passing (λ e. is_billed_in code e.1) k (Some (after_event review (Closed other day) m)) ≡ passing (λ e. is_billed_in code e.1) k (Some m)
close_beside code other review day apart k m = by (admits m day review) refl where
  by : (b : Bool) → admits m day review ≡ b → passing (λ e. is_billed_in code e.1) k (Some (cond b (billed_in other m) m)) ≡ passing (λ e. is_billed_in code e.1) k (Some m)
  by true h =
      let none : is_some m.billed ≡ false = not_true _ (and_parts (not (is_some m.billed)) (is_due m day review) h).0 in
      ap (λ b. cond b (Some (billed_in other m)) None) apart ∙ sym (ap (λ b. cond b (Some m) None) (unbilled code m.billed none))
  by false h = refl

billed_some : (code : ℕ) (billed : Option ℕ) → is_period code billed ≡ true → is_some billed ≡ true
billed_some code None h = absurd (cc h)
billed_some code (Some n) h = refl

-- an action changes no billed memo
pub action_beside : (rows : Rows) (memo : MemoFields) (action : Action) (code : ℕ) → Sound rows → get rows.memos (memo_key memo) ≡ Some memo → let f = after_action (review_of rows.published.terms) action rows.published.day in passing (λ e. is_billed_in code e.1) (memo_key memo) (Some (f memo)) ≡ passing (λ e. is_billed_in code e.1) (memo_key memo) (Some memo)
action_beside rows memo action code s there = by (is_billed_in code memo) refl where
  review : ℕ
  review = review_of rows.published.terms

  day : CivilDay
  day = rows.published.day

  left : MemoFields
  left = after_action review action day memo

  by : (b : Bool) → is_billed_in code memo ≡ b → passing (λ e. is_billed_in code e.1) (memo_key memo) (Some left) ≡ passing (λ e. is_billed_in code e.1) (memo_key memo) (Some memo)
  by true h =
      let fit = (s.memos.each (memo_key memo) memo there).fit in
      ap (λ (m : MemoFields). passing (λ e. is_billed_in code e.1) (memo_key memo) (Some m)) (billed_unchanged review (Acted action day ∷ []) memo fit (billed_some code memo.billed h))
  by false h =
      let same : is_billed_in code left ≡ is_billed_in code memo = ap (is_period code) (billed-left_by (answer_to memo action day review) action memo) in
      ap (λ b. cond b (Some left) None) (same ∙ h) ∙ sym (ap (λ b. cond b (Some memo) None) h)

pub action_key : (review : ℕ) (action : Action) (day : CivilDay) (memo : MemoFields) → memo_key (after_action review action day memo) ≡ memo_key memo
action_key review action day memo =
    let issue = issue-left_by (answer_to memo action day review) action memo in
    (λ i. record { airline = issue.airline i; document = issue.document i })
