-- The reports on a period are made of its items and of the memos billed in it.
use Rattle.std.proofs.Common.{◌≡◌, ℕ, ◌==◌, Bool, true, false, cond, List, [], ◌∷◌, ◌++◌, map, Option, Some, refl, sym, ap, subst, ◌∙◌, Ordering}
use Rattle.std.specs.Cmp.{IsTotalOrder}
use Rattle.std.specs.FinMap.{FinMap, IsAntisymmetric, entries, values}
use Rattle.std.specs.List.{filter, find}
use Rattle.std.proofs.lemmas.Bool.{and_parts, both_ways, eqb-true}
use Rattle.bsp_rows.specs.Published.{closed_period, is_closed, is_taxed, period_of}
use Rattle.bsp_rows.specs.Period.{Period}
use Rattle.bsp_rows.specs.Terms.{Terms}
use Rattle.bsp_rows.specs.Item.{Item}
use Rattle.bsp_rows.specs.Owed.{is_billed_in}
use Rattle.bsp_rows.specs.MemoFields.{MemoFields}
use Rattle.bsp_rows.specs.Posting.{Posting}
use Rattle.bsp_rows.specs.Postings.{is_counted, is_document, item_posting, memo_posting, postings}
use Rattle.bsp_rows.specs.RulesNets.{lives_in}
use Rattle.bsp_rows.specs.declared.keys.ItemKey.{ItemKey}
use Rattle.bsp_rows.specs.Part.{kept}
use Rattle.bsp_rows.specs.Rows.{Rows, is_in}
use Rattle.bsp_rows.proofs.KeyOrders.{item_exact, item_total, memo_exact, memo_total}
use Rattle.bsp_rows.proofs.MapLemmas.{same_Some}
use Rattle.bsp_rows.proofs.PartLemmas.{kept_entries}
use Rattle.bsp_hot.specs.Files.{form_of}
use Rattle.bsp_hot_check.specs.FileForm.{FileForm}
use Rattle.bsp_office_spec.specs.AirlineLedger.{airline_ledger_of, hot_shown}
use Rattle.bsp_office_spec.specs.Answers.{Answer}
use Rattle.bsp_office_spec.specs.Answers.Answer.{Hot, Settlement, Statement}
use Rattle.bsp_office_spec.specs.Laws.{IsPeriodKept, ReportsStay}
use Rattle.bsp_office_spec.specs.Ledger.{ledger_of, statement_shown}
use Rattle.bsp_office_spec.specs.Step.{settlement_shown}
use Rattle.bsp_office_spec.proofs.ClosedKept.{closed_of, closed_stays}

-- ---- lists

module _ {K X : Type 0} (p : X → Bool) (own test : K × X → Bool) (within : (e : K × X) → p e.1 ≡ true → test e ≡ true) where
  fails : (e : K × X) → test e ≡ false → (b : Bool) → p e.1 ≡ b → p e.1 ≡ false
  fails e h true is = absurd (both_ways (test e) h (within e is))
  fails e h false is = is

  own_step : (e : K × X) (xs ys : List (K × X)) → filter p (map (λ x. x.1) xs) ≡ filter p (map (λ x. x.1) ys) → (o : Bool) → filter p (map (λ x. x.1) (cond o (e ∷ xs) xs)) ≡ filter p (map (λ x. x.1) (cond o (e ∷ ys) ys))
  own_step e xs ys h true = ap (λ (zs : List X). cond (p e.1) (e.1 ∷ zs) zs) h
  own_step e xs ys h false = h

  out_step : (e : K × X) (xs ys : List (K × X)) → filter p (map (λ x. x.1) xs) ≡ filter p (map (λ x. x.1) ys) → p e.1 ≡ false → (o : Bool) → filter p (map (λ x. x.1) (cond o (e ∷ xs) xs)) ≡ filter p (map (λ x. x.1) ys)
  out_step e xs ys h not_p true = ap (λ b. cond b (e.1 ∷ filter p (map (λ x. x.1) xs)) (filter p (map (λ x. x.1) xs))) not_p ∙ h
  out_step e xs ys h not_p false = h

  test_step : (e : K × X) (es : List (K × X)) → filter p (map (λ x. x.1) (filter own es)) ≡ filter p (map (λ x. x.1) (filter own (filter test es))) → (t : Bool) → test e ≡ t → filter p (map (λ x. x.1) (filter own (e ∷ es))) ≡ filter p (map (λ x. x.1) (filter own (cond t (e ∷ filter test es) (filter test es))))
  test_step e es h true is = own_step e (filter own es) (filter own (filter test es)) h (own e)
  test_step e es h false is = out_step e (filter own es) (filter own (filter test es)) h (fails e is (p e.1) refl) (own e)

  -- what passes p is among what passes the test
  narrowed : (es : List (K × X)) → filter p (map (λ x. x.1) (filter own es)) ≡ filter p (map (λ x. x.1) (filter own (filter test es)))
  narrowed [] = refl
  narrowed (e ∷ es) = test_step e es (narrowed es) (test e) refl

filter_all : {A : Type 0} (xs : List A) → filter (λ x. true) xs ≡ xs
filter_all [] = refl
filter_all {A} (x ∷ xs) = ap (λ (ys : List A). x ∷ ys) (filter_all xs)

module _ {K X : Type 0} {R : K → K → Ordering} (o : IsTotalOrder R) (exact : IsAntisymmetric R) (p : X → Bool) (test : K × X → Bool) (within : (e : K × X) → p e.1 ≡ true → test e ≡ true) (m n : FinMap R X) (same : kept test m ≡ kept test n) where
  entries_same : filter test (entries m) ≡ filter test (entries n)
  entries_same = sym (kept_entries o exact test m) ∙ (ap entries same ∙ kept_entries o exact test n)

  -- of maps with the same such entries, a part has the same such values
  part_same : (own : K × X → Bool) → filter p (values (kept own m)) ≡ filter p (values (kept own n))
  part_same own =
      ap (λ (es : List (K × X)). filter p (map (λ x. x.1) es)) (kept_entries o exact own m)
      ∙ (narrowed p own test within (entries m)
      ∙ (ap (λ (es : List (K × X)). filter p (map (λ x. x.1) (filter own es))) entries_same
      ∙ (sym (narrowed p own test within (entries n))
      ∙ sym (ap (λ (es : List (K × X)). filter p (map (λ x. x.1) es)) (kept_entries o exact own n)))))

  all_same : filter p (values m) ≡ filter p (values n)
  all_same =
      let every = λ (es : List (K × X)). ap (λ (xs : List (K × X)). filter p (map (λ x. x.1) xs)) (filter_all es) in
      sym (every (entries m))
      ∙ (narrowed p (λ e. true) test within (entries m)
      ∙ (ap (λ (es : List (K × X)). filter p (map (λ x. x.1) (filter (λ e. true) es))) entries_same
      ∙ (sym (narrowed p (λ e. true) test within (entries n)) ∙ every (entries n))))

-- ---- reports

counted_in : (code : ℕ) (e : ItemKey × Item) → is_counted code e.1 ≡ true → (e.1.period == code) ≡ true
counted_in code e h = (and_parts e.1.lives (e.1.period == code) (and_parts (lives_in code e.1) (is_document e.1.transaction.code) h).0).1

code_by : (test : ℕ → Bool) (r q : Period) (rest : Option Period) → (rest ≡ Some q → test q.code ≡ true) → (b : Bool) → test r.code ≡ b → cond b (Some r) rest ≡ Some q → test q.code ≡ true
code_by test r q rest later true is at = ap (λ (x : Period). test x.code) (sym (same_Some r q at)) ∙ is
code_by test r q rest later false is at = later at

pub code_of : (test : ℕ → Bool) (qs : List Period) (q : Period) → find (λ r. test r.code) qs ≡ Some q → test q.code ≡ true
code_of test [] q h = absurd (cc h)
code_of test (r ∷ qs) q h = code_by test r q (find (λ x. test x.code) qs) (code_of test qs q) (test r.code) refl h

module _ (rows new : Rows) (code : ℕ) (h : IsPeriodKept code rows new) where
  both_postings : (items others : List Item) (memos other_memos : List MemoFields) → filter (is_counted code) items ≡ filter (is_counted code) others → filter (is_billed_in code) memos ≡ filter (is_billed_in code) other_memos → postings code items memos ≡ postings code others other_memos
  both_postings items others memos other_memos same also =
      ap (λ (is : List Item). map item_posting is ++ map memo_posting (filter (is_billed_in code) memos)) same
      ∙ ap (λ (ms : List MemoFields). map item_posting (filter (is_counted code) others) ++ map memo_posting ms) also

  all_postings : postings code (values new.items) (values new.memos) ≡ postings code (values rows.items) (values rows.memos)
  all_postings = both_postings (values new.items) (values rows.items) (values new.memos) (values rows.memos)
      (all_same item_total item_exact (is_counted code) (λ e. e.1.period == code) (counted_in code) new.items rows.items h.items)
      (all_same memo_total memo_exact (is_billed_in code) (λ e. is_billed_in code e.1) (λ e is. is) new.memos rows.memos h.memos)

  agent_postings : (agent : ℕ) → let l = ledger_of agent new in let k = ledger_of agent rows in postings code (values l.own.items) (values l.own.memos) ≡ postings code (values k.own.items) (values k.own.memos)
  agent_postings agent =
      let l = ledger_of agent new in
      let k = ledger_of agent rows in
      both_postings (values l.own.items) (values k.own.items) (values l.own.memos) (values k.own.memos)
      (part_same item_total item_exact (is_counted code) (λ e. e.1.period == code) (counted_in code) new.items rows.items h.items (λ e. e.0.agent == agent))
      (part_same memo_total memo_exact (is_billed_in code) (λ e. is_billed_in code e.1) (λ e is. is) new.memos rows.memos h.memos (λ e. e.1.agent == agent))

  airline_items : (airline : ℕ) → filter (is_in code) (values (airline_ledger_of airline new).own.items) ≡ filter (is_in code) (values (airline_ledger_of airline rows).own.items)
  airline_items airline = part_same item_total item_exact (is_in code) (λ e. e.1.period == code) (λ e is. is) new.items rows.items h.items (λ e. e.1.transaction.document.airline == airline)

  airline_memos : (airline : ℕ) → filter (is_billed_in code) (values (airline_ledger_of airline new).own.memos) ≡ filter (is_billed_in code) (values (airline_ledger_of airline rows).own.memos)
  airline_memos airline = part_same memo_total memo_exact (is_billed_in code) (λ e. is_billed_in code e.1) (λ e is. is) new.memos rows.memos h.memos (λ e. e.0.airline == airline)

abbrev report_of : Period → Option Terms → List Posting → Answer
report_of q terms rows = Settlement (record { period = q; terms = terms; postings = rows })

abbrev statement_of : ℕ → Bool → Period → Option Terms → List Posting → Answer
statement_of agent taxed q terms rows = Statement agent taxed (record { period = q; terms = terms; postings = rows })

abbrev hot_of : ℕ → Period → FileForm → Option Terms → List Item → List MemoFields → Answer
hot_of airline q form terms items memos = Hot airline (record { period = q; form = form; terms = terms; items = items; memos = memos })

module _ (rows new : Rows) (q : Period) (h : IsPeriodKept q.code rows new) (form : is_taxed new.published q ≡ is_taxed rows.published q) where
  settlement_same : settlement_shown (Some q) new ≡ settlement_shown (Some q) rows
  settlement_same = (λ i. report_of q (h.terms i) (all_postings rows new q.code h i))

  statement_same : (agent : ℕ) → statement_shown agent (ledger_of agent new) (Some q) ≡ statement_shown agent (ledger_of agent rows) (Some q)
  statement_same agent = (λ i. statement_of agent (form i) q (h.terms i) (agent_postings rows new q.code h agent i))

  form_same : form_of new.published q ≡ form_of rows.published q
  form_same = rw form refl

  hot_same : (airline : ℕ) → hot_shown airline (airline_ledger_of airline new) (Some q) ≡ hot_shown airline (airline_ledger_of airline rows) (Some q)
  hot_same airline = (λ i. hot_of airline q (form_same i) (h.terms i) (airline_items rows new q.code h airline i) (airline_memos rows new q.code h airline i))

pub reports_stay : ReportsStay
reports_stay office rows exchanges new code q run fits s is =
    let h = closed_stays office rows exchanges new code q run fits s is in
    let same : q.code ≡ code = eqb-true q.code code (code_of (λ n. n == code) rows.published.periods q (closed_of (is_closed rows.published code) (period_of rows.published code) q is).1) in
    let k : IsPeriodKept q.code rows new = subst (λ (n : ℕ). IsPeriodKept n rows new) (sym same) h in
    let form : is_taxed new.published q ≡ is_taxed rows.published q = h.form q is in
    let at : closed_period new.published code ≡ Some q = h.period ∙ is in (
      ap (λ found. settlement_shown found new) at ∙ (settlement_same rows new q k form ∙ sym (ap (λ found. settlement_shown found rows) is)),
      (λ agent. ap (statement_shown agent (ledger_of agent new)) at ∙ (statement_same rows new q k form agent ∙ sym (ap (statement_shown agent (ledger_of agent rows)) is))),
      (λ airline. ap (hot_shown airline (airline_ledger_of airline new)) at ∙ (hot_same rows new q k form airline ∙ sym (ap (hot_shown airline (airline_ledger_of airline rows)) is))),
    )
