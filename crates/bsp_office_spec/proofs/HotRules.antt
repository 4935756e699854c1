-- Sound rows keep the rules of a HOT file.
use Rattle.std.proofs.Common.{◌≡◌, ℕ, zero, suc, ◌≤◌, ◌==◌, ◌&&◌, Bool, true, false, cond, List, [], ◌∷◌, ◌++◌, map, Option, None, Some, Ordering, Less, refl, sym, ap, subst, ◌∙◌, inl, inr, arith, get_or}
use Rattle.std.specs.Prelude.{nat_le}
use Rattle.std.specs.Cmp.{IsTotalOrder}
use Rattle.std.specs.FinMap.{FinMap, IsAntisymmetric, entries, entries_sorted, values}
use Rattle.std.specs.FinMap.Entries.{below_all, is_sorted}
use Rattle.std.specs.List.{All, AllPairs, Contains, filter, list_all}
use Rattle.std.specs.Str.{all_ascii_digits}
use Rattle.std.proofs.lemmas.Bool.{and_parts, cond_both, eqb-true, leb-true}
use Rattle.std.proofs.lemmas.List.Elements.{All-append, All-cons, All-contains_itself, All-filter, All-head, All-map, All-nil, All-tail, filter_passes}
use Rattle.std.proofs.lemmas.List.Kept.{AllPairs-cons, AllPairs-filter}
use Rattle.bsp_rows.specs.CivilDay.{CivilDay}
use Rattle.bsp_rows.specs.CommissionTax.{CommissionTax}
use Rattle.bsp_rows.specs.DayOrder.{is_before}
use Rattle.bsp_rows.specs.Decimal.{number_of}
use Rattle.bsp_rows.specs.GroupValues.{is_document, is_group_values}
use Rattle.bsp_rows.specs.Item.{Item}
use Rattle.bsp_rows.specs.Lines.{lines}
use Rattle.bsp_rows.specs.MemoFields.{MemoFields}
use Rattle.bsp_rows.specs.MemoKind.{MemoKind}
use Rattle.bsp_rows.specs.MemoKind.TheVariants.{Debit, Credit}
use Rattle.bsp_rows.specs.Memos.{is_memo}
use Rattle.bsp_rows.specs.Owed.{is_billed_in}
use Rattle.bsp_rows.specs.Period.{Period}
use Rattle.bsp_rows.specs.Published.{Published, commission_tax_on, has_begun, later_of, latest, number_or_zero}
use Rattle.bsp_rows.specs.RelatedDocument.{RelatedDocument}
use Rattle.bsp_rows.specs.ReportedDocument.{ReportedDocument}
use Rattle.bsp_rows.specs.Requests.{taxes_within_bounds}
use Rattle.bsp_rows.specs.Rows.{Rows, is_in, item_cmp, key_of, memo_cmp, memo_key}
use Rattle.bsp_rows.specs.RulesTax.{earliest, hundredths_for}
use Rattle.bsp_rows.specs.SameContent.{same_code}
use Rattle.bsp_rows.specs.Sound.{IsSoundItem, IsSoundMemo, Sound, documents_at}
use Rattle.bsp_rows.specs.Transaction.{Transaction}
use Rattle.bsp_rows.specs.TransactionCode.{TransactionCode}
use Rattle.bsp_rows.specs.TransactionCode.TheVariants.{Tktt, Rfnd, Canx}
use Rattle.bsp_rows.specs.declared.keys.ItemKey.{ItemKey}
use Rattle.bsp_rows.specs.declared.keys.MemoKey.{MemoKey}
use Rattle.bsp_rows.proofs.ContentMakes.{makes_group}
use Rattle.bsp_rows.proofs.CountTies.{not_itself}
use Rattle.bsp_rows.proofs.KeyOrders.{item_exact, item_total, memo_exact, memo_total}
use Rattle.bsp_rows.proofs.ListLemmas.{contains_head, contains_tail, filter_contains}
use Rattle.bsp_rows.proofs.MapLemmas.{below_contains, entry_get, is_true}
use Rattle.bsp_rows.proofs.RowLemmas.{contains_map}
use Rattle.bsp_hot.specs.Rows.{Entry, code_of, is_billed, is_reported, memo_code, memo_entry, row_entry}
use Rattle.bsp_hot.specs.Sound.{AreApart, IsAccepted, IsIssued, IsOwn}
use Rattle.bsp_hot_check.specs.Checked.{HasTotals}
use Rattle.bsp_hot_check.specs.Hot.{totals_of_file}
use Rattle.bsp_hot_check.specs.Records.{number_in}
use Rattle.bsp_hot_check.specs.declared.model.HotTotals.{HotTotals}
use Rattle.bsp_messages.specs.Answers.{status_of, text_of}
use Rattle.bsp_messages.specs.declared.answer.Answer.{Answer as Message}
use Rattle.bsp_office_spec.specs.AirlineLedger.{airline_ledger_of, hot_rows}
use Rattle.bsp_office_spec.specs.HotRules.{HotFilesPass, IsTypedItem, IsTypedMemo, SoundRowsKeepRules}
use Rattle.bsp_office_spec.proofs.NetLemmas.{airline_memos}
use Rattle.bsp_office_spec.proofs.Unchanged.{airline_items}

-- ---- pairs of a list

module _ {X Y : Type 0} (R : Y → Y → Type 0) where
  pairs_map : (f : X → Y) (xs : List X) → AllPairs (λ x y. R (f x) (f y)) xs → AllPairs R (map f xs)
  pairs_map f [] pairs = λ i j d before below. absurd (omega (arith, below))
  pairs_map f (x ∷ xs) pairs =
      AllPairs-cons R (f x) (map f xs)
      (All-map (R (f x)) f xs (λ k d below. pairs zero (suc k) d (omega arith) (omega (arith, below))))
      (pairs_map f xs (λ i j d before below. pairs (suc i) (suc j) d (omega (arith, before)) (omega (arith, below))))

module _ {Y : Type 0} (R : Y → Y → Type 0) where
  pairs_append : (xs ys : List Y) → AllPairs R xs → AllPairs R ys → ((x : Y) → Contains xs x → All (R x) ys) → AllPairs R (xs ++ ys)
  pairs_append [] ys first second across = second
  pairs_append (x ∷ xs) ys first second across =
      AllPairs-cons R x (xs ++ ys)
      (All-append (R x) xs ys (λ k d below. first zero (suc k) d (omega arith) (omega (arith, below))) (across x (contains_head x xs)))
      (pairs_append xs ys (λ i j d before below. first (suc i) (suc j) d (omega (arith, before)) (omega (arith, below))) second (λ y among. across y (contains_tail x xs y among)))

-- the values of a map, where entries in the order of their keys are so
module _ {K X : Type 0} {O : K → K → Ordering} (o : IsTotalOrder O) (exact : IsAntisymmetric O) (R : X → X → Type 0) where
  sorted_pairs : (es : List (K × X)) → is_sorted O es ≡ true → ((d e : K × X) → Contains es d → Contains es e → O d.0 e.0 ≡ Less → R d.1 e.1) → AllPairs R (map (λ e. e.1) es)
  sorted_pairs [] sorted related = λ i j d before below. absurd (omega (arith, below))
  sorted_pairs (e ∷ es) sorted related =
      let both = and_parts (below_all O e.0 es) (is_sorted O es) sorted in
      AllPairs-cons R e.1 (map (λ (x : K × X). x.1) es)
      (λ k d below.
      let (x, there, same) = contains_map (λ (x : K × X). x.1) es _ (All-contains_itself (map (λ (x : K × X). x.1) es) k d below) in
      subst (R e.1) same (related e x (contains_head e es) (contains_tail e es x there) (below_contains o exact e.0 es x both.0 there)))
      (sorted_pairs es both.1 (λ c d first second less. related c d (contains_tail e es c first) (contains_tail e es d second) less))

  value_pairs : (m : FinMap O X) → ((d e : K × X) → Contains (entries m) d → Contains (entries m) e → O d.0 e.0 ≡ Less → R d.1 e.1) → AllPairs R (values m)
  value_pairs m related = sorted_pairs (entries m) (is_true _ (entries_sorted m)) related

-- ---- the tax of a plan is at most 100 percent

abbrev IsWithin : CommissionTax → Type 0
IsWithin t = t.hundredths ≤ 10_000

all_within : (ts : List CommissionTax) → list_all (λ t. nat_le t.hundredths 10_000) ts ≡ true → All IsWithin ts
all_within [] within = All-nil IsWithin
all_within (t ∷ ts) within =
    let both = and_parts (nat_le t.hundredths 10_000) (list_all (λ (u : CommissionTax). nat_le u.hundredths 10_000) ts) within in
    All-cons IsWithin t ts (leb-true t.hundredths 10_000 both.0) (all_within ts both.1)

later_within : (found : Option CommissionTax) (t : CommissionTax) → number_or_zero (λ (u : CommissionTax). u.hundredths) found ≤ 10_000 → IsWithin t → IsWithin (later_of (λ (u : CommissionTax). u.from) found t)
later_within None t first second = second
later_within (Some u) t first second = cond_both (is_before t.from u.from) u t IsWithin (λ _. first) (λ _. second)

latest_within : (ts : List CommissionTax) → All IsWithin ts → number_or_zero (λ (u : CommissionTax). u.hundredths) (latest (λ (u : CommissionTax). u.from) ts) ≤ 10_000
latest_within [] within = omega arith
latest_within (t ∷ ts) within =
    later_within (latest (λ (u : CommissionTax). u.from) ts) t (latest_within ts (All-tail IsWithin t ts within)) (All-head IsWithin t ts within)

tax_within : (p : Published) (day : CivilDay) → taxes_within_bounds p.commission_taxes ≡ true → commission_tax_on p day ≤ 10_000
tax_within p day within = latest_within (filter (has_begun day) p.commission_taxes) (All-filter (has_begun day) IsWithin p.commission_taxes (all_within p.commission_taxes within))

hundredths_within : (t : Transaction) (related : List (Option RelatedDocument)) (p : Published) → taxes_within_bounds p.commission_taxes ≡ true → (code : TransactionCode) → hundredths_for (record t { code = code }) related p ≤ 10_000
unfolding hundredths_for
hundredths_within t related p within Tktt = tax_within p t.issued within
hundredths_within t related p within Rfnd = tax_within p (earliest t.issued related) within
hundredths_within t related p within Canx = omega arith

-- ---- numbers and codes

number_digits : (d : ReportedDocument) → is_document d ≡ true → all_ascii_digits d.number ≡ true
unfolding is_document
number_digits d fits = (and_parts (all_ascii_digits d.number) (nat_le d.check_digit 9) fits).0

document_fits : (agent document passenger related amounts card parts : Bool) → (agent && document && passenger && related && amounts && card && parts) ≡ true → document ≡ true
document_fits agent true passenger related amounts card parts h = refl
document_fits true false passenger related amounts card parts h = absurd (cc h)
document_fits false false passenger related amounts card parts h = absurd (cc h)

own_digits : (t : Transaction) → is_group_values t ≡ true → all_ascii_digits t.document.number ≡ true
unfolding is_group_values
own_digits t h = number_digits t.document (document_fits (all_ascii_digits t.agent) (is_document t.document) _ _ _ _ _ h)

number_is : (text : List ℕ) → all_ascii_digits text ≡ true → number_in text ≡ number_of text
unfolding number_in
number_is text digits = ap (λ (b : Bool). cond b (number_of text) 0) digits

code_tells : (c d : TransactionCode) → code_of c ≡ code_of d → c ≡ d
code_tells Tktt Tktt same = refl
code_tells Rfnd Rfnd same = refl
code_tells Canx Canx same = refl
code_tells _ _ same = absurd cc

-- no transaction has the code of a memo
other_code : (c : TransactionCode) (k : MemoKind) → code_of c ≡ memo_code k → ⊥
other_code Tktt Debit same = absurd cc
other_code Tktt Credit same = absurd cc
other_code Rfnd Debit same = absurd cc
other_code Rfnd Credit same = absurd cc
other_code Canx Debit same = absurd cc
other_code Canx Credit same = absurd cc

-- ---- the rows of an airline and a period

module _ (rows : Rows) (airline : ℕ) (q : Period) (s : Sound rows) where
  abbrev items : List Item
  items = (hot_rows (airline_ledger_of airline rows) q).items

  abbrev memos : List MemoFields
  memos = (hot_rows (airline_ledger_of airline rows) q).memos

  abbrev bears : Item → Bool
  bears i = i.transaction.document.airline == airline

  abbrev is_from : MemoFields → Bool
  is_from m = m.airline == airline

  item_sound : (e : ItemKey × Item) → Contains (entries rows.items) e → IsSoundItem rows.published rows.agents rows.ranges rows.items e.0 e.1
  item_sound e among = s.items.each e.0 e.1 (entry_get item_total item_exact rows.items e.0 e.1 among)

  memo_sound : (e : MemoKey × MemoFields) → Contains (entries rows.memos) e → IsSoundMemo rows.published rows.agents e.0 e.1
  memo_sound e among = s.memos.each e.0 e.1 (entry_get memo_total memo_exact rows.memos e.0 e.1 among)

  -- ---- each item was accepted

  own_place : (k : ItemKey) (i : Item) → IsSoundItem rows.published rows.agents rows.ranges rows.items k i → (place : Option ReportedDocument) → Contains i.transaction.related place → IsOwn i.transaction.document.airline place
  own_place k i sound None among = tt
  own_place k i sound (Some d) among = (sound.tied.related d among).own

  accepted : (k : ItemKey) (i : Item) → IsSoundItem rows.published rows.agents rows.ranges rows.items k i → IsTypedItem i → IsAccepted i
  accepted k i sound typed = record {
    agent = typed.agent;
    group = (makes_group i.transaction typed.stored).0 sound.right.group;
    own = λ n d below. own_place k i sound _ (All-contains_itself i.transaction.related n d below);
    hundredths =
        subst (λ (n : ℕ). n ≤ 10_000) (sym sound.taxed.hundredths)
        (hundredths_within i.transaction (documents_at rows.items k.agent i.transaction) rows.published s.plan.taxes_bounds i.transaction.code);
    tax = typed.tax.size;
  }

  item_accepted : (i : Item) → Contains items i → IsTypedItem i → IsAccepted i
  item_accepted i among typed =
      let own = filter_contains (is_in q.code) (values (airline_ledger_of airline rows).own.items) i among in
      let all = filter_contains bears (values rows.items) i (subst (λ (xs : List Item). Contains xs i) (airline_items airline rows) own) in
      let (e, there, same) = contains_map (λ (x : ItemKey × Item). x.1) (entries rows.items) i all in
      let sound = subst (IsSoundItem rows.published rows.agents rows.ranges rows.items e.0) same (item_sound e there) in
      accepted e.0 i sound typed

  -- ---- each memo was issued

  memo_issued : (m : MemoFields) → Contains memos m → IsTypedMemo m → IsIssued m
  memo_issued m among typed =
      let own = filter_contains (is_billed_in q.code) (values (airline_ledger_of airline rows).own.memos) m among in
      let all = filter_contains is_from (values rows.memos) m (subst (λ (xs : List MemoFields). Contains xs m) (airline_memos rows s airline) own) in
      let (e, there, same) = contains_map (λ (x : MemoKey × MemoFields). x.1) (entries rows.memos) m all in
      record { agent = typed.agent; document = typed.document; reason = typed.reason; issued = typed.issued; memo = ap is_memo (sym same) ∙ (memo_sound e there).fit }

  -- ---- no document is there twice

  number_at : (e : ItemKey × Item) → Contains (entries rows.items) e → number_in e.1.transaction.document.number ≡ number_of e.1.transaction.document.number
  number_at e among = number_is e.1.transaction.document.number (own_digits e.1.transaction (item_sound e among).right.group)

  items_apart : (d e : ItemKey × Item) → Contains (entries rows.items) d → Contains (entries rows.items) e → item_cmp d.0 e.0 ≡ Less → AreApart (row_entry d.1) (row_entry e.1)
  items_apart d e first second less = λ same.
      let number = sym (number_at d first) ∙ (same.number ∙ number_at e second) in
      let canx = ap (λ (c : TransactionCode). same_code c Canx) (code_tells d.1.transaction.code e.1.transaction.code same.code) in
      let alike : key_of d.1 ≡ key_of e.1 = λ i. record { agent = same.agent i; number = number i; is_canx = canx i } in
      let keys = sym (item_sound d first).right.keyed ∙ (alike ∙ (item_sound e second).right.keyed) in
      not_itself item_total d.0 (ap (item_cmp d.0) keys ∙ less)

  memos_apart : (d e : MemoKey × MemoFields) → Contains (entries rows.memos) d → Contains (entries rows.memos) e → memo_cmp d.0 e.0 ≡ Less → d.1.airline ≡ airline → e.1.airline ≡ airline → AreApart (memo_entry d.1) (memo_entry e.1)
  memos_apart d e first second less own other = λ same.
      let issuer = own ∙ sym other in
      let alike : memo_key d.1 ≡ memo_key e.1 = λ i. record { airline = issuer i; document = same.number i } in
      let keys = sym (memo_sound d first).keyed ∙ (alike ∙ (memo_sound e second).keyed) in
      not_itself memo_total d.0 (ap (memo_cmp d.0) keys ∙ less)

  item_entries_apart : AllPairs AreApart (map row_entry (filter (is_reported airline q.code) items))
  item_entries_apart =
      let Apart : Item → Item → Type 0 = λ i j. AreApart (row_entry i) (row_entry j) in
      let all = AllPairs-filter Apart bears (values rows.items) (value_pairs item_total item_exact Apart rows.items items_apart) in
      let own = subst (AllPairs Apart) (sym (airline_items airline rows)) all in
      pairs_map AreApart row_entry (filter (is_reported airline q.code) items)
      (AllPairs-filter Apart (is_reported airline q.code) items (AllPairs-filter Apart (is_in q.code) (values (airline_ledger_of airline rows).own.items) own))

  memo_entries_apart : AllPairs AreApart (map memo_entry (filter (is_billed airline q.code) memos))
  memo_entries_apart =
      let Apart : MemoFields → MemoFields → Type 0 = λ m n. m.airline ≡ airline → n.airline ≡ airline → AreApart (memo_entry m) (memo_entry n) in
      let all = AllPairs-filter Apart is_from (values rows.memos) (value_pairs memo_total memo_exact Apart rows.memos memos_apart) in
      let own = subst (AllPairs Apart) (sym (airline_memos rows s airline)) all in
      let list = filter (is_billed airline q.code) memos in
      let pairs = AllPairs-filter Apart (is_billed airline q.code) memos (AllPairs-filter Apart (is_billed_in q.code) (values (airline_ledger_of airline rows).own.memos) own) in
      let passed = filter_passes (is_billed airline q.code) memos in
      let of_airline : All (λ m. m.airline ≡ airline) list = λ k d below. let m = get_or list k d in eqb-true m.airline airline (and_parts (is_from m) (is_billed_in q.code m) (passed k d below)).0 in
      pairs_map AreApart memo_entry list (λ i j d before below. pairs i j d before below (of_airline i d (omega (arith, before, below))) (of_airline j d below))

  -- an entry of an item and one of a memo
  across : (x : Entry) → Contains (map row_entry (filter (is_reported airline q.code) items)) x → All (AreApart x) (map memo_entry (filter (is_billed airline q.code) memos))
  across x among =
      let (i, there, same) = contains_map row_entry (filter (is_reported airline q.code) items) x among in
      let list = filter (is_billed airline q.code) memos in
      subst (λ (e : Entry). All (AreApart e) (map memo_entry list)) same
      (All-map (AreApart (row_entry i)) memo_entry list (λ k d below one. other_code i.transaction.code _ one.code))

pub keep_rules : SoundRowsKeepRules
keep_rules rows airline q s typed_items typed_memos =
    let own_items = items rows airline q s in
    let own_memos = memos rows airline q s in
    record {
      accepted = λ k d below. item_accepted rows airline q s _ (All-contains_itself own_items k d below) (typed_items k d below);
      issued = λ k d below. memo_issued rows airline q s _ (All-contains_itself own_memos k d below) (typed_memos k d below);
      apart = pairs_append AreApart _ _ (item_entries_apart rows airline q s) (memo_entries_apart rows airline q s) (across rows airline q s);
    }

-- ---- the text that is sent

pub hot_files_pass : HotFilesPass
hot_files_pass airline rows m (inl (file, shown, same)) ok =
    subst (λ (x : Message). (totals : HotTotals) × HasTotals (lines (text_of x)) totals) (sym same)
    (totals_of_file shown.2.file, record { file = shown.2.file; stands = shown.3; totals_are = refl })
hot_files_pass airline rows m (inr (wide, same)) ok = absurd (let refused = sym (ap status_of same) ∙ ok in cc)
