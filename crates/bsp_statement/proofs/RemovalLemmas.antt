-- Tallies shrink row by row.
use Rattle.std.proofs.Common.{◌≡◌, ℕ, suc, ◌+◌, ◌-◌, ◌==◌, refl, ap, subst, ◌∙◌, sym, inl, inr, Bool, true, false, ◌&&◌, List, [], ◌∷◌, ◌++◌, map, length, arith, cond}
use Rattle.std.specs.Prelude.{ℤ, ◌+ℤ◌, ◌-ℤ◌, count_by}
use Rattle.std.specs.List.{filter, sum_by}
use Rattle.std.specs.Cmp.Derive.{both_true}
use Rattle.std.proofs.lemmas.Bool.{cases_Bool, and_parts, eqb-true}
use Rattle.std.proofs.lemmas.Int.{ints}
use Rattle.std.proofs.lemmas.List.{length-append}
use Rattle.std.proofs.lemmas.List.Elements.{filter-append}
use Rattle.std.proofs.lemmas.List.Sums.{sum_by-append, sum_by-cons}
use Rattle.std.proofs.lemmas.List.Sorted.{sum_by-IsPermutation, length_permutation, IsPermutation-refl, IsPermutation-middle}
use Rattle.bsp_rules.specs.Rows.{is_canx}
use Rattle.bsp_rules.specs.declared.rows.Item.{Item}
use Rattle.bsp_memos.specs.declared.fields.MemoFields.{MemoFields}
use Rattle.bsp_memos.specs.Owed.{is_billed_in}
use Rattle.bsp_statement.specs.declared.posting.Posting.{Posting}
use Rattle.bsp_statement.specs.declared.tally.Tally.{Tally}
use Rattle.bsp_statement.specs.Postings.{is_counted, item_posting, item_postings, memo_posting, memo_postings}
use Rattle.bsp_statement.specs.Removal.{not_counting, without_item, without_memo, without_posting}
use Rattle.bsp_statement.specs.Tallies.{IsTallyOf, is_item_under, is_memo_under, is_under, items_under, under}
use Rattle.bsp_statement.proofs.Permutations.{sums_permuted}
use Rattle.bsp_statement.proofs.SumLemmas.{sums, sums-cons}
use Rattle.bsp_statement.proofs.TallyLemmas.{IsMore, uncounted, posted, taken, billed, in_two}

-- ---- the documents and the memos are the postings

one_more : (p : Posting) (rows : List Posting) (b : Bool) → p.documents ≡ 1 → sum_by (λ q. q.documents) rows ≡ length rows → sum_by (λ q. q.documents) (cond b (p ∷ rows) rows) ≡ length (cond b (p ∷ rows) rows)
one_more p rows true one same = let e = sum_by-cons (λ (q : Posting). q.documents) p rows in omega (arith, e, one, same)
one_more p rows false one same = same

item_documents : (test : Posting → Bool) (items : List Item) → sum_by (λ q. q.documents) (filter test (map item_posting items)) ≡ length (filter test (map item_posting items))
item_documents test [] = refl
item_documents test (i ∷ items) = one_more (item_posting i) (filter test (map item_posting items)) (test (item_posting i)) refl (item_documents test items)

none_more : (p : Posting) (rows : List Posting) (b : Bool) → p.documents ≡ 0 → sum_by (λ q. q.documents) rows ≡ 0 → sum_by (λ q. q.documents) (cond b (p ∷ rows) rows) ≡ 0
none_more p rows true none same = let e = sum_by-cons (λ (q : Posting). q.documents) p rows in omega (arith, e, none, same)
none_more p rows false none same = same

memo_documents : (test : Posting → Bool) (memos : List MemoFields) → sum_by (λ q. q.documents) (filter test (map memo_posting memos)) ≡ 0
memo_documents test [] = refl
memo_documents test (m ∷ memos) = none_more (memo_posting m) (filter test (map memo_posting memos)) (test (memo_posting m)) refl (memo_documents test memos)

module _ (t : Tally) where
  abbrev posted_memos : List MemoFields → List Posting
  posted_memos memos = filter (is_under t) (memo_postings t.period memos)

  same_step : (m : MemoFields) (memos : List MemoFields) (a b c : Bool) → length (posted_memos memos) ≡ length (filter (is_memo_under t) memos)
      → (m.agent == t.agent) ≡ a → (m.airline == t.airline) ≡ b
      → length (filter (is_under t) (map memo_posting (cond c (m ∷ filter (is_billed_in t.period) memos) (filter (is_billed_in t.period) memos)))) ≡ length (cond (a && (b && c)) (m ∷ filter (is_memo_under t) memos) (filter (is_memo_under t) memos))
  same_step m memos a b false rest p q = rest ∙ ap (λ (d : Bool). length (cond d (m ∷ filter (is_memo_under t) memos) (filter (is_memo_under t) memos))) (sym (never a b)) where
    never : (a b : Bool) → (a && (b && false)) ≡ false
    never true true = refl
    never true false = refl
    never false b = refl
  same_step m memos true true true rest p q = ap (λ (d : Bool). length (cond d (memo_posting m ∷ posted_memos memos) (posted_memos memos))) (both_true p q) ∙ ap suc rest
  same_step m memos true false true rest p q = ap (λ (d : Bool). length (cond d (memo_posting m ∷ posted_memos memos) (posted_memos memos))) (ap (λ (d : Bool). d && (m.airline == t.airline)) p ∙ q) ∙ rest
  same_step m memos false b true rest p q = ap (λ (d : Bool). length (cond d (memo_posting m ∷ posted_memos memos) (posted_memos memos))) (ap (λ (d : Bool). d && (m.airline == t.airline)) p) ∙ rest

  same_memos : (memos : List MemoFields) → length (posted_memos memos) ≡ length (filter (is_memo_under t) memos)
  same_memos [] = refl
  same_memos (m ∷ memos) = same_step m memos (m.agent == t.agent) (m.airline == t.airline) (is_billed_in t.period m) (same_memos memos) refl refl

-- each posting of a tally is of a document or of a billed memo
pub documents_and_memos : (items : List Item) (memos : List MemoFields) (t : Tally) → sum_by (λ p. p.documents) (under items memos t) + length (filter (is_memo_under t) memos) ≡ length (under items memos t)
documents_and_memos items memos t =
    let first = filter (is_under t) (item_postings t.period items) in
    let last = filter (is_under t) (memo_postings t.period memos) in
    let two = filter-append (is_under t) (item_postings t.period items) (memo_postings t.period memos) in
    let documents = ap (λ (rows : List Posting). sum_by (λ p. p.documents) rows) two ∙ sum_by-append (λ (p : Posting). p.documents) first last in
    let count = ap (λ (rows : List Posting). length rows) two ∙ length-append first last in
    let f = item_documents (is_under t) (filter (is_counted t.period) items) in
    let l = memo_documents (is_under t) (filter (is_billed_in t.period) memos) in
    let m = same_memos t memos in
    omega (arith, documents, count, f, l, m)

-- ---- one posting less

sums_less : (f : Posting → ℤ) (p : Posting) (rows more : List Posting) (z : ℤ) → IsMore p rows more → z ≡ sums f more → z -ℤ f p ≡ sums f rows
sums_less f p rows more z same is = ap (λ (x : ℤ). x -ℤ f p) (is ∙ sums_permuted f more (p ∷ rows) same ∙ sums-cons f p rows) ∙ taken_off (f p) (sums f rows) where
  taken_off : (x y : ℤ) → (x +ℤ y) -ℤ x ≡ y
  taken_off x y = omega (arith, ints)

documents_less : (p : Posting) (rows more : List Posting) (n : ℕ) → IsMore p rows more → n ≡ sum_by (λ q. q.documents) more → n - p.documents ≡ sum_by (λ q. q.documents) rows
documents_less p rows more n same is =
    let e = sum_by-IsPermutation (λ q. q.documents) more (p ∷ rows) same in
    let h = sum_by-cons (λ q. q.documents) p rows in
    omega (arith, is, e, h)

-- ---- an item less

module _ (i : Item) (items : List Item) (memos : List MemoFields) (t : Tally) where
  accepted_less : is_item_under t i ≡ true → IsTallyOf (i ∷ items) memos t → t.accepted - 1 ≡ length (items_under items t)
  accepted_less own s = let e = ap (λ (is : List Item). length is) (taken i items memos t true own) in let h = s.accepted in omega (arith, e, h)

  canx_less : is_item_under t i ≡ true → IsTallyOf (i ∷ items) memos t → t.canx - cond (is_canx i) 1 0 ≡ count_by is_canx (items_under items t)
  canx_less own s =
      let e = ap (λ (is : List Item). count_by is_canx is) (taken i items memos t true own) in
      let h = s.canx in
      let c = sum_by-cons (λ x. cond (is_canx x) 1 0) i (items_under items t) in
      omega (arith, e, h, c)

  -- the item is not counted any more, and the postings are what they were
  counting_less : is_item_under t i ≡ true → under (i ∷ items) memos t ≡ under items memos t → IsTallyOf (i ∷ items) memos t → IsTallyOf items memos (not_counting i t)
  counting_less own same s =
      record {
        accepted = accepted_less own s;
        canx = canx_less own s;
        living = s.living ∙ ap (λ (rows : List Posting). sum_by (λ p. p.documents) rows) same;
        count = s.count ∙ ap (λ (rows : List Posting). length rows) same;
        cash = s.cash ∙ ap (λ (rows : List Posting). sums (λ p. p.cash) rows) same;
        credit = s.credit ∙ ap (λ (rows : List Posting). sums (λ p. p.credit) rows) same;
        commission = s.commission ∙ ap (λ (rows : List Posting). sums (λ p. p.commission) rows) same;
        tax = s.tax ∙ ap (λ (rows : List Posting). sums (λ p. p.tax) rows) same;
        memos = s.memos ∙ ap (λ (rows : List Posting). sums (λ p. p.memos) rows) same;
      }

  -- the item is not counted any more, and posts no more
  posting_less : is_item_under t i ≡ true → IsMore (item_posting i) (under items memos t) (under (i ∷ items) memos t) → IsTallyOf (i ∷ items) memos t → IsTallyOf items memos (without_posting (item_posting i) (not_counting i t))
  posting_less own more s =
      let p = item_posting i in
      let rows = under items memos t in
      let rows_more = under (i ∷ items) memos t in
      record {
        accepted = accepted_less own s;
        canx = canx_less own s;
        living = documents_less p rows rows_more t.living more s.living;
        count =
            let e = length_permutation rows_more (p ∷ rows) more in
            let d = sum_by-IsPermutation (λ q. q.documents) rows_more (p ∷ rows) more in
            let c = sum_by-cons (λ (q : Posting). q.documents) p rows in
            let h = s.count in
            let l = s.living in
            omega (arith, e, d, c, h, l);
        cash = sums_less (λ q. q.cash) p rows rows_more t.cash more s.cash;
        credit = sums_less (λ q. q.credit) p rows rows_more t.credit more s.credit;
        commission = sums_less (λ q. q.commission) p rows rows_more t.commission more s.commission;
        tax = sums_less (λ q. q.tax) p rows rows_more t.tax more s.tax;
        memos = sums_less (λ q. q.memos) p rows rows_more t.memos more s.memos;
      }

  pub own_item : is_item_under t i ≡ true → IsTallyOf (i ∷ items) memos t → IsTallyOf items memos (without_item i t)
  own_item own s =
      let parts = and_parts (i.agent == t.agent) _ own in
      let tail = and_parts (i.transaction.document.airline == t.airline) (i.period == t.period) parts.1 in
      let period : i.period ≡ t.period = eqb-true i.period t.period tail.1 in
      elim (cases_Bool (is_counted i.period i)) [
        | inl counted ↦
            subst (λ (u : Tally). IsTallyOf items memos u) (sym (ap (λ (b : Bool). cond b (without_posting (item_posting i) (not_counting i t)) (not_counting i t)) counted))
            (posting_less own (subst (λ (rows : List Posting). IsMore (item_posting i) (under items memos t) rows) (sym (posted i items memos t true (subst (λ (q : ℕ). is_counted q i ≡ true) period counted) (both_true parts.0 tail.0))) (IsPermutation-refl _)) s)
        | inr not_counted ↦
            subst (λ (u : Tally). IsTallyOf items memos u) (sym (ap (λ (b : Bool). cond b (without_posting (item_posting i) (not_counting i t)) (not_counting i t)) not_counted))
            (counting_less own (uncounted i items memos t (subst (λ (q : ℕ). is_counted q i ≡ false) period not_counted)) s)
      ]

-- ---- a memo less

module _ (m : MemoFields) (items : List Item) (memos : List MemoFields) (t : Tally) where
  memo_less : IsMore (memo_posting m) (under items memos t) (under items (m ∷ memos) t) → IsTallyOf items (m ∷ memos) t → IsTallyOf items memos (without_memo m t)
  memo_less more s =
      let p = memo_posting m in
      let rows = under items memos t in
      let rows_more = under items (m ∷ memos) t in
      record {
        accepted = s.accepted;
        canx = s.canx;
        living = documents_less p rows rows_more t.living more s.living;
        count =
            let e = length_permutation rows_more (p ∷ rows) more in
            let d = documents_less p rows rows_more t.living more s.living in
            let b = documents_and_memos items memos t in
            let h = s.count in
            omega (arith, e, d, b, h);
        cash = sums_less (λ q. q.cash) p rows rows_more t.cash more s.cash;
        credit = sums_less (λ q. q.credit) p rows rows_more t.credit more s.credit;
        commission = sums_less (λ q. q.commission) p rows rows_more t.commission more s.commission;
        tax = sums_less (λ q. q.tax) p rows rows_more t.tax more s.tax;
        memos = sums_less (λ q. q.memos) p rows rows_more t.memos more s.memos;
      }

  pub own_memo : is_memo_under t m ≡ true → IsTallyOf items (m ∷ memos) t → IsTallyOf items memos (without_memo m t)
  own_memo own s =
      let first = item_postings t.period items in
      let parts = and_parts (m.agent == t.agent) _ own in
      let tail = and_parts (m.airline == t.airline) (is_billed_in t.period m) parts.1 in
      let place = billed m items memos t true tail.1 (both_true parts.0 tail.0) in
      let more = IsPermutation-middle (filter (is_under t) first) (memo_posting m) (filter (is_under t) (memo_postings t.period memos)) in
      memo_less (subst (λ (rows : List Posting). IsMore (memo_posting m) rows (under items (m ∷ memos) t)) (sym (in_two m items memos t))
      (subst (λ (rows : List Posting). IsMore (memo_posting m) (filter (is_under t) first ++ filter (is_under t) (memo_postings t.period memos)) rows) (sym place) more)) s
