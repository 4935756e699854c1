-- Tallies grow row by row.
use Rattle.std.proofs.Common.{◌≡◌, ℕ, ◌+◌, ◌==◌, refl, ap, subst, ◌∙◌, sym, inl, inr, Bool, true, false, ◌&&◌, List, [], ◌∷◌, ◌++◌, map, length, arith, cond, IsPermutation}
use Rattle.std.specs.Prelude.{ℤ, ◌+ℤ◌, count_by}
use Rattle.std.specs.List.{filter, sum_by}
use Rattle.std.specs.Cmp.Derive.{both_true}
use Rattle.std.proofs.lemmas.Bool.{cases_Bool, and_parts, eqb-true}
use Rattle.std.proofs.lemmas.Int.{ints}
use Rattle.std.proofs.lemmas.List.Elements.{filter-append}
use Rattle.std.proofs.lemmas.List.Sums.{sum_by-cons}
use Rattle.std.proofs.lemmas.List.Sorted.{sum_by-IsPermutation, length_permutation, IsPermutation-map, IsPermutation-refl, IsPermutation-middle}
use Rattle.bsp_rules.specs.Rows.{is_canx}
use Rattle.bsp_rules.specs.Nets.{lives_in}
use Rattle.bsp_rules.specs.declared.rows.Item.{Item}
use Rattle.bsp_memos.specs.declared.fields.MemoFields.{MemoFields}
use Rattle.bsp_memos.specs.Owed.{is_billed_in}
use Rattle.bsp_statement.specs.declared.posting.Posting.{Posting}
use Rattle.bsp_statement.specs.declared.tally.Tally.{Tally}
use Rattle.bsp_statement.specs.Postings.{is_counted, item_posting, memo_posting, item_postings, memo_postings, postings}
use Rattle.bsp_statement.specs.Tallies.{IsTallyOf, counting, is_item_under, is_memo_under, is_under, is_used, items_under, no_tally, tally_posting, tally_postings, under, with_item, with_memo, with_posting}
use Rattle.bsp_statement.proofs.SumLemmas.{sums, sums-cons}
use Rattle.bsp_statement.proofs.Permutations.{IsPermutation-filter, postings_permuted, sums_permuted}

-- ---- one posting more

-- the rows with one more, in some order
abbrev pub IsMore : Posting → List Posting → List Posting → Type 0
IsMore p rows more = IsPermutation more (p ∷ rows)

sums_more : (f : Posting → ℤ) (p : Posting) (rows more : List Posting) (z : ℤ) → IsMore p rows more → z ≡ sums f rows → z +ℤ f p ≡ sums f more
sums_more f p rows more z same is =
    ap (λ (x : ℤ). x +ℤ f p) is ∙ turned (sums f rows) (f p) ∙ sym (sums-cons f p rows) ∙ sym (sums_permuted f more (p ∷ rows) same) where
      turned : (x y : ℤ) → x +ℤ y ≡ y +ℤ x
      turned x y = omega (arith, ints)

documents_more : (p : Posting) (rows more : List Posting) (n : ℕ) → IsMore p rows more → n ≡ sum_by (λ q. q.documents) rows → n + p.documents ≡ sum_by (λ q. q.documents) more
documents_more p rows more n same is =
    let e = sum_by-IsPermutation (λ q. q.documents) more (p ∷ rows) same in
    let h = sum_by-cons (λ q. q.documents) p rows in
    omega (arith, is, e, h)

length_more : (p : Posting) (rows more : List Posting) (n : ℕ) → IsMore p rows more → n ≡ length rows → n + 1 ≡ length more
length_more p rows more n same is = let e = length_permutation more (p ∷ rows) same in omega (arith, is, e)

-- ---- an item more

module _ (i : Item) (items : List Item) (memos : List MemoFields) (t : Tally) where
  abbrev later : List Posting
  later = memo_postings t.period memos

  counted_postings : (b : Bool) → is_counted t.period i ≡ b → item_postings t.period (i ∷ items) ++ later ≡ map item_posting (cond b (i ∷ filter (is_counted t.period) items) (filter (is_counted t.period) items)) ++ later
  counted_postings b is = ap (λ (c : Bool). map item_posting (cond c (i ∷ filter (is_counted t.period) items) (filter (is_counted t.period) items)) ++ later) is

  pub uncounted : is_counted t.period i ≡ false → under (i ∷ items) memos t ≡ under items memos t
  uncounted is = ap (λ (rows : List Posting). filter (is_under t) rows) (counted_postings false is)

  pub posted : (b : Bool) → is_counted t.period i ≡ true → is_under t (item_posting i) ≡ b → under (i ∷ items) memos t ≡ cond b (item_posting i ∷ under items memos t) (under items memos t)
  posted b counted is =
      ap (λ (rows : List Posting). filter (is_under t) rows) (counted_postings true counted)
      ∙ ap (λ (c : Bool). cond c (item_posting i ∷ under items memos t) (under items memos t)) is

  pub taken : (b : Bool) → is_item_under t i ≡ b → items_under (i ∷ items) t ≡ cond b (i ∷ items_under items t) (items_under items t)
  taken b is = ap (λ (c : Bool). cond c (i ∷ items_under items t) (items_under items t)) is

  other_postings : is_item_under t i ≡ false → under (i ∷ items) memos t ≡ under items memos t
  other_postings other = elim (cases_Bool (is_counted t.period i)) [
    | inl counted ↦ posted false counted (not_under (and_parts (lives_in t.period i) _ counted).0)
    | inr not_counted ↦ uncounted not_counted
  ] where
    without : (a b c l : Bool) → (a && (b && c)) ≡ false → (l && c) ≡ true → (a && b) ≡ false
    without true true true l is lives = is
    without true true false true is lives = sym lives
    without true true false false is lives = sym lives
    without true false c l is lives = refl
    without false b c l is lives = refl

    not_under : lives_in t.period i ≡ true → is_under t (item_posting i) ≡ false
    not_under = without (i.agent == t.agent) (i.transaction.document.airline == t.airline) (i.period == t.period) i.lives other

  pub other_item : is_item_under t i ≡ false → IsTallyOf items memos t → IsTallyOf (i ∷ items) memos t
  other_item other s =
      let same = sym (other_postings other) in
      let taken_same = sym (taken false other) in
      record {
        accepted = s.accepted ∙ ap (λ (is : List Item). length is) taken_same;
        canx = s.canx ∙ ap (λ (is : List Item). count_by is_canx is) taken_same;
        living = s.living ∙ ap (λ (rows : List Posting). sum_by (λ p. p.documents) rows) same;
        count = s.count ∙ ap (λ (rows : List Posting). length rows) same;
        cash = s.cash ∙ ap (λ (rows : List Posting). sums (λ p. p.cash) rows) same;
        credit = s.credit ∙ ap (λ (rows : List Posting). sums (λ p. p.credit) rows) same;
        commission = s.commission ∙ ap (λ (rows : List Posting). sums (λ p. p.commission) rows) same;
        tax = s.tax ∙ ap (λ (rows : List Posting). sums (λ p. p.tax) rows) same;
        memos = s.memos ∙ ap (λ (rows : List Posting). sums (λ p. p.memos) rows) same;
      }

  accepted_more : is_item_under t i ≡ true → IsTallyOf items memos t → t.accepted + 1 ≡ length (items_under (i ∷ items) t)
  accepted_more own s = let e = ap (λ (is : List Item). length is) (taken true own) in let h = s.accepted in omega (arith, e, h)

  canx_more : is_item_under t i ≡ true → IsTallyOf items memos t → t.canx + cond (is_canx i) 1 0 ≡ count_by is_canx (items_under (i ∷ items) t)
  canx_more own s =
      let e = ap (λ (is : List Item). count_by is_canx is) (taken true own) in
      let h = s.canx in
      let c = sum_by-cons (λ x. cond (is_canx x) 1 0) i (items_under items t) in
      omega (arith, e, h, c)

  -- the item is counted, and its postings are what they were
  counting_more : is_item_under t i ≡ true → under (i ∷ items) memos t ≡ under items memos t → IsTallyOf items memos t → IsTallyOf (i ∷ items) memos (counting i t)
  counting_more own unposted s =
      let same = sym unposted in
      record {
        accepted = accepted_more own s;
        canx = canx_more own s;
        living = s.living ∙ ap (λ (rows : List Posting). sum_by (λ p. p.documents) rows) same;
        count = s.count ∙ ap (λ (rows : List Posting). length rows) same;
        cash = s.cash ∙ ap (λ (rows : List Posting). sums (λ p. p.cash) rows) same;
        credit = s.credit ∙ ap (λ (rows : List Posting). sums (λ p. p.credit) rows) same;
        commission = s.commission ∙ ap (λ (rows : List Posting). sums (λ p. p.commission) rows) same;
        tax = s.tax ∙ ap (λ (rows : List Posting). sums (λ p. p.tax) rows) same;
        memos = s.memos ∙ ap (λ (rows : List Posting). sums (λ p. p.memos) rows) same;
      }

  -- the item is counted, and posts
  posting_more : is_item_under t i ≡ true → IsMore (item_posting i) (under items memos t) (under (i ∷ items) memos t) → IsTallyOf items memos t → IsTallyOf (i ∷ items) memos (with_posting (item_posting i) (counting i t))
  posting_more own more s =
      let p = item_posting i in
      let rows = under items memos t in
      let rows_more = under (i ∷ items) memos t in
      record {
        accepted = accepted_more own s;
        canx = canx_more own s;
        living = documents_more p rows rows_more t.living more s.living;
        count = let e = length_more p rows rows_more (t.living + t.memo_count) more s.count in omega (arith, e);
        cash = sums_more (λ q. q.cash) p rows rows_more t.cash more s.cash;
        credit = sums_more (λ q. q.credit) p rows rows_more t.credit more s.credit;
        commission = sums_more (λ q. q.commission) p rows rows_more t.commission more s.commission;
        tax = sums_more (λ q. q.tax) p rows rows_more t.tax more s.tax;
        memos = sums_more (λ q. q.memos) p rows rows_more t.memos more s.memos;
      }

  pub own_item : is_item_under t i ≡ true → IsTallyOf items memos t → IsTallyOf (i ∷ items) memos (with_item i t)
  own_item own s =
      let parts = and_parts (i.agent == t.agent) _ own in
      let tail = and_parts (i.transaction.document.airline == t.airline) (i.period == t.period) parts.1 in
      let period : i.period ≡ t.period = eqb-true i.period t.period tail.1 in
      elim (cases_Bool (is_counted i.period i)) [
        | inl counted ↦
            subst (λ (u : Tally). IsTallyOf (i ∷ items) memos u) (sym (ap (λ (b : Bool). cond b (with_posting (item_posting i) (counting i t)) (counting i t)) counted))
            (posting_more own (subst (λ (rows : List Posting). IsMore (item_posting i) (under items memos t) rows) (sym (posted true (subst (λ (q : ℕ). is_counted q i ≡ true) period counted) (both_true parts.0 tail.0))) (IsPermutation-refl _)) s)
        | inr not_counted ↦
            subst (λ (u : Tally). IsTallyOf (i ∷ items) memos u) (sym (ap (λ (b : Bool). cond b (with_posting (item_posting i) (counting i t)) (counting i t)) not_counted))
            (counting_more own (uncounted (subst (λ (q : ℕ). is_counted q i ≡ false) period not_counted)) s)
      ]

-- ---- a memo more

module _ (m : MemoFields) (items : List Item) (memos : List MemoFields) (t : Tally) where
  abbrev first : List Posting
  first = item_postings t.period items

  billed_postings : (b : Bool) → is_billed_in t.period m ≡ b → postings t.period items (m ∷ memos) ≡ first ++ map memo_posting (cond b (m ∷ filter (is_billed_in t.period) memos) (filter (is_billed_in t.period) memos))
  billed_postings b is = ap (λ (c : Bool). first ++ map memo_posting (cond c (m ∷ filter (is_billed_in t.period) memos) (filter (is_billed_in t.period) memos))) is

  pub unbilled : is_billed_in t.period m ≡ false → under items (m ∷ memos) t ≡ under items memos t
  unbilled is = ap (λ (rows : List Posting). filter (is_under t) rows) (billed_postings false is)

  -- the postings of the tally, the memo's in its place
  pub billed : (b : Bool) → is_billed_in t.period m ≡ true → is_under t (memo_posting m) ≡ b → under items (m ∷ memos) t ≡ filter (is_under t) first ++ cond b (memo_posting m ∷ filter (is_under t) (memo_postings t.period memos)) (filter (is_under t) (memo_postings t.period memos))
  billed b in_period is =
      ap (λ (rows : List Posting). filter (is_under t) rows) (billed_postings true in_period)
      ∙ filter-append (is_under t) first (memo_posting m ∷ memo_postings t.period memos)
      ∙ ap (λ (c : Bool). filter (is_under t) first ++ cond c (memo_posting m ∷ filter (is_under t) (memo_postings t.period memos)) (filter (is_under t) (memo_postings t.period memos))) is

  pub in_two : under items memos t ≡ filter (is_under t) first ++ filter (is_under t) (memo_postings t.period memos)
  in_two = filter-append (is_under t) first (memo_postings t.period memos)

  other_billed : is_memo_under t m ≡ false → under items (m ∷ memos) t ≡ under items memos t
  other_billed other = elim (cases_Bool (is_billed_in t.period m)) [
    | inl in_period ↦ billed false in_period (not_under in_period) ∙ sym in_two
    | inr elsewhere ↦ unbilled elsewhere
  ] where
    without : (a b c : Bool) → (a && (b && c)) ≡ false → c ≡ true → (a && b) ≡ false
    without true true c is passes = sym passes ∙ is
    without true false c is passes = refl
    without false b c is passes = refl

    not_under : is_billed_in t.period m ≡ true → is_under t (memo_posting m) ≡ false
    not_under = without (m.agent == t.agent) (m.airline == t.airline) (is_billed_in t.period m) other

  pub other_memo : is_memo_under t m ≡ false → IsTallyOf items memos t → IsTallyOf items (m ∷ memos) t
  other_memo other s =
      let same = sym (other_billed other) in
      record {
        accepted = s.accepted;
        canx = s.canx;
        living = s.living ∙ ap (λ (rows : List Posting). sum_by (λ p. p.documents) rows) same;
        count = s.count ∙ ap (λ (rows : List Posting). length rows) same;
        cash = s.cash ∙ ap (λ (rows : List Posting). sums (λ p. p.cash) rows) same;
        credit = s.credit ∙ ap (λ (rows : List Posting). sums (λ p. p.credit) rows) same;
        commission = s.commission ∙ ap (λ (rows : List Posting). sums (λ p. p.commission) rows) same;
        tax = s.tax ∙ ap (λ (rows : List Posting). sums (λ p. p.tax) rows) same;
        memos = s.memos ∙ ap (λ (rows : List Posting). sums (λ p. p.memos) rows) same;
      }

  memo_more : IsMore (memo_posting m) (under items memos t) (under items (m ∷ memos) t) → IsTallyOf items memos t → IsTallyOf items (m ∷ memos) (with_memo m t)
  memo_more more s =
      let p = memo_posting m in
      let rows = under items memos t in
      let rows_more = under items (m ∷ memos) t in
      record {
        accepted = s.accepted;
        canx = s.canx;
        living = documents_more p rows rows_more t.living more s.living;
        count = let e = length_more p rows rows_more (t.living + t.memo_count) more s.count in omega (arith, e);
        cash = sums_more (λ q. q.cash) p rows rows_more t.cash more s.cash;
        credit = sums_more (λ q. q.credit) p rows rows_more t.credit more s.credit;
        commission = sums_more (λ q. q.commission) p rows rows_more t.commission more s.commission;
        tax = sums_more (λ q. q.tax) p rows rows_more t.tax more s.tax;
        memos = sums_more (λ q. q.memos) p rows rows_more t.memos more s.memos;
      }

  pub own_memo : is_memo_under t m ≡ true → IsTallyOf items memos t → IsTallyOf items (m ∷ memos) (with_memo m t)
  own_memo own s =
      let parts = and_parts (m.agent == t.agent) _ own in
      let tail = and_parts (m.airline == t.airline) (is_billed_in t.period m) parts.1 in
      let place = billed true tail.1 (both_true parts.0 tail.0) in
      let more = IsPermutation-middle (filter (is_under t) first) (memo_posting m) (filter (is_under t) (memo_postings t.period memos)) in
      memo_more (subst (λ (rows : List Posting). IsMore (memo_posting m) rows (under items (m ∷ memos) t)) (sym in_two)
      (subst (λ (rows : List Posting). IsMore (memo_posting m) (filter (is_under t) first ++ filter (is_under t) (memo_postings t.period memos)) rows) (sym place) more)) s

-- ---- the order of rows and of tallies

pub tally_permuted : (items others : List Item) (memos other_memos : List MemoFields) (t : Tally) → IsPermutation items others → IsPermutation memos other_memos → IsTallyOf items memos t → IsTallyOf others other_memos t
tally_permuted items others memos other_memos t same other_same s =
    let rows = under items memos t in
    let other_rows = under others other_memos t in
    let same_rows = IsPermutation-filter (is_under t) _ _ (postings_permuted t.period items others memos other_memos same other_same) in
    let same_items = IsPermutation-filter (is_item_under t) items others same in
    record {
      accepted = s.accepted ∙ sym (length_permutation _ _ same_items);
      canx = s.canx ∙ sym (sum_by-IsPermutation (λ i. cond (is_canx i) 1 0) _ _ same_items);
      living = s.living ∙ sym (sum_by-IsPermutation (λ p. p.documents) _ _ same_rows);
      count = s.count ∙ sym (length_permutation _ _ same_rows);
      cash = s.cash ∙ sums_permuted (λ p. p.cash) _ _ same_rows;
      credit = s.credit ∙ sums_permuted (λ p. p.credit) _ _ same_rows;
      commission = s.commission ∙ sums_permuted (λ p. p.commission) _ _ same_rows;
      tax = s.tax ∙ sums_permuted (λ p. p.tax) _ _ same_rows;
      memos = s.memos ∙ sums_permuted (λ p. p.memos) _ _ same_rows;
    }

pub tally_postings_permuted : (period : ℕ) (tallies others : List Tally) → IsPermutation tallies others → IsPermutation (tally_postings period tallies) (tally_postings period others)
tally_postings_permuted period tallies others same = IsPermutation-map tally_posting _ _ (IsPermutation-filter (is_used period) tallies others same)

pub no_rows : (agent airline period : ℕ) → IsTallyOf [] [] (no_tally agent airline period)
no_rows agent airline period = record { accepted = refl; canx = refl; living = refl; count = refl; cash = refl; credit = refl; commission = refl; tax = refl; memos = refl }
