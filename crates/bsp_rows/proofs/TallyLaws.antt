-- The tally of a key is the sums of the rows.
use Rattle.std.proofs.Common.{◌≡◌, ℕ, suc, ◌+◌, ◌==◌, ◌&&◌, Bool, true, false, cond, List, [], ◌∷◌, ◌++◌, map, length, refl, sym, ap, ◌∙◌, arith, length-append}
use Rattle.std.specs.List.{filter, sum_by}
use Rattle.std.specs.FinMap.{values}
use Rattle.std.proofs.lemmas.List.Elements.{filter-append}
use Rattle.std.proofs.lemmas.List.Sums.{sum_by-append, sum_by-cons}
use Rattle.bsp_rules.specs.declared.rows.Item.{Item}
use Rattle.bsp_memos.specs.declared.fields.MemoFields.{MemoFields}
use Rattle.bsp_memos.specs.Owed.{is_billed_in}
use Rattle.bsp_statement.specs.Postings.{is_counted, item_posting, item_postings, memo_posting, memo_postings}
use Rattle.bsp_statement.specs.Tallies.{IsTallyOf, is_memo_under, is_under, under}
use Rattle.bsp_statement.specs.declared.posting.Posting.{Posting}
use Rattle.bsp_statement.specs.declared.tally.Tally.{Tally}
use Rattle.bsp_rows.specs.Laws.{OneTally, TalliesAreSums}
use Rattle.bsp_rows.specs.Tallies.{added_up, key_tally}
use Rattle.bsp_rows.specs.declared.keys.TallyKey.{TallyKey}

abbrev documents : List Posting → ℕ
documents rows = sum_by (λ p. p.documents) rows

abbrev of_key : Tally → List Posting → List Posting
of_key t rows = filter (is_under t) rows

-- ---- items have one document each, and memos none

one_step : (i : Item) (rest : List Posting) (here : Bool) → documents rest ≡ length rest → documents (cond here (item_posting i ∷ rest) rest) ≡ length (cond here (item_posting i ∷ rest) rest)
one_step i rest true h = sum_by-cons (λ (p : Posting). p.documents) (item_posting i) rest ∙ (ap (λ (n : ℕ). 1 + n) h ∙ omega arith)
one_step i rest false h = h

one_each : (t : Tally) (is : List Item) → documents (of_key t (map item_posting is)) ≡ length (of_key t (map item_posting is))
one_each t [] = refl
one_each t (i ∷ is) = one_step i (of_key t (map item_posting is)) (is_under t (item_posting i)) (one_each t is)

none_step : (m : MemoFields) (rest : List Posting) (here : Bool) → documents rest ≡ 0 → documents (cond here (memo_posting m ∷ rest) rest) ≡ 0
none_step m rest true h = sum_by-cons (λ (p : Posting). p.documents) (memo_posting m) rest ∙ (ap (λ (n : ℕ). 0 + n) h ∙ omega arith)
none_step m rest false h = h

none_each : (t : Tally) (ms : List MemoFields) → documents (of_key t (map memo_posting ms)) ≡ 0
none_each t [] = refl
none_each t (m ∷ ms) = none_step m (of_key t (map memo_posting ms)) (is_under t (memo_posting m)) (none_each t ms)

-- ---- the memos that are billed are those that post

memo_step : (t : Tally) (m : MemoFields) (ms : List MemoFields) (rest : List Posting) → length (of_key t rest) ≡ length (filter (is_memo_under t) ms) → (agent airline billed : Bool) → (m.agent == t.agent) ≡ agent → (m.airline == t.airline) ≡ airline →
    length (of_key t (cond billed (memo_posting m ∷ rest) rest)) ≡ length (cond (agent && (airline && billed)) (m ∷ filter (is_memo_under t) ms) (filter (is_memo_under t) ms))
memo_step t m ms rest h true true true a l = ap (λ b. length (cond b (memo_posting m ∷ of_key t rest) (of_key t rest))) ((λ i. a i && l i)) ∙ ap (λ (n : ℕ). suc n) h
memo_step t m ms rest h true true false a l = h
memo_step t m ms rest h true false true a l = ap (λ b. length (cond b (memo_posting m ∷ of_key t rest) (of_key t rest))) ((λ i. a i && l i)) ∙ h
memo_step t m ms rest h true false false a l = h
memo_step t m ms rest h false airline true a l = ap (λ b. length (cond b (memo_posting m ∷ of_key t rest) (of_key t rest))) ((λ i. a i && l i)) ∙ h
memo_step t m ms rest h false airline false a l = h

memos_under : (t : Tally) (ms : List MemoFields) → length (of_key t (memo_postings t.period ms)) ≡ length (filter (is_memo_under t) ms)
memos_under t [] = refl
memos_under t (m ∷ ms) = mapped_first (is_billed_in t.period m) ∙ memo_step t m ms (memo_postings t.period ms) (memos_under t ms) (m.agent == t.agent) (m.airline == t.airline) (is_billed_in t.period m) refl refl where
  mapped_first : (b : Bool) → length (of_key t (map memo_posting (cond b (m ∷ filter (is_billed_in t.period) ms) (filter (is_billed_in t.period) ms)))) ≡ length (of_key t (cond b (memo_posting m ∷ memo_postings t.period ms) (memo_postings t.period ms)))
  mapped_first true = refl
  mapped_first false = refl

-- ---- the count

counted : (t : Tally) (items : List Item) (memos : List MemoFields) → documents (under items memos t) + length (filter (is_memo_under t) memos) ≡ length (under items memos t)
counted t items memos =
    let own : List Posting = item_postings t.period items in
    let others : List Posting = memo_postings t.period memos in
    let split : under items memos t ≡ of_key t own ++ of_key t others = filter-append (is_under t) own others in
    let one = one_each t (filter (is_counted t.period) items) in
    let none = none_each t (filter (is_billed_in t.period) memos) in
    let all = sum_by-append (λ (p : Posting). p.documents) (of_key t own) (of_key t others) in
    let long = length-append (of_key t own) (of_key t others) in
    let same = memos_under t memos in
    ap (λ (rows : List Posting). documents rows + length (filter (is_memo_under t) memos)) split
    ∙ (omega (arith, one, none, all, long, same) ∙ sym (ap length split))

pub tallies_sum : TalliesAreSums
tallies_sum k rows = record {
  accepted = refl;
  canx = refl;
  living = refl;
  count = counted (key_tally k) (values rows.items) (values rows.memos);
  cash = refl;
  credit = refl;
  commission = refl;
  tax = refl;
  memos = refl;
}

-- ---- no other tally

same_tally : (items : List Item) (memos : List MemoFields) (t : Tally) → IsTallyOf items memos t → t ≡ added_up t items memos
same_tally items memos t h =
    let total = counted t items memos in
    let living = h.living in
    let count = h.count in
    let memo_count : t.memo_count ≡ length (filter (is_memo_under t) memos) = omega (arith, total, living, count) in
    λ i. record t {
      accepted = h.accepted i;
      living = h.living i;
      canx = h.canx i;
      memo_count = memo_count i;
      cash = h.cash i;
      credit = h.credit i;
      commission = h.commission i;
      tax = h.tax i;
      memos = h.memos i;
    }

keyed : (items : List Item) (memos : List MemoFields) (k : TallyKey) (t : Tally) → t.agent ≡ k.agent → t.airline ≡ k.airline → t.period ≡ k.period → added_up t items memos ≡ added_up (key_tally k) items memos
keyed items memos k t a l p = λ i. added_up (record (key_tally k) { agent = a i; airline = l i; period = p i }) items memos

pub one_tally : OneTally
one_tally k rows t a l p h = same_tally (values rows.items) (values rows.memos) t h ∙ keyed (values rows.items) (values rows.memos) k t a l p
