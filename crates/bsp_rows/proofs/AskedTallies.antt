-- The tallies that are asked for are those of the rows that are asked for.
use Rattle.std.proofs.Common.{◌≡◌, ℕ, ◌==◌, ◌&&◌, Bool, true, false, cond, List, [], ◌∷◌, ◌++◌, map, length, count_by, Option, Some, None, is_some, option_map, refl, sym, ap, subst, ◌∙◌, inl, inr, arith, Less}
use Rattle.std.specs.List.{AllPairs, Contains, filter, filter_map, list_any, sum_by}
use Rattle.std.specs.Ordering.{eq_by_cmp}
use Rattle.std.specs.FinMap.{FinMap, entries, entries_sorted, from_entries, values, contains_key-keys, get-from_entries, is_sorted}
use Rattle.std.specs.FinMap.Entries.{below_all, is_some-find}
use Rattle.std.proofs.lemmas.Bool.{and_parts, and_from, eqb-true, eq-eqb, false_from_ne_true}
use Rattle.std.proofs.lemmas.List.Elements.{All-contains_itself, Contains-append_cases, filter-append, filter_agree}
use Rattle.std.proofs.lemmas.List.Kept.{AllPairs-cons}
use Rattle.bsp_calendar.proofs.ListLemmas.{contains_head, contains_tail, contains_cases, contains_none, contains_filter, filter_contains, filter_holds}
use Rattle.bsp_calendar.proofs.ListedLemmas.{contains_any}
use Rattle.bsp_rules.specs.Nets.{lives_in}
use Rattle.bsp_rules.specs.Rows.{is_canx}
use Rattle.bsp_rules.specs.declared.rows.Item.{Item}
use Rattle.bsp_memos.specs.declared.fields.MemoFields.{MemoFields}
use Rattle.bsp_memos.specs.Owed.{is_billed_in, is_period}
use Rattle.bsp_statement.proofs.ListLemmas.{filter_filter}
use Rattle.bsp_statement.specs.Postings.{is_counted, is_document, item_posting, item_postings, memo_posting, memo_postings, postings}
use Rattle.bsp_statement.specs.Tallies.{IsTallyOf, is_item_under, is_under, items_under, same_key as same_tally, under}
use Rattle.bsp_statement.specs.Nets.{cash_of, commission_of, credit_of, memos_of, tax_of}
use Rattle.bsp_statement.specs.declared.posting.Posting.{Posting}
use Rattle.bsp_statement.specs.declared.tally.Tally.{Tally}
use Rattle.bsp_rows.specs.Laws.{AskedAreTallies, is_billing_asked, is_item_asked, is_key_asked}
use Rattle.bsp_rows.specs.Rows.{Rows}
use Rattle.bsp_rows.specs.Tallies.{item_tally_key, is_tally_asked, key_tally, memo_tally_key, rising_keys, tallies_of, tally_cmp, tally_of, used_keys}
use Rattle.bsp_rows.specs.declared.keys.TallyKey.{TallyKey}
use Rattle.bsp_rows.specs.declared.questions.Tallies.{Tallies}
use Rattle.bsp_rows.proofs.CountTies.{key_decides, not_itself}
use Rattle.bsp_rows.proofs.ItemTies.{tally_test, any_true}
use Rattle.bsp_rows.proofs.KeyOrders.{tally_total, tally_exact}
use Rattle.bsp_rows.proofs.MapLemmas.{below_contains, is_true, same_key, same_Some}
use Rattle.bsp_rows.proofs.PartLaws.{filter-map}
use Rattle.bsp_rows.proofs.RowLemmas.{contains_map, mapped}
use Rattle.bsp_rows.proofs.TallyLaws.{tallies_sum}

-- a test that follows from another may stand before it
weaker : (asked test : Bool) → (test ≡ true → asked ≡ true) → (asked && test) ≡ test
weaker true test h = refl
weaker false false h = refl
weaker false true h = absurd (cc (h refl))

three : (asked first second : Bool) → ((first && second) ≡ true → asked ≡ true) → ((asked && first) && second) ≡ (first && second)
three true first second h = refl
three false false second h = refl
three false true false h = refl
three false true true h = absurd (cc (h refl))

-- ---- lists

in_front : {A : Type 0} (xs ys : List A) (x : A) → Contains xs x → Contains (xs ++ ys) x
in_front [] ys x h = contains_none x h
in_front (z ∷ zs) ys x h =
    elim (contains_cases z zs x h) [
      | inl here ↦ subst (λ y. Contains (z ∷ (zs ++ ys)) y) here (contains_head z (zs ++ ys))
      | inr there ↦ contains_tail z (zs ++ ys) x (in_front zs ys x there)
    ]

behind : {A : Type 0} (xs ys : List A) (x : A) → Contains ys x → Contains (xs ++ ys) x
behind [] ys x h = h
behind (z ∷ zs) ys x h = contains_tail z (zs ++ ys) x (behind zs ys x h)

abbrev with_front : {B : Type 0} → Option B → List B → List B
with_front None rest = rest
with_front (Some y) rest = y ∷ rest

here_some : {B : Type 0} (o : Option B) (y : B) (rest : List B) → o ≡ Some y → Contains (with_front o rest) y
here_some None y rest h = absurd (cc h)
here_some (Some z) y rest h = subst (λ x. Contains (z ∷ rest) x) (same_Some z y h) (contains_head z rest)

there_some : {B : Type 0} (o : Option B) (y : B) (rest : List B) → Contains rest y → Contains (with_front o rest) y
there_some None y rest h = h
there_some (Some z) y rest h = contains_tail z rest y h

among_some : {A B : Type 0} (f : A → Option B) (xs : List A) (x : A) (y : B) → Contains xs x → f x ≡ Some y → Contains (filter_map f xs) y
among_some f [] x y in' h = contains_none x in'
among_some f (z ∷ zs) x y in' h =
    elim (contains_cases z zs x in') [
      | inl here ↦ here_some (f z) y (filter_map f zs) (ap f here ∙ h)
      | inr there ↦ there_some (f z) y (filter_map f zs) (among_some f zs x y there h)
    ]

-- ---- keys

item_key_is : (k : TallyKey) (i : Item) → is_item_under (key_tally k) i ≡ true → item_tally_key i ≡ k
item_key_is k i h = sym (same_key tally_exact k (item_tally_key i) (tally_test k i ∙ h))

item_posts_under : (k : TallyKey) (i : Item) → (is_counted k.period i && is_under (key_tally k) (item_posting i)) ≡ true → item_tally_key i ≡ k
item_posts_under k i h =
    let both = and_parts (is_counted k.period i) (is_under (key_tally k) (item_posting i)) h in
    let parties = and_parts (i.agent == k.agent) (i.transaction.document.airline == k.airline) both.1 in
    let period = (and_parts i.lives (i.period == k.period) (and_parts (lives_in k.period i) (is_document i.transaction.code) both.0).0).1 in
    item_key_is k i (and_from (i.agent == k.agent) ((i.transaction.document.airline == k.airline) && (i.period == k.period)) parties.0 (and_from (i.transaction.document.airline == k.airline) (i.period == k.period) parties.1 period))

billed_period : (o : Option ℕ) (period : ℕ) → is_period period o ≡ true → o ≡ Some period
billed_period None period h = absurd (cc h)
billed_period (Some x) period h = ap (λ (y : ℕ). Some y) (eqb-true x period h)

memo_key_is : (m : MemoFields) (period : ℕ) → is_billed_in period m ≡ true → memo_tally_key m ≡ Some (record { agent = m.agent; airline = m.airline; period = period })
memo_key_is m period h = ap (option_map (λ (p : ℕ). record { agent = m.agent; airline = m.airline; period = p })) (billed_period m.billed period h)

memo_posts_under : (k : TallyKey) (m : MemoFields) → (is_billed_in k.period m && is_under (key_tally k) (memo_posting m)) ≡ true → memo_tally_key m ≡ Some k
memo_posts_under k m h =
    let both = and_parts (is_billed_in k.period m) (is_under (key_tally k) (memo_posting m)) h in
    let parties = and_parts (m.agent == k.agent) (m.airline == k.airline) both.1 in
    let a = eqb-true m.agent k.agent parties.0 in
    let l = eqb-true m.airline k.airline parties.1 in
    memo_key_is m k.period both.0 ∙ (λ i. Some (record { agent = a i; airline = l i; period = k.period }))

-- ---- each tally

module _ (which : Tallies) (is : List Item) (ms : List MemoFields) (k : TallyKey) (asked : is_tally_asked which k ≡ true) where
  abbrev own : List Item
  own = filter (is_item_asked which) is

  abbrev billed : List MemoFields
  billed = filter (is_billing_asked which) ms

  same_items : items_under own (key_tally k) ≡ items_under is (key_tally k)
  same_items =
      filter_filter (is_item_asked which) (is_item_under (key_tally k)) is
      ∙ filter_agree _ _ (λ i. weaker (is_item_asked which i) (is_item_under (key_tally k) i) (λ h. ap (is_tally_asked which) (item_key_is k i h) ∙ asked)) is

  same_item_postings : filter (is_under (key_tally k)) (item_postings k.period own) ≡ filter (is_under (key_tally k)) (item_postings k.period is)
  same_item_postings =
      filter-map (is_under (key_tally k)) item_posting (filter (is_counted k.period) own)
      ∙ (ap (map item_posting) (
      ap (filter (λ (i : Item). is_under (key_tally k) (item_posting i))) (filter_filter (is_item_asked which) (is_counted k.period) is)
      ∙ (filter_filter (λ (i : Item). is_item_asked which i && is_counted k.period i) (λ (i : Item). is_under (key_tally k) (item_posting i)) is
      ∙ (filter_agree _ _ (λ i. three (is_item_asked which i) (is_counted k.period i) (is_under (key_tally k) (item_posting i)) (λ h. ap (is_tally_asked which) (item_posts_under k i h) ∙ asked)) is
      ∙ sym (filter_filter (is_counted k.period) (λ (i : Item). is_under (key_tally k) (item_posting i)) is))))
      ∙ sym (filter-map (is_under (key_tally k)) item_posting (filter (is_counted k.period) is)))

  same_memo_postings : filter (is_under (key_tally k)) (memo_postings k.period billed) ≡ filter (is_under (key_tally k)) (memo_postings k.period ms)
  same_memo_postings =
      filter-map (is_under (key_tally k)) memo_posting (filter (is_billed_in k.period) billed)
      ∙ (ap (map memo_posting) (
      ap (filter (λ (m : MemoFields). is_under (key_tally k) (memo_posting m))) (filter_filter (is_billing_asked which) (is_billed_in k.period) ms)
      ∙ (filter_filter (λ (m : MemoFields). is_billing_asked which m && is_billed_in k.period m) (λ (m : MemoFields). is_under (key_tally k) (memo_posting m)) ms
      ∙ (filter_agree _ _ (λ m. three (is_billing_asked which m) (is_billed_in k.period m) (is_under (key_tally k) (memo_posting m)) (λ h. ap (is_key_asked which) (memo_posts_under k m h) ∙ asked)) ms
      ∙ sym (filter_filter (is_billed_in k.period) (λ (m : MemoFields). is_under (key_tally k) (memo_posting m)) ms))))
      ∙ sym (filter-map (is_under (key_tally k)) memo_posting (filter (is_billed_in k.period) ms)))

  same_under : under own billed (key_tally k) ≡ under is ms (key_tally k)
  same_under =
      filter-append (is_under (key_tally k)) (item_postings k.period own) (memo_postings k.period billed)
      ∙ ((λ i. same_item_postings i ++ same_memo_postings i)
      ∙ sym (filter-append (is_under (key_tally k)) (item_postings k.period is) (memo_postings k.period ms)))

each_tally : (which : Tallies) (rows : Rows) (k : TallyKey) → is_tally_asked which k ≡ true → IsTallyOf (filter (is_item_asked which) (values rows.items)) (filter (is_billing_asked which) (values rows.memos)) (tally_of k rows)
each_tally which rows k asked =
    let s = tallies_sum k rows in
    let items = sym (same_items which (values rows.items) (values rows.memos) k asked) in
    let rest = sym (same_under which (values rows.items) (values rows.memos) k asked) in
    record {
      accepted = s.accepted ∙ ap length items;
      canx = s.canx ∙ ap (count_by is_canx) items;
      living = s.living ∙ ap (sum_by (λ (p : Posting). p.documents)) rest;
      count = s.count ∙ ap length rest;
      cash = s.cash ∙ ap cash_of rest;
      credit = s.credit ∙ ap credit_of rest;
      commission = s.commission ∙ ap commission_of rest;
      tax = s.tax ∙ ap tax_of rest;
      memos = s.memos ∙ ap memos_of rest;
    }

-- ---- no two of one key

module _ (which : Tallies) (rows : Rows) where
  abbrev tally : TallyKey → Tally
  tally k = tally_of k rows

  differ : (a b : TallyKey) → tally_cmp a b ≡ Less → same_tally (tally a) (tally b) ≡ false
  differ a b less = false_from_ne_true _ (λ h.
      let outer = and_parts (a.agent == b.agent) ((a.airline == b.airline) && (a.period == b.period)) h in
      let inner = and_parts (a.airline == b.airline) (a.period == b.period) outer.1 in
      let agent = eqb-true a.agent b.agent outer.0 in
      let airline = eqb-true a.airline b.airline inner.0 in
      let period = eqb-true a.period b.period inner.1 in
      let same : a ≡ b = λ i. record { agent = agent i; airline = airline i; period = period i } in
      not_itself tally_total a (ap (tally_cmp a) same ∙ less))

  abbrev Apart : Tally → Tally → Type 0
  Apart s t = same_tally s t ≡ false

  once_step : (e : TallyKey × Unit {0}) (es : List (TallyKey × Unit {0})) → below_all tally_cmp e.0 es ≡ true → (rest : List Tally) → rest ≡ map tally (filter (is_tally_asked which) (map (λ x. x.0) es)) → AllPairs Apart rest → (b : Bool) → AllPairs Apart (map tally (cond b (e.0 ∷ filter (is_tally_asked which) (map (λ x. x.0) es)) (filter (is_tally_asked which) (map (λ x. x.0) es))))
  once_step e es below rest is pairs true =
      AllPairs-cons Apart (tally e.0) (map tally (filter (is_tally_asked which) (map (λ x. x.0) es))) (λ i d within.
      let list = map tally (filter (is_tally_asked which) (map (λ x. x.0) es)) in
      let (k, there, same) = contains_map tally (filter (is_tally_asked which) (map (λ x. x.0) es)) _ (All-contains_itself list i d within) in
      let (x, in', key) = contains_map (λ (x : TallyKey × Unit {0}). x.0) es k (filter_contains (is_tally_asked which) (map (λ x. x.0) es) k there) in
      subst (λ (t : Tally). Apart (tally e.0) t) same (differ e.0 k (subst (λ (y : TallyKey). tally_cmp e.0 y ≡ Less) key (below_contains tally_total tally_exact e.0 es x below in'))))
      (subst (AllPairs Apart) is pairs)
  once_step e es below rest is pairs false = subst (AllPairs Apart) is pairs

  once_sorted : (es : List (TallyKey × Unit {0})) → is_sorted tally_cmp es ≡ true → AllPairs Apart (map tally (filter (is_tally_asked which) (map (λ x. x.0) es)))
  once_sorted [] h = λ i j d lt within. absurd (omega arith)
  once_sorted (e ∷ es) h =
      let both = and_parts (below_all tally_cmp e.0 es) (is_sorted tally_cmp es) h in
      once_step e es both.0 (map tally (filter (is_tally_asked which) (map (λ x. x.0) es))) refl (once_sorted es both.1) (is_tally_asked which e.0)

  abbrev used_map : FinMap tally_cmp (Unit {0})
  used_map = from_entries (map (λ k. (k, tt {0})) (used_keys rows))

  once : AllPairs Apart (tallies_of which rows)
  once = once_sorted (entries used_map) (is_true _ (entries_sorted used_map))

  -- ---- each posting is under one

  some_there : (k : TallyKey) → Contains (used_keys rows) k → list_any (eq_by_cmp tally_cmp k) (rising_keys rows) ≡ true
  some_there k in' =
      sym (contains_key-keys used_map k)
      ∙ (ap is_some (get-from_entries tally_total (map (λ (x : TallyKey). (x, tt {0})) (used_keys rows)) k)
      ∙ (is_some-find tally_cmp k (map (λ (x : TallyKey). (x, tt {0})) (used_keys rows))
      ∙ any_true (eq_by_cmp tally_cmp k) (map (λ e. e.0) (map (λ (x : TallyKey). (x, tt {0})) (used_keys rows))) k (mapped (λ (e : TallyKey × Unit {0}). e.0) (map (λ (x : TallyKey). (x, tt {0})) (used_keys rows)) (k, tt) (mapped (λ (x : TallyKey). (x, tt {0})) (used_keys rows) k in')) ((key_decides tally_total tally_exact k k).1 refl)))

  rising : (k : TallyKey) → Contains (used_keys rows) k → Contains (rising_keys rows) k
  rising k in' =
      let (x, there, same) = contains_any (eq_by_cmp tally_cmp k) (rising_keys rows) (some_there k in') in
      subst (λ (y : TallyKey). Contains (rising_keys rows) y) (sym (same_key tally_exact k x same)) there

  listed : (k : TallyKey) → Contains (used_keys rows) k → is_tally_asked which k ≡ true → Contains (tallies_of which rows) (tally k)
  listed k in' asked = mapped tally (filter (is_tally_asked which) (rising_keys rows)) k (contains_filter (is_tally_asked which) (rising_keys rows) k (rising k in') asked)

  front_used : (k : TallyKey) → Contains (map item_tally_key (values rows.items)) k → Contains (used_keys rows) k
  front_used k in' = in_front (map item_tally_key (values rows.items)) (filter_map memo_tally_key (values rows.memos)) k in'

  back_used : (k : TallyKey) → Contains (filter_map memo_tally_key (values rows.memos)) k → Contains (used_keys rows) k
  back_used k in' = behind (map item_tally_key (values rows.items)) (filter_map memo_tally_key (values rows.memos)) k in'

  abbrev IsUnderOne : ℕ → Posting → Type 0
  IsUnderOne period p = (t : Tally) × Contains (tallies_of which rows) t × (t.period ≡ period) × (is_under t p ≡ true)

  item_under_one : (period : ℕ) (p : Posting) → Contains (item_postings period (filter (is_item_asked which) (values rows.items))) p → IsUnderOne period p
  item_under_one period p in' =
      let own : List Item = filter (is_item_asked which) (values rows.items) in
      let (i, there, same) = contains_map item_posting (filter (is_counted period) own) p in' in
      let counts = filter_holds (is_counted period) own i there in
      let mine = filter_contains (is_counted period) own i there in
      let asked = filter_holds (is_item_asked which) (values rows.items) i mine in
      let item = filter_contains (is_item_asked which) (values rows.items) i mine in
      let at = (and_parts i.lives (i.period == period) (and_parts (lives_in period i) (is_document i.transaction.code) counts).0).1 in
      let parties = and_from (i.agent == i.agent) (i.transaction.document.airline == i.transaction.document.airline) (eq-eqb i.agent i.agent refl) (eq-eqb i.transaction.document.airline i.transaction.document.airline refl) in
      (tally (item_tally_key i), listed (item_tally_key i) (front_used (item_tally_key i) (mapped item_tally_key (values rows.items) i item)) asked, eqb-true i.period period at, subst (λ (q : Posting). is_under (tally (item_tally_key i)) q ≡ true) same parties)

  memo_under_one : (period : ℕ) (p : Posting) → Contains (memo_postings period (filter (is_billing_asked which) (values rows.memos))) p → IsUnderOne period p
  memo_under_one period p in' =
      let own : List MemoFields = filter (is_billing_asked which) (values rows.memos) in
      let (m, there, same) = contains_map memo_posting (filter (is_billed_in period) own) p in' in
      let bills = filter_holds (is_billed_in period) own m there in
      let mine = filter_contains (is_billed_in period) own m there in
      let asked = filter_holds (is_billing_asked which) (values rows.memos) m mine in
      let memo = filter_contains (is_billing_asked which) (values rows.memos) m mine in
      let k : TallyKey = record { agent = m.agent; airline = m.airline; period = period } in
      let key : memo_tally_key m ≡ Some k = memo_key_is m period bills in
      let parties = and_from (m.agent == m.agent) (m.airline == m.airline) (eq-eqb m.agent m.agent refl) (eq-eqb m.airline m.airline refl) in
      (tally k, listed k (back_used k (among_some memo_tally_key (values rows.memos) m k memo key)) (sym (ap (is_key_asked which) key) ∙ asked), refl, subst (λ (q : Posting). is_under (tally k) q ≡ true) same parties)

  whole : (period : ℕ) (p : Posting) → Contains (postings period (filter (is_item_asked which) (values rows.items)) (filter (is_billing_asked which) (values rows.memos))) p → IsUnderOne period p
  whole period p in' =
      elim (Contains-append_cases (item_postings period (filter (is_item_asked which) (values rows.items))) (memo_postings period (filter (is_billing_asked which) (values rows.memos))) p in') [
        | inl front ↦ item_under_one period p front
        | inr back ↦ memo_under_one period p back
      ]

pub asked_tallies : AskedAreTallies
asked_tallies which rows = record {
  each = λ i d within.
      let list = tallies_of which rows in
      let (k, there, same) = contains_map (λ (k : TallyKey). tally_of k rows) (filter (is_tally_asked which) (rising_keys rows)) _ (All-contains_itself list i d within) in
      subst (IsTallyOf (filter (is_item_asked which) (values rows.items)) (filter (is_billing_asked which) (values rows.memos))) same (each_tally which rows k (filter_holds (is_tally_asked which) (rising_keys rows) k there));
  once = once which rows;
  whole = whole which rows;
}
