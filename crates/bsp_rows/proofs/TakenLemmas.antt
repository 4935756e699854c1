-- The items after one that was accepted.
use Rattle.std.proofs.Common.{◌≡◌, ℕ, ◌+◌, Bool, true, false, not, ◌&&◌, ◌||◌, cond, count_by, Option, Some, None, is_some, option_map, refl, sym, ap, ◌∙◌, ◌⊎◌, inl, inr, Ordering, Less, Equal, Greater}
use Rattle.std.specs.FinMap.{FinMap, get, insert, entries, get-insert}
use Rattle.std.specs.Ordering.{is_eq, eq_by_cmp, ordering_then}
use Rattle.std.proofs.lemmas.Bool.{both_ways}
use Rattle.bsp_rules.specs.declared.rows.Item.{Item}
use Rattle.bsp_rules.specs.Rows.{is_canx}
use Rattle.bsp_rows.specs.declared.keys.ItemKey.{ItemKey}
use Rattle.bsp_rows.specs.Rows.{Rows, canx_of, item_cmp, key_of}
use Rattle.bsp_rows.specs.Writes.{ended, changed_to}
use Rattle.bsp_rows.proofs.KeyOrders.{item_total, item_exact}
use Rattle.bsp_rows.specs.Changes.{sale_key, ended_where, ended_by, after_accepted}
use Rattle.bsp_rows.proofs.MapLemmas.{get_written, same_key, same_Some, count_added, count_changed}

-- the key is that of what a CANX ends
abbrev pub ends : Bool → ItemKey → ItemKey → Bool
ends canx sale k = canx && eq_by_cmp item_cmp k sale

abbrev pub left : Bool → Item → Item
left ended i = record i { lives = i.lives && not ended }

-- what becomes of an item
abbrev pub fate : Item → ItemKey → Item → Item
fate item k i = left (ends (is_canx item) (sale_key item) k) i

and_true : (b : Bool) → (b && true) ≡ b
and_true true = refl
and_true false = refl

and_false : (b : Bool) → (b && false) ≡ false
and_false true = refl
and_false false = refl

left_alone : (i : Item) → left false i ≡ i
left_alone i = λ j. record i { lives = and_true i.lives j }

left_ended : (i : Item) → left true i ≡ ended i
left_ended i = λ j. record i { lives = and_false i.lives j }

all_left : (o : Option Item) → option_map (left false) o ≡ o
all_left None = refl
all_left (Some i) = ap (λ (x : Item). Some x) (left_alone i)

-- at each key, after a CANX has ended what it ends
ended_at : (rows : Rows) (sale q : ItemKey) (found : Option Item) → get rows.items sale ≡ found → (b : Bool) → eq_by_cmp item_cmp q sale ≡ b → get (changed_to ended sale found rows.items) q ≡ option_map (left b) (get rows.items q)
ended_at rows sale q None is true same =
    let none : get rows.items q ≡ None = ap (get rows.items) (same_key item_exact q sale same) ∙ is in
    none ∙ sym (ap (option_map (left true)) none)
ended_at rows sale q None is false same = sym (all_left (get rows.items q))
ended_at rows sale q (Some i) is true same =
    let there : get rows.items q ≡ Some i = ap (get rows.items) (same_key item_exact q sale same) ∙ is in
    get-insert item_total rows.items sale (ended i) q ∙ (ap (λ b. cond b (Some (ended i)) (get rows.items q)) same ∙ (ap (λ (x : Item). Some x) (sym (left_ended i)) ∙ sym (ap (option_map (left true)) there)))
ended_at rows sale q (Some i) is false same =
    get-insert item_total rows.items sale (ended i) q ∙ (ap (λ b. cond b (Some (ended i)) (get rows.items q)) same ∙ sym (all_left (get rows.items q)))

pub mid_at : (rows : Rows) (sale q : ItemKey) (canx : Bool) → get (ended_where canx sale rows).items q ≡ option_map (left (ends canx sale q)) (get rows.items q)
mid_at rows sale q true = ended_at rows sale q (get rows.items sale) refl (eq_by_cmp item_cmp q sale) refl
mid_at rows sale q false = sym (all_left (get rows.items q))

pub record IsTaken (old new : FinMap item_cmp Item) (item : Item) : Type 0 where
  pub is : (q : ItemKey) → get new q ≡ cond (eq_by_cmp item_cmp q (key_of item)) (Some item) (option_map (fate item q) (get old q))
  pub there : get new (key_of item) ≡ Some item
  pub kept : (k : ItemKey) (i : Item) → get old k ≡ Some i → get new k ≡ Some (fate item k i)
  pub made : (k : ItemKey) (j : Item) → get new k ≡ Some j → ((k ≡ key_of item) × (j ≡ item)) ⊎ ((i : Item) × (get old k ≡ Some i) × (j ≡ fate item k i))

none_some : {A P : Type 0} (x : A) (o : Option A) → o ≡ None → o ≡ Some x → P
none_some x o n s = absurd (cc (n, s))

found_in : (f : Item → Item) (o : Option Item) (j : Item) → option_map f o ≡ Some j → (i : Item) × (o ≡ Some i) × (j ≡ f i)
found_in f None j h = absurd (cc h)
found_in f (Some i) j h = (i, refl, sym (same_Some (f i) j h))

pub taken : (rows : Rows) (item : Item) → get rows.items (key_of item) ≡ None → IsTaken rows.items (after_accepted item rows).items item
taken rows item new = record { is = is; there = get_written item_total item_exact mid key item; kept = kept; made = λ k j h. made k j h (eq_by_cmp item_cmp k key) refl } where
  key : ItemKey
  key = key_of item

  mid : FinMap item_cmp Item
  mid = (ended_by item rows).items

  at : (q : ItemKey) → get mid q ≡ option_map (fate item q) (get rows.items q)
  at q = mid_at rows (sale_key item) q (is_canx item)

  is : (q : ItemKey) → get (insert mid key item) q ≡ cond (eq_by_cmp item_cmp q key) (Some item) (option_map (fate item q) (get rows.items q))
  is q = get-insert item_total mid key item q ∙ ap (cond (eq_by_cmp item_cmp q key) (Some item)) (at q)

  by : (k : ItemKey) (i : Item) → get rows.items k ≡ Some i → (b : Bool) → eq_by_cmp item_cmp k key ≡ b → get (insert mid key item) k ≡ Some (fate item k i)
  by k i h true same = none_some i (get rows.items k) (ap (get rows.items) (same_key item_exact k key same) ∙ new) h
  by k i h false same = is k ∙ (ap (λ b. cond b (Some item) (option_map (fate item k) (get rows.items k))) same ∙ ap (option_map (fate item k)) h)

  kept : (k : ItemKey) (i : Item) → get rows.items k ≡ Some i → get (insert mid key item) k ≡ Some (fate item k i)
  kept k i h = by k i h (eq_by_cmp item_cmp k key) refl

  made : (k : ItemKey) (j : Item) → get (insert mid key item) k ≡ Some j → (b : Bool) → eq_by_cmp item_cmp k key ≡ b → ((k ≡ key) × (j ≡ item)) ⊎ ((i : Item) × (get rows.items k ≡ Some i) × (j ≡ fate item k i))
  made k j h true same = inl (same_key item_exact k key same, sym (same_Some item j (sym (is k ∙ ap (λ b. cond b (Some item) (option_map (fate item k) (get rows.items k))) same) ∙ h)))
  made k j h false same = inr (found_in (fate item k) (get rows.items k) j (sym (is k ∙ ap (λ b. cond b (Some item) (option_map (fate item k) (get rows.items k))) same) ∙ h))

-- ---- counts

count_mid : (test : ItemKey × Item → Bool) → ((k : ItemKey) (i : Item) → test (k, ended i) ≡ test (k, i)) → (rows : Rows) (sale : ItemKey) (found : Option Item) → get rows.items sale ≡ found → count_by test (entries (changed_to ended sale found rows.items)) ≡ count_by test (entries rows.items)
count_mid test alike rows sale None is = refl
count_mid test alike rows sale (Some i) is = count_changed item_total item_exact test rows.items sale (ended i) i is (alike sale i)

count_ended : (test : ItemKey × Item → Bool) → ((k : ItemKey) (i : Item) → test (k, ended i) ≡ test (k, i)) → (rows : Rows) (sale : ItemKey) (canx : Bool) → count_by test (entries (ended_where canx sale rows).items) ≡ count_by test (entries rows.items)
count_ended test alike rows sale true = count_mid test alike rows sale (get rows.items sale) refl
count_ended test alike rows sale false = refl

pub count_taken : (test : ItemKey × Item → Bool) → ((k : ItemKey) (i : Item) → test (k, ended i) ≡ test (k, i)) → (rows : Rows) (item : Item) → get rows.items (key_of item) ≡ None → count_by test (entries (after_accepted item rows).items) ≡ cond (test (key_of item, item)) 1 0 + count_by test (entries rows.items)
count_taken test alike rows item new =
    let none : get (ended_by item rows).items (key_of item) ≡ None = mid_at rows (sale_key item) (key_of item) (is_canx item) ∙ ap (option_map (fate item (key_of item))) new in
    count_added item_total item_exact test (ended_by item rows).items (key_of item) item none
    ∙ ap (λ (n : ℕ). cond (test (key_of item, item)) 1 0 + n) (count_ended test alike rows (sale_key item) (is_canx item))

-- ---- whether a CANX is there

apart : (a b : Ordering) → is_eq (ordering_then a (ordering_then b Greater)) ≡ false
apart Less b = refl
apart Equal Less = refl
apart Equal Equal = refl
apart Equal Greater = refl
apart Greater b = refl

sale_shut : (k sale : ItemKey) (canx : Bool) → k.is_canx ≡ true → sale.is_canx ≡ false → ends canx sale k ≡ false
sale_shut k sale false h s = refl
sale_shut k sale true h s = by (eq_by_cmp item_cmp k sale) refl where
  by : (b : Bool) → eq_by_cmp item_cmp k sale ≡ b → eq_by_cmp item_cmp k sale ≡ false
  by true e = absurd (both_ways true (sym h ∙ (ap (λ (x : ItemKey). x.is_canx) (same_key item_exact k sale e) ∙ s)) refl)
  by false e = e

-- the CANX of a key's number is the item exactly where it ends what the key has
canx_is : (k own : ItemKey) (canx : Bool) → k.is_canx ≡ false → own.is_canx ≡ canx → eq_by_cmp item_cmp (canx_of k) own ≡ ends canx (record own { is_canx = false }) k
canx_is k own true h c = rw (c, h) refl
canx_is k own false h c = rw c (apart _ _)

still : (lives found end : Bool) → lives ≡ not found → (lives && not end) ≡ not (cond end true found)
still lives found true h = and_false lives
still lives found false h = and_true lives ∙ h

mapped_some : (f : Item → Item) (o : Option Item) → is_some (option_map f o) ≡ is_some o
mapped_some f None = refl
mapped_some f (Some i) = refl

some_cond : (b : Bool) (item : Item) (o : Option Item) → is_some (cond b (Some item) o) ≡ cond b true (is_some o)
some_cond true item o = refl
some_cond false item o = refl

-- an old item lives on exactly where it is a CANX or no CANX of its number stands
pub lives_on : (old new : FinMap item_cmp Item) (item : Item) → IsTaken old new item → (k : ItemKey) (i : Item) → i.lives ≡ (k.is_canx || not (is_some (get old (canx_of k)))) → (b : Bool) → k.is_canx ≡ b → (fate item k i).lives ≡ (k.is_canx || not (is_some (get new (canx_of k))))
lives_on old new item taken k i h true c =
    let shut = sale_shut k (sale_key item) (is_canx item) c refl in
    let was : i.lives ≡ true = h ∙ ap (λ b. b || not (is_some (get old (canx_of k)))) c in
    ap (λ b. i.lives && not b) shut ∙ (and_true i.lives ∙ (was ∙ sym (ap (λ b. b || not (is_some (get new (canx_of k)))) c)))
lives_on old new item taken k i h false c =
    let end : Bool = ends (is_canx item) (sale_key item) k in
    let was : i.lives ≡ not (is_some (get old (canx_of k))) = h ∙ ap (λ b. b || not (is_some (get old (canx_of k)))) c in
    let now : is_some (get new (canx_of k)) ≡ cond end true (is_some (get old (canx_of k))) =
    ap is_some (taken.is (canx_of k))
    ∙ (some_cond (eq_by_cmp item_cmp (canx_of k) (key_of item)) item (option_map (fate item (canx_of k)) (get old (canx_of k)))
    ∙ (ap (cond (eq_by_cmp item_cmp (canx_of k) (key_of item)) true) (mapped_some (fate item (canx_of k)) (get old (canx_of k)))
    ∙ ap (λ b. cond b true (is_some (get old (canx_of k)))) (canx_is k (key_of item) (is_canx item) c refl))) in
    still i.lives (is_some (get old (canx_of k))) end was ∙ (ap not (sym now) ∙ sym (ap (λ b. b || not (is_some (get new (canx_of k)))) c))
