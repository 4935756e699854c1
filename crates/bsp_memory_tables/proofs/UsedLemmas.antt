-- Numbers that are counted once, and what one more number adds to the counts of its blocks.
use Rattle.std.proofs.Common.{◌≡◌, ℕ, suc, ◌+◌, ◌*◌, ◌/◌, ◌<◌, ◌≤◌, ◌==◌, ◌&&◌, ◌||◌, not, Bool, true, false, cond, List, [], ◌∷◌, map, refl, sym, ap, ◌∙◌, arith, nat_cmp, Ordering, Less, Equal, Greater, Option, None}
use Rattle.std.specs.Prelude.{count_by, nat_le, nat_lt, sum_by, unwrap_or}
use Rattle.std.specs.List.{AllByRecursion, IsDistinct, filter, list_any}
use Rattle.std.specs.Ordering.{eq_by_cmp, is_eq, ordering_then}
use Rattle.std.specs.Cmp.{IsTotalOrder, nat_cmp_total, nat_eq_equiv, on_total, then_total, tied_itself}
use Rattle.std.specs.FinMap.{FinMap, IsAntisymmetric, empty, entries, entries-insert, get-empty, insert, nat_cmp-IsAntisymmetric}
use Rattle.std.specs.FinMap.Entries.{by_order, put}
use Rattle.std.proofs.lemmas.Bool.{and_from, and_parts, eq-eqb, eqb-true}
use Rattle.std.proofs.lemmas.List.Sums.{length-filter, sum_by-cons}
use Rattle.std.proofs.lemmas.Map.Keys.{IsDistinct-cons}
use Rattle.std.proofs.lemmas.Map.Made.{length-from_same_keys}
use Rattle.std.proofs.lemmas.Map.Views.{any-filter_same}
use Rattle.bsp_maps.specs.Counts.{IsRecounted, count_at, ones}
use Rattle.bsp_maps.proofs.OrderLemmas.{no_entries}
use Rattle.bsp_maps.proofs.Orderings.{then_equal}
use Rattle.bsp_rows.specs.Item.{Item}
use Rattle.bsp_rows.specs.Range.{Range}
use Rattle.bsp_rows.specs.RulesRows.{contains}
use Rattle.bsp_rows.specs.Requests.{once}
use Rattle.bsp_rows.specs.Rows.{item_cmp}
use Rattle.bsp_rows.specs.declared.keys.ItemKey.{ItemKey}
use Rattle.bsp_rows.proofs.KeyOrders.{item_exact, item_total}
use Rattle.bsp_rows.proofs.MapLemmas.{same_key}
use Rattle.bsp_memory_tables.specs.declared.used.Block.{Block}
use Rattle.bsp_memory_tables.specs.Used.{AreUsedCounted, IsNumberCounted, agent_numbers, block_cmp, count_once, is_between, is_in_block, number_block, shortened}

abbrev same : ℕ → ℕ → Bool
same a b = a == b

-- a number is in the list
abbrev member : List ℕ → ℕ → Bool
member ns q = list_any (same q) ns

-- ---- each number once

apart : (x q k : ℕ) → (q == x) ≡ false → (q == k) ≡ true → not (x == k) ≡ true
apart x q k h is = grind arith

kept_apart : (x q : ℕ) (ns : List ℕ) → (q == x) ≡ false → member (filter (λ y. not (same x y)) ns) q ≡ member ns q
kept_apart x q ns h = any-filter_same (same q) (λ y. not (same x y)) true (λ k is. apart x q k h is) ns

member_once : (ns : List ℕ) (q : ℕ) → member (once same ns) q ≡ member ns q
member_once [] q = refl
member_once (x ∷ xs) q = at (q == x) refl (member_once xs q) where
  at : (b : Bool) → (q == x) ≡ b → member (once same xs) q ≡ member xs q → member (once same (x ∷ xs)) q ≡ member (x ∷ xs) q
  at true e rest = ap (λ c. c || member (filter (λ y. not (same x y)) (once same xs)) q) e ∙ sym (ap (λ c. c || member xs q) e)
  at false e rest = ap (λ c. (q == x) || c) (kept_apart x q (once same xs) e ∙ rest)

others_apart : (x : ℕ) (ys : List ℕ) → AllByRecursion (λ y. same x y ≡ false) (filter (λ y. not (same x y)) ys)
others_apart x [] = tt
others_apart x (y ∷ ys) = at (same x y) refl (others_apart x ys) where
  at : (b : Bool) → same x y ≡ b → AllByRecursion (λ z. same x z ≡ false) (filter (λ z. not (same x z)) ys) → AllByRecursion (λ z. same x z ≡ false) (cond (not b) (y ∷ filter (λ z. not (same x z)) ys) (filter (λ z. not (same x z)) ys))
  at true e rest = rest
  at false e rest = (e, rest)

module _ (test : ℕ → Bool) where
  apart_filter : (x : ℕ) (ys : List ℕ) → AllByRecursion (λ y. same x y ≡ false) ys → AllByRecursion (λ y. same x y ≡ false) (filter test ys)
  apart_filter x [] all = tt
  apart_filter x (y ∷ ys) all = at (test y) (apart_filter x ys all.1) where
    at : (b : Bool) → AllByRecursion (λ z. same x z ≡ false) (filter test ys) → AllByRecursion (λ z. same x z ≡ false) (cond b (y ∷ filter test ys) (filter test ys))
    at true rest = (all.0, rest)
    at false rest = rest

  distinct_filter : (xs : List ℕ) → IsDistinct same xs → IsDistinct same (filter test xs)
  unfolding IsDistinct
  distinct_filter [] d = tt
  distinct_filter (x ∷ xs) d = at (test x) (distinct_filter xs d.1) where
    at : (b : Bool) → IsDistinct same (filter test xs) → IsDistinct same (cond b (x ∷ filter test xs) (filter test xs))
    at true rest = (apart_filter x xs d.0, rest)
    at false rest = rest

distinct_once : (ns : List ℕ) → IsDistinct same (once same ns)
unfolding IsDistinct
distinct_once [] = tt
distinct_once (x ∷ xs) = IsDistinct-cons same x (filter (λ y. not (same x y)) (once same xs)) (others_apart x (once same xs)) (distinct_filter (λ y. not (same x y)) (once same xs) (distinct_once xs))

passes_too : (test : ℕ → Bool) (q k : ℕ) → (q == k) ≡ true → test k ≡ test q
passes_too test q k is = let e : k ≡ q = grind arith in ap test e

module _ (test : ℕ → Bool) where
  counted_same : (xs ys : List ℕ) → IsDistinct same xs → IsDistinct same ys → ((q : ℕ) → member xs q ≡ member ys q) → count_by test xs ≡ count_by test ys
  counted_same xs ys dx dy alike =
      sym (length-filter test xs)
      ∙ (length-from_same_keys nat_eq_equiv (filter test xs) (filter test ys) (distinct_filter test xs dx) (distinct_filter test ys dy)
      (λ q. any-filter_same (same q) test (test q) (λ k is. passes_too test q k is) xs ∙ (ap (λ b. test q && b) (alike q) ∙ sym (any-filter_same (same q) test (test q) (λ k is. passes_too test q k is) ys)))
      ∙ length-filter test ys)

  -- lists with the same numbers
  pub once_alike : (ns ms : List ℕ) → ((q : ℕ) → member ns q ≡ member ms q) → count_once test ns ≡ count_once test ms
  once_alike ns ms alike = counted_same (once same ns) (once same ms) (distinct_once ns) (distinct_once ms) (λ q. member_once ns q ∙ (alike q ∙ sym (member_once ms q)))

-- ---- one more number

same_as : (q m : ℕ) → (q == m) ≡ true → q ≡ m
same_as q m h = grind arith

all_apart : (m : ℕ) (ys : List ℕ) → member ys m ≡ false → filter (λ y. not (same m y)) ys ≡ ys
all_apart m [] h = refl
all_apart m (y ∷ ys) h = at (same m y) refl h (all_apart m ys) where
  at : (b : Bool) → same m y ≡ b → (b || member ys m) ≡ false → (member ys m ≡ false → filter (λ z. not (same m z)) ys ≡ ys) → cond (not b) (y ∷ filter (λ z. not (same m z)) ys) (filter (λ z. not (same m z)) ys) ≡ y ∷ ys
  at true e h rest = absurd (cc)
  at false e h rest = ap (λ (zs : List ℕ). y ∷ zs) (rest h)

module _ (test : ℕ → Bool) where
  count_cons : (m : ℕ) (xs : List ℕ) → count_by test (m ∷ xs) ≡ ones (test m) + count_by test xs
  count_cons m xs = sum_by-cons (λ x. ones (test x)) m xs

  added : (m : ℕ) (ns : List ℕ) → member ns m ≡ false → count_once test (m ∷ ns) ≡ ones (test m) + count_once test ns
  added m ns new = count_cons m (filter (λ y. not (same m y)) (once same ns)) ∙ ap (λ (xs : List ℕ). ones (test m) + count_by test xs) (all_apart m (once same ns) (member_once ns m ∙ new))

  -- a list with the numbers of another, and one more
  pub once_with : (m : ℕ) (ns ms : List ℕ) → ((q : ℕ) → member ms q ≡ ((q == m) || member ns q)) → count_once test ms ≡ count_once test ns + ones (not (member ns m) && test m)
  once_with m ns ms more = at (member ns m) refl where
    there : member ns m ≡ true → (q : ℕ) (b : Bool) → (q == m) ≡ b → (b || member ns q) ≡ member ns q
    there is q true e = sym is ∙ ap (λ (x : ℕ). member ns x) (sym (same_as q m e))
    there is q false e = refl

    at : (b : Bool) → member ns m ≡ b → count_once test ms ≡ count_once test ns + ones (not b && test m)
    at true is = let e = once_alike test ms ns (λ q. more q ∙ there is q (q == m) refl) in omega (arith, e)
    at false is =
        let e = once_alike test ms (m ∷ ns) more in
        let f = added m ns is in
        omega (arith, e, f)

-- ---- what is in no list, and in two

module _ {X : Type 0} where
  none_counted : (test : X → Bool) → ((x : X) → test x ≡ false) → (xs : List X) → count_by test xs ≡ 0
  none_counted test none [] = refl
  none_counted test none (x ∷ xs) =
      let head = sum_by-cons (λ y. ones (test y)) x xs in
      let here : ones (test x) ≡ 0 = ap ones (none x) in
      let rest = none_counted test none xs in
      omega (arith, head, here, rest)

  two_counted : (p q r : X → Bool) → ((x : X) → ones (p x) ≡ ones (q x) + ones (r x)) → (xs : List X) → sum_by (λ x. ones (p x)) xs ≡ sum_by (λ x. ones (q x)) xs + sum_by (λ x. ones (r x)) xs
  two_counted p q r parts [] = refl
  two_counted p q r parts (x ∷ xs) =
      let whole = sum_by-cons (λ y. ones (p y)) x xs in
      let one = sum_by-cons (λ y. ones (q y)) x xs in
      let other = sum_by-cons (λ y. ones (r y)) x xs in
      let here = parts x in
      let rest = two_counted p q r parts xs in
      omega (arith, whole, one, other, here, rest)

  count_alike : (p q : X → Bool) → ((x : X) → p x ≡ q x) → (xs : List X) → count_by p xs ≡ count_by q xs
  count_alike p q alike xs = ap (λ (f : X → Bool). count_by f xs) (λ i x. alike x i)

abbrev within : ℕ → ℕ → ℕ → Bool
within from to x = nat_le from x && nat_lt x to

nothing_within : (from x : ℕ) → within from from x ≡ false
nothing_within from x = grind arith

parts_within : (from mid to x : ℕ) → from ≤ mid → mid ≤ to → ones (within from to x) ≡ ones (within from mid x) + ones (within mid to x)
parts_within from mid to x low high = grind arith

place_within : (from place x : ℕ) → from ≤ place → ones (within from (place + 1) x) ≡ ones (within from place x) + ones (place == x)
place_within from place x low = grind arith

pub none_between : (level from : ℕ) (ns : List ℕ) → count_once (is_between level from from) ns ≡ 0
none_between level from ns = none_counted (is_between level from from) (λ n. nothing_within from (shortened level n)) (once same ns)

pub one_more_place : (agent level from place : ℕ) → from ≤ place → (ns : List ℕ) → count_once (is_between level from (place + 1)) ns ≡ count_once (is_between level from place) ns + count_once (is_in_block (record { agent = agent; level = level; place = place })) ns
one_more_place agent level from place low ns = two_counted (is_between level from (place + 1)) (is_between level from place) (is_in_block (record { agent = agent; level = level; place = place })) (λ n. place_within from place (shortened level n) low) (once same ns)

pub two_parts : (level from mid to : ℕ) → from ≤ mid → mid ≤ to → (ns : List ℕ) → count_once (is_between level from to) ns ≡ count_once (is_between level from mid) ns + count_once (is_between level mid to) ns
two_parts level from mid to low high ns = two_counted (is_between level from to) (is_between level from mid) (is_between level mid to) (λ n. parts_within from mid to (shortened level n) low high) (once same ns)

-- ---- a wider block

-- from one whole block of the next level on, and before another
wider : (first end x : ℕ) → within (first * 100) (end * 100) x ≡ within first end (x / 100)
wider first end x = at (nat_le first (x / 100)) (nat_lt (x / 100) end) refl refl where
  at : (a b : Bool) → nat_le first (x / 100) ≡ a → nat_lt (x / 100) end ≡ b → within (first * 100) (end * 100) x ≡ within first end (x / 100)
  at a b p q = grind arith

pub shorter : (level n : ℕ) → shortened (level + 1) n ≡ shortened level n / 100
shorter level n = let e : level + 1 ≡ suc level = omega arith in ap (λ l. shortened l n) e

pub next_level : (level first end : ℕ) (ns : List ℕ) → count_once (is_between level (first * 100) (end * 100)) ns ≡ count_once (is_between (level + 1) first end) ns
next_level level first end ns = count_alike (is_between level (first * 100) (end * 100)) (is_between (level + 1) first end) (λ n. wider first end (shortened level n) ∙ ap (within first end) (sym (shorter level n))) (once same ns)

pub whole_range : (range : Range) (ns : List ℕ) → count_once (λ n. contains n range) ns ≡ count_once (is_between 0 range.first (range.last + 1)) ns
whole_range range ns = count_alike (λ n. contains n range) (is_between 0 range.first (range.last + 1)) (λ n. up_to range.first range.last n) (once same ns) where
  up_to : (first last n : ℕ) → (nat_le first n && nat_le n last) ≡ within first (last + 1) n
  up_to first last n = grind arith

pub nothing_in : (range : Range) (ns : List ℕ) → range.last + 1 < range.first → count_once (λ n. contains n range) ns ≡ 0
nothing_in range ns after = none_counted (λ n. contains n range) (λ n. out range.first range.last n after) (once same ns) where
  out : (first last n : ℕ) → last + 1 < first → (nat_le first n && nat_le n last) ≡ false
  out first last n h = grind arith

-- ---- the order of the blocks

pub block_total : IsTotalOrder block_cmp
block_total = then_total (on_total (λ (b : Block). b.agent) nat_cmp_total) (then_total (on_total (λ (b : Block). b.level) nat_cmp_total) (on_total (λ (b : Block). b.place) nat_cmp_total))

pub block_exact : IsAntisymmetric block_cmp
block_exact x y e =
    let one = then_equal (nat_cmp x.agent y.agent) (ordering_then (nat_cmp x.level y.level) (nat_cmp x.place y.place)) e in
    let two = then_equal (nat_cmp x.level y.level) (nat_cmp x.place y.place) one.1 in
    let a = nat_cmp-IsAntisymmetric x.agent y.agent one.0 in
    let l = nat_cmp-IsAntisymmetric x.level y.level two.0 in
    let p = nat_cmp-IsAntisymmetric x.place y.place two.1 in
    λ j. record { agent = a j; level = l j; place = p j }

alike : (a b : Bool) → (a ≡ true → b ≡ true) → (b ≡ true → a ≡ true) → a ≡ b
alike true b h g = sym (h refl)
alike false true h g = g refl
alike false false h g = refl

abbrev block_at : ℕ → ℕ → ℕ → Block
block_at agent level place = record { agent = agent; level = level; place = place }

-- a block is this one
is_block : (b : Block) (agent level place : ℕ) → eq_by_cmp block_cmp b (block_at agent level place) ≡ ((b.level == level) && ((agent == b.agent) && (b.place == place)))
is_block b agent level place = alike _ _
    (λ h.
    let e = same_key block_exact b (block_at agent level place) h in
    let a = ap (λ (x : Block). x.agent) e in
    let l = ap (λ (x : Block). x.level) e in
    let p = ap (λ (x : Block). x.place) e in
    and_from (b.level == level) ((agent == b.agent) && (b.place == place)) (eq-eqb b.level level l) (and_from (agent == b.agent) (b.place == place) (eq-eqb agent b.agent (sym a)) (eq-eqb b.place place p)))
    (λ h.
    let outer = and_parts (b.level == level) ((agent == b.agent) && (b.place == place)) h in
    let inner = and_parts (agent == b.agent) (b.place == place) outer.1 in
    let l = eqb-true b.level level outer.0 in
    let a = eqb-true agent b.agent inner.0 in
    let p = eqb-true b.place place inner.1 in
    let e : b ≡ block_at agent level place = λ j. record { agent = sym a j; level = l j; place = p j } in
    ap (λ (x : Block). eq_by_cmp block_cmp x (block_at agent level place)) e ∙ ap is_eq (tied_itself block_total (block_at agent level place)))

-- ---- a number is counted in its block of one more level

one_level : (m l : ℕ) (y : Bool) → ones (nat_lt m (l + 1) && y) ≡ ones (nat_lt m l && y) + ones ((m == l) && y)
one_level m l true = grind arith
one_level m l false = grind arith

level_step : (m l : ℕ) (y z : Bool) → ((m == l) ≡ true → y ≡ z) → ones (nat_lt m (l + 1) && y) ≡ ones (nat_lt m l && y) + ones ((m == l) && z)
level_step m l y z same_test = at (m == l) refl where
  at : (b : Bool) → (m == l) ≡ b → ones (nat_lt m (l + 1) && y) ≡ ones (nat_lt m l && y) + ones ((m == l) && z)
  at true e = one_level m l y ∙ ap (λ w. ones (nat_lt m l && y) + ones ((m == l) && w)) (same_test e)
  at false e = one_level m l y ∙ ap (λ n. ones (nat_lt m l && y) + n) (ap (λ c. ones (c && y)) e ∙ sym (ap (λ c. ones (c && z)) e))

-- the number is in the block, which is of a level before this one
abbrev pub is_counted_below : ItemKey → ℕ → Block → Bool
is_counted_below k level block = nat_lt block.level level && ((k.agent == block.agent) && is_in_block block k.number)

pub none_below : (k : ItemKey) (block : Block) → ones (is_counted_below k 0 block) ≡ 0
none_below k block = grind arith

pub one_level_more : (k : ItemKey) (level place : ℕ) (old new : FinMap block_cmp ℕ) → place ≡ shortened level k.number → IsRecounted block_cmp None (block_at k.agent level place) old new → (block : Block)
    → count_at new block + ones (is_counted_below k level block) ≡ count_at old block + ones (is_counted_below k (level + 1) block)
one_level_more k level place old new at moved block =
    let step = moved block in
    let here : ones (eq_by_cmp block_cmp block (block_at k.agent level place)) ≡ ones ((block.level == level) && ((k.agent == block.agent) && (block.place == place))) = ap ones (is_block block k.agent level place) in
    let next = level_step block.level level ((k.agent == block.agent) && is_in_block block k.number) ((k.agent == block.agent) && (block.place == place))
    (λ same_level. ap (λ (n : ℕ). (k.agent == block.agent) && (block.place == n)) (ap (λ (l : ℕ). shortened l k.number) (eqb-true block.level level same_level) ∙ sym at)) in
    omega (arith, step, here, next)

pub all_levels : (k : ItemKey) (block : Block) (count : ℕ) → count ≤ 0 → block.level < 5 → is_counted_below k 5 block ≡ ((count == 0) && ((k.agent == block.agent) && is_in_block block k.number))
all_levels k block count none below = λ i. (sym_true i) && ((k.agent == block.agent) && is_in_block block k.number) where
  sym_true : nat_lt block.level 5 ≡ (count == 0)
  sym_true = grind arith

-- ---- an item is written

first_or : (b r : Bool) → (b || r) ≡ (b || (b || r))
first_or true r = refl
first_or false r = refl

turned_or : (a b r : Bool) → (a || (b || r)) ≡ (b || (a || r))
turned_or true true r = refl
turned_or true false r = refl
turned_or false b r = refl

module _ {K V : Type 0} {R : K → K → Ordering} (exact : IsAntisymmetric R) (test : K → Bool) where
  any_put : (k : K) (v : V) (es : List (K × V)) → list_any (λ e. test e.0) (put R k v es) ≡ (test k || list_any (λ e. test e.0) es)
  any_put k v [] = refl
  any_put k v (e ∷ es) = at (R k e.0) refl (any_put k v es) where
    at : (r : Ordering) → R k e.0 ≡ r → list_any (λ e. test e.0) (put R k v es) ≡ (test k || list_any (λ e. test e.0) es) → list_any (λ e. test e.0) (by_order r ((k, v) ∷ e ∷ es) ((e.0, v) ∷ es) (e ∷ put R k v es)) ≡ (test k || (test e.0 || list_any (λ e. test e.0) es))
    at Less is rest = refl
    at Equal is rest = first_or (test e.0) (list_any (λ e. test e.0) es) ∙ ap (λ (x : K). test x || (test e.0 || list_any (λ e. test e.0) es)) (sym (exact k e.0 is))
    at Greater is rest = ap (λ b. test e.0 || b) rest ∙ turned_or (test e.0) (test k) (list_any (λ e. test e.0) es)

module _ (agent q : ℕ) where
  abbrev has_it : ItemKey → Bool
  has_it k = (k.agent == agent) && (q == k.number)

  own_member : (es : List (ItemKey × Item)) → member (map (λ e. e.0.number) (filter (λ e. e.0.agent == agent) es)) q ≡ list_any (λ e. has_it e.0) es
  own_member [] = refl
  own_member (e ∷ es) = at (e.0.agent == agent) (own_member es) where
    at : (b : Bool) → member (map (λ e. e.0.number) (filter (λ e. e.0.agent == agent) es)) q ≡ list_any (λ e. has_it e.0) es
        → member (map (λ e. e.0.number) (cond b (e ∷ filter (λ e. e.0.agent == agent) es) (filter (λ e. e.0.agent == agent) es))) q ≡ ((b && (q == e.0.number)) || list_any (λ e. has_it e.0) es)
    at true rest = ap (λ c. (q == e.0.number) || c) rest
    at false rest = rest

  member_written : (items : FinMap item_cmp Item) (k : ItemKey) (i : Item) → member (agent_numbers agent (insert items k i)) q ≡ (has_it k || member (agent_numbers agent items) q)
  member_written items k i =
      own_member (entries (insert items k i))
      ∙ (ap (list_any (λ (e : ItemKey × Item). has_it e.0)) (entries-insert item_total items k i)
      ∙ (any_put item_exact has_it k i (entries items)
      ∙ ap (λ b. has_it k || b) (sym (own_member (entries items)))))

above : (n : ℕ) → 0 < n → (n == 0) ≡ false
above n h = grind arith

none_counts : (test : ℕ → Bool) (xs : List ℕ) → (count_by test xs == 0) ≡ not (list_any test xs)
none_counts test [] = refl
none_counts test (x ∷ xs) = at (test x) refl (none_counts test xs) where
  at : (b : Bool) → test x ≡ b → (count_by test xs == 0) ≡ not (list_any test xs) → (count_by test (x ∷ xs) == 0) ≡ not (b || list_any test xs)
  at true e rest = let head = count_cons test x xs in let one : ones (test x) ≡ 1 = ap ones e in let more : 0 < count_by test (x ∷ xs) = omega (arith, head, one) in above (count_by test (x ∷ xs)) more
  at false e rest = let head = count_cons test x xs in let none : ones (test x) ≡ 0 = ap ones e in let same_count : count_by test (x ∷ xs) ≡ count_by test xs = omega (arith, head, none) in ap (λ (n : ℕ). n == 0) same_count ∙ rest

no_more : (b : Bool) → ones (b && false) ≡ 0
no_more true = refl
no_more false = refl

module _ (items : FinMap item_cmp Item) (k : ItemKey) (i : Item) (old new : FinMap block_cmp ℕ) (moved : IsNumberCounted k old new) (are : AreUsedCounted items old) (block : Block) (below : block.level < 5) where
  abbrev ns : List ℕ
  ns = agent_numbers block.agent items

  abbrev ms : List ℕ
  ms = agent_numbers block.agent (insert items k i)

  abbrev is_fresh : Bool
  is_fresh = count_at old (number_block k) == 0

  members : (b : Bool) → (k.agent == block.agent) ≡ b → (q : ℕ) → member ms q ≡ ((b && (q == k.number)) || member ns q)
  members b e q = member_written block.agent q items k i ∙ ap (λ c. (c && (q == k.number)) || member ns q) e

  fresh : k.agent ≡ block.agent → is_fresh ≡ not (member ns k.number)
  fresh own =
      let counted = are (number_block k) (omega arith) ∙ ap (λ (a : ℕ). count_once (same k.number) (agent_numbers a items)) own in
      ap (λ (n : ℕ). n == 0) counted ∙ (none_counts (same k.number) (once same ns) ∙ ap not (member_once ns k.number))

  block_written : (b : Bool) → (k.agent == block.agent) ≡ b → count_at new block ≡ count_once (is_in_block block) ms
  block_written true e =
      let step = moved block below in
      let so_far = are block below in
      let more = once_with (is_in_block block) k.number ns ms (members true e) in
      let own : ones (is_fresh && ((k.agent == block.agent) && is_in_block block k.number)) ≡ ones (not (member ns k.number) && is_in_block block k.number) =
      (λ j. ones (fresh (eqb-true k.agent block.agent e) j && (e j && is_in_block block k.number))) in
      omega (arith, step, so_far, more, own)
  block_written false e =
      let step = moved block below in
      let so_far = are block below in
      let more = once_alike (is_in_block block) ms ns (members false e) in
      let none : ones (is_fresh && ((k.agent == block.agent) && is_in_block block k.number)) ≡ 0 = ap (λ c. ones (is_fresh && (c && is_in_block block k.number))) e ∙ no_more is_fresh in
      omega (arith, step, so_far, more, none)

pub used_written : (items : FinMap item_cmp Item) (k : ItemKey) (i : Item) (old new : FinMap block_cmp ℕ) → IsNumberCounted k old new → AreUsedCounted items old → AreUsedCounted (insert items k i) new
used_written items k i old new moved are block below = block_written items k i old new moved are block below (k.agent == block.agent) refl

pub nothing_used : AreUsedCounted empty empty
nothing_used block below = ap (λ (w : Option ℕ). unwrap_or w 0) (get-empty block_cmp block) ∙ sym (ap (λ (es : List (ItemKey × Item)). count_once (is_in_block block) (map (λ e. e.0.number) (filter (λ e. e.0.agent == block.agent) es))) (no_entries item_cmp))

pub used_same : (items others : FinMap item_cmp Item) (counts other_counts : FinMap block_cmp ℕ) → others ≡ items → other_counts ≡ counts → AreUsedCounted items counts → AreUsedCounted others other_counts
used_same items others counts other_counts p q are block below = (λ i. count_at (q i) block) ∙ (are block below ∙ (λ i. count_once (is_in_block block) (agent_numbers block.agent (sym p i))))
