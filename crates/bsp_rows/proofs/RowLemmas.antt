-- What is looked up in lists, by keys.
use Rattle.std.proofs.Common.{◌≡◌, ℕ, ◌==◌, Bool, false, List, [], ◌∷◌, map, Some, ap, subst, ◌∙◌, inl, inr}
use Rattle.std.specs.List.{Contains, filter, list_any}
use Rattle.std.specs.FinMap.{get, entries}
use Rattle.std.proofs.lemmas.Bool.{eqb-true, eq-eqb}
use Rattle.std.proofs.lemmas.Map.Made.{Contains-values_of}
use Rattle.bsp_calendar.proofs.ListLemmas.{contains_head, contains_tail, contains_cases, contains_none, contains_filter, filter_contains, filter_holds}
use Rattle.bsp_calendar.proofs.ListedLemmas.{any_false}
use Rattle.bsp_rules.specs.declared.rows.Item.{Item}
use Rattle.bsp_rules.specs.declared.rows.Range.{Range}
use Rattle.bsp_rows.specs.declared.keys.RangeKey.{RangeKey}
use Rattle.bsp_rows.specs.declared.keys.ItemKey.{ItemKey}
use Rattle.bsp_rows.specs.Rows.{Rows, agent_items, ranges_of, range_of}
use Rattle.bsp_rows.proofs.KeyOrders.{item_total, item_exact, range_total, range_exact}
use Rattle.bsp_rows.proofs.MapLemmas.{get_entry, entry_get}

pub mapped : {A B : Type 0} (f : A → B) (xs : List A) (x : A) → Contains xs x → Contains (map f xs) (f x)
mapped f [] x h = contains_none x h
mapped f (y ∷ ys) x h =
    elim (contains_cases y ys x h) [
      | inl here ↦ subst (λ z. Contains (f y ∷ map f ys) (f z)) here (contains_head (f y) (map f ys))
      | inr there ↦ contains_tail (f y) (map f ys) (f x) (mapped f ys x there)
    ]

pub contains_map : {A B : Type 0} (f : A → B) (xs : List A) (y : B) → Contains (map f xs) y → (x : A) × Contains xs x × (f x ≡ y)
contains_map f [] y h = contains_none y h
contains_map f (x ∷ xs) y h =
    elim (contains_cases (f x) (map f xs) y h) [
      | inl here ↦ (x, contains_head x xs, here)
      | inr there ↦ let (z, in', e) = contains_map f xs y there in (z, contains_tail x xs z in', e)
    ]

-- ---- an agent's items

pub among_items : (rows : Rows) (agent : ℕ) (k : ItemKey) (i : Item) → get rows.items k ≡ Some i → k.agent ≡ agent → Contains (agent_items agent rows) i
among_items rows agent k i h own =
    Contains-values_of (filter (λ e. e.0.agent == agent) (entries rows.items)) k i
    (contains_filter (λ (e : ItemKey × Item). e.0.agent == agent) (entries rows.items) (k, i) (get_entry item_total item_exact rows.items k i h) (eq-eqb k.agent agent own))

pub item_among : (rows : Rows) (agent : ℕ) (i : Item) → Contains (agent_items agent rows) i → (k : ItemKey) × (get rows.items k ≡ Some i) × (k.agent ≡ agent)
item_among rows agent i h =
    let ((k, j), in', e) = contains_map (λ (x : ItemKey × Item). x.1) (filter (λ e. e.0.agent == agent) (entries rows.items)) i h in
    let own = filter_holds (λ (x : ItemKey × Item). x.0.agent == agent) (entries rows.items) (k, j) in' in
    let there = entry_get item_total item_exact rows.items k j (filter_contains (λ (x : ItemKey × Item). x.0.agent == agent) (entries rows.items) (k, j) in') in
    (k, there ∙ ap (λ (x : Item). Some x) e, eqb-true k.agent agent own)

-- a test that none of them passes
pub none_passes : (rows : Rows) (agent : ℕ) (test : Item → Bool) → list_any test (agent_items agent rows) ≡ false → (k : ItemKey) (i : Item) → get rows.items k ≡ Some i → k.agent ≡ agent → test i ≡ false
none_passes rows agent test h k i there own = any_false test (agent_items agent rows) i h (among_items rows agent k i there own)

-- ---- an agent's ranges

pub range_among : (rows : Rows) (agent : ℕ) (r : Range) → Contains (ranges_of agent rows) r → (k : RangeKey) × (get rows.ranges k ≡ Some r.last) × (k.agent ≡ agent) × (k.first ≡ r.first)
range_among rows agent r h =
    let ((k, last), in', e) = contains_map range_of (filter (λ e. e.0.agent == agent) (entries rows.ranges)) r h in
    let own = filter_holds (λ (x : RangeKey × ℕ). x.0.agent == agent) (entries rows.ranges) (k, last) in' in
    let there = entry_get range_total range_exact rows.ranges k last (filter_contains (λ (x : RangeKey × ℕ). x.0.agent == agent) (entries rows.ranges) (k, last) in') in
    (k, there ∙ ap (λ (x : Range). Some x.last) e, eqb-true k.agent agent own, ap (λ (x : Range). x.first) e)
