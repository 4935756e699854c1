-- The index of ranges by their last numbers, and what is looked up in it.
use Rattle.std.proofs.Common.{◌≡◌, ℕ, ◌<◌, ◌==◌, Bool, true, false, cond, nat_le, List, [], ◌∷◌, map, refl, sym, ap, ◌∙◌, Option, Some, None, arith, nat_cmp}
use Rattle.std.specs.FinMap.{FinMap, contains_key, get, keys, nat_cmp-IsAntisymmetric}
use Rattle.std.specs.List.{filter, filter_map, find}
use Rattle.std.specs.Ordering.{is_eq, is_le}
use Rattle.std.specs.Cmp.{nat_cmp_total, tied_itself}
use Rattle.std.proofs.lemmas.Bool.{both_ways, false_from_ne_true, leb-false, leb-true}
use Rattle.std.proofs.lemmas.Map.Keys.{le_from_is_le}
use Rattle.bsp_rows.specs.Range.{Range}
use Rattle.bsp_maps.specs.Present.{present_entry}
use Rattle.bsp_maps.specs.Indexes.{IsIndex, entry_cmp, found_place, is_place}
use Rattle.bsp_maps.proofs.EntryLemmas.{entry_exact, entry_total, tied}
use Rattle.bsp_maps.proofs.FirstLemmas.{found_least, found_passing, found_there, none_found}
use Rattle.bsp_rows.specs.declared.keys.RangeKey.{RangeKey}
use Rattle.bsp_rows.specs.Rows.{range_cmp, range_of}
use Rattle.bsp_rows.specs.Sound.{AreApart}
use Rattle.bsp_rows.proofs.KeyOrders.{range_total}
use Rattle.bsp_rows.proofs.MeetingLemmas.{all_before, decided, is_met}
use Rattle.bsp_memory_tables.specs.Places.{last_place}
use Rattle.bsp_memory_tables.specs.RangeTables.{present_ranges}
use Rattle.bsp_memory_tables.specs.Windows.{first_le, is_up_to}
use Rattle.bsp_memory_tables.proofs.PlaceOrders.{ranges_by_last}

pub placed : (k : RangeKey) (last : Option ℕ) → last ≡ found_place last_place k last
placed k None = refl
placed k (Some last) = refl

-- ---- the ranges of an agent that were not withdrawn

pub own_ranges : (agent : ℕ) (es : List (RangeKey × Option ℕ)) → present_ranges (filter (λ e. e.0.agent == agent) es) ≡ map range_of (filter (λ e. e.0.agent == agent) (filter_map present_entry es))
own_ranges agent [] = refl
own_ranges agent ((k, None) ∷ es) = withdrawn (k.agent == agent) (own_ranges agent es) where
  withdrawn : (b : Bool) → present_ranges (filter (λ e. e.0.agent == agent) es) ≡ map range_of (filter (λ e. e.0.agent == agent) (filter_map present_entry es))
      → present_ranges (cond b ((k, None) ∷ filter (λ e. e.0.agent == agent) es) (filter (λ e. e.0.agent == agent) es)) ≡ map range_of (filter (λ e. e.0.agent == agent) (filter_map present_entry es))
  withdrawn true rest = rest
  withdrawn false rest = rest
own_ranges agent ((k, Some last) ∷ es) = there (k.agent == agent) (own_ranges agent es) where
  there : (b : Bool) → present_ranges (filter (λ e. e.0.agent == agent) es) ≡ map range_of (filter (λ e. e.0.agent == agent) (filter_map present_entry es))
      → present_ranges (cond b ((k, Some last) ∷ filter (λ e. e.0.agent == agent) es) (filter (λ e. e.0.agent == agent) es)) ≡ map range_of (cond b ((k, last) ∷ filter (λ e. e.0.agent == agent) (filter_map present_entry es)) (filter (λ e. e.0.agent == agent) (filter_map present_entry es)))
  there true rest = ap (λ rs. range_of (k, last) ∷ rs) rest
  there false rest = rest

-- ---- whether a range meets one of them

pub as_le : (a b : ℕ) (up : Bool) → nat_le a b ≡ up → is_le (nat_cmp a b) ≡ up
as_le a b true h = is_up_to a b (nat_cmp a b) refl (leb-true a b h)
as_le a b false h = false_from_ne_true (is_le (nat_cmp a b)) (λ le. let m = le_from_is_le a b le in let l : b < a = leb-false a b h in omega (arith, m, l))

module _ (range : Range) (ranges : FinMap range_cmp ℕ) (index : FinMap (entry_cmp nat_cmp range_cmp) (Unit {0})) (kept : IsIndex nat_cmp range_cmp last_place ranges index) where
  -- its last number is not below the range's first
  abbrev reaches : ℕ × RangeKey → Bool
  reaches e = is_le (nat_cmp range.first e.0)

  indexed : (k : RangeKey) (last : ℕ) → get ranges k ≡ Some last → contains_key index (last, k) ≡ true
  indexed k last there = kept k last ∙ ap (λ (w : Option ℕ). is_place nat_cmp (found_place last_place k w) last) there ∙ ap is_eq (tied_itself nat_cmp_total last)

  row_by : (k : RangeKey) (last : ℕ) (w : Option ℕ) → is_place nat_cmp (found_place last_place k w) last ≡ true → w ≡ Some last
  row_by k last None h = absurd (cc h)
  row_by k last (Some v) h = ap Some (sym (nat_cmp-IsAntisymmetric last v (tied (nat_cmp last v) h)))

  row : (k : RangeKey) (last : ℕ) → contains_key index (last, k) ≡ true → get ranges k ≡ Some last
  row k last there = row_by k last (get ranges k) (sym (kept k last) ∙ there)

  below : (last : ℕ) (b : Bool) → nat_le range.first last ≡ b → is_le (nat_cmp range.first last) ≡ false → last < range.first
  below last true up none = absurd (both_ways _ none (as_le range.first last true up))
  below last false up none = leb-false range.first last up

  pub none_reaches : find reaches (keys index) ≡ None → is_met range ranges ≡ false
  none_reaches none = all_before range ranges (λ k last there.
      below last (nat_le range.first last) refl
      (none_found (entry_total nat_cmp_total range_total) (entry_exact ranges_by_last) reaches index none (last, k) (indexed k last there)))

  pub first_reaches : AreApart ranges → (last : ℕ) (k : RangeKey) → find reaches (keys index) ≡ Some (last, k) → nat_le k.first range.last ≡ is_met range ranges
  first_reaches s last k found =
      let total = entry_total nat_cmp_total range_total in
      let exact = entry_exact ranges_by_last in
      decided range ranges s k last
      (row k last (found_there total exact reaches index (last, k) found))
      (le_from_is_le range.first last (found_passing total exact reaches index (last, k) found))
      (λ j end at to. le_from_is_le last end (first_le (nat_cmp last end) (range_cmp k j)
      (found_least total exact reaches index (last, k) found (end, j) (indexed j end at) (is_up_to range.first end (nat_cmp range.first end) refl to))))
