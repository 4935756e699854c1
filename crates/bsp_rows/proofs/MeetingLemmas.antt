-- Whether a range meets one of some that are apart: the one with the least last number that is not below its first decides.
use Rattle.std.proofs.Common.{◌≡◌, ℕ, ◌≤◌, ◌<◌, nat_le, Bool, true, false, Some, refl, sym, ap, arith}
use Rattle.std.specs.FinMap.{FinMap, entries, get}
use Rattle.std.specs.List.{list_any}
use Rattle.std.proofs.lemmas.Bool.{and_from, and_parts, false_from_ne_true, le-leb, leb-false, leb-true}
use Rattle.bsp_calendar.proofs.ListedLemmas.{any_contains, contains_any}
use Rattle.bsp_rules.specs.declared.rows.Range.{Range}
use Rattle.bsp_rows.specs.declared.keys.RangeKey.{RangeKey}
use Rattle.bsp_rows.specs.Rows.{meets, range_cmp, range_of}
use Rattle.bsp_rows.specs.Sound.{AreApart}
use Rattle.bsp_rows.proofs.KeyOrders.{range_exact, range_total}
use Rattle.bsp_rows.proofs.MapLemmas.{entry_get, get_entry}

module _ (range : Range) (ranges : FinMap range_cmp ℕ) where
  abbrev pub is_met : Bool
  is_met = list_any (λ e. meets range (range_of e)) (entries ranges)

  met : (k : RangeKey) (last : ℕ) → get ranges k ≡ Some last → range.first ≤ last → k.first ≤ range.last → is_met ≡ true
  met k last there to from =
      any_contains (λ e. meets range (range_of e)) (entries ranges) (k, last) (get_entry range_total range_exact ranges k last there)
      (and_from (nat_le range.first last) (nat_le k.first range.last) (le-leb range.first last to) (le-leb k.first range.last from))

  unmet : ((k : RangeKey) (last : ℕ) → get ranges k ≡ Some last → range.first ≤ last → k.first ≤ range.last → ⊥) → is_met ≡ false
  unmet none = false_from_ne_true is_met (λ h.
      let (e, in', meeting) = contains_any (λ e. meets range (range_of e)) (entries ranges) h in
      let parts = and_parts (nat_le range.first e.1) (nat_le e.0.first range.last) meeting in
      none e.0 e.1 (entry_get range_total range_exact ranges e.0 e.1 in') (leb-true range.first e.1 parts.0) (leb-true e.0.first range.last parts.1))

  -- each last number is below its first
  pub all_before : ((k : RangeKey) (last : ℕ) → get ranges k ≡ Some last → last < range.first) → is_met ≡ false
  all_before below = unmet (λ k last there to from. let b = below k last there in absurd (omega (arith, b, to)))

  module _ (s : AreApart ranges) (k : RangeKey) (end : ℕ) (there : get ranges k ≡ Some end) (to : range.first ≤ end) (least : (j : RangeKey) (last : ℕ) → get ranges j ≡ Some last → range.first ≤ last → end ≤ last) where
    -- one that it meets beside this has this one's last number
    beside : range.last < k.first → (j : RangeKey) (last : ℕ) → get ranges j ≡ Some last → range.first ≤ last → j.first ≤ range.last → ⊥
    beside behind j last at reaches from =
        let up = s.numbers k end there in
        let more = least j last at reaches in
        let one : k ≡ j = s.once k j end (record { last = end; there = there; from = up; to = omega arith }) (record { last = last; there = at; from = omega (arith, from, behind, up); to = more }) in
        let first : k.first ≡ j.first = ap (λ (x : RangeKey). x.first) one in
        omega (arith, first, from, behind)

    decided_by : (b : Bool) → nat_le k.first range.last ≡ b → b ≡ is_met
    decided_by true is = sym (met k end there to (leb-true k.first range.last is))
    decided_by false is = sym (unmet (beside (leb-false k.first range.last is)))

    pub decided : nat_le k.first range.last ≡ is_met
    decided = decided_by (nat_le k.first range.last) refl
