-- What the audit finds of ranges, and sound ranges.
use Rattle.std.proofs.Common.{◌≡◌, ℕ, ◌≤◌, ◌<◌, Bool, true, false, List, map, count_by, Option, Some, None, IsSome, refl, sym, ap, subst, ◌∙◌, arith, nat_le}
use Rattle.std.specs.List.{Contains}
use Rattle.std.specs.BTreeMap.{BTreeMap, IsOrdered}
use Rattle.std.specs.FinMap.{FinMap, get}
use Rattle.std.specs.Ordering.{nat_cmp}
use Rattle.std.proofs.lemmas.Bool.{and_parts, and_from, leb-true, leb-false, le-leb}
use Rattle.std.proofs.lemmas.List.Elements.{All-contains, All-contains_itself}
use Rattle.bsp_maps.specs.Spans.{AreDisjoint, IsRange, contains}
use Rattle.bsp_maps.specs.declared.spans.Span.{Span}
use Rattle.bsp_rows.specs.Audit.{IsInLastRange, as_map, span_of}
use Rattle.bsp_rows.specs.Rows.{range_cmp}
use Rattle.bsp_rows.specs.Sound.{AreSoundRanges, HasNumber, IsInStock}
use Rattle.bsp_rows.specs.declared.keys.RangeKey.{RangeKey}
use Rattle.bsp_rows.proofs.CountTies.{count_mapped, few_entries, one_passes}
use Rattle.bsp_rows.proofs.DemandLemmas.{at_entry, entry_at}
use Rattle.bsp_rows.proofs.KeyOrders.{range_total, range_exact}
use Rattle.bsp_rows.proofs.MapLemmas.{same_Some}
use Rattle.bsp_rows.proofs.RowLemmas.{contains_map, mapped}

module _ (agents : FinMap nat_cmp (List ℕ)) (m : BTreeMap RangeKey ℕ) (ordered : IsOrdered range_cmp m) where
  abbrev ranges : FinMap range_cmp ℕ
  ranges = as_map range_cmp m

  abbrev Known : Type 0
  Known = (k : RangeKey) (last : ℕ) → get ranges k ≡ Some last → IsSome (get agents k.agent)

  in_span : (k : RangeKey) (number : ℕ) (h : HasNumber ranges k number) → contains number (span_of (k, h.last)) ≡ true
  in_span k number h = and_from (nat_le k.first number) (nat_le number h.last) (le-leb k.first number h.from) (le-leb number h.last h.to)

  from_span : (e : RangeKey × ℕ) (number : ℕ) → Contains m.entries e → contains number (span_of e) ≡ true → HasNumber ranges e.0 number
  from_span e number in' h =
      let both = and_parts (nat_le e.0.first number) (nat_le number e.1) h in
      record { last = e.1; there = at_entry range_total range_exact m ordered e.0 e.1 in'; from = leb-true e.0.first number both.0; to = leb-true number e.1 both.1 }

  pub ranges_sound : AreDisjoint (map span_of m.entries) → Known → AreSoundRanges agents ranges
  ranges_sound d known = record {
    registered = known;
    apart = record {
      numbers = λ k last h. All-contains IsRange (map span_of m.entries) (span_of (k, last)) d.ranges (mapped span_of m.entries (k, last) (entry_at range_total range_exact m ordered k last h));
      once = λ k l number hk hl.
          let few : count_by (λ (e : RangeKey × ℕ). contains number (span_of e)) m.entries ≤ 1 = subst (λ (n : ℕ). n ≤ 1) (count_mapped (contains number) span_of m.entries) (d.once number) in
          ap (λ (e : RangeKey × ℕ). e.0) (one_passes (λ (e : RangeKey × ℕ). contains number (span_of e)) m.entries few (k, hk.last) (l, hl.last)
          (entry_at range_total range_exact m ordered k hk.last hk.there) (entry_at range_total range_exact m ordered l hl.last hl.there) (in_span k number hk) (in_span l number hl));
    };
  }

  range_at : AreSoundRanges agents ranges → (s : Span) → Contains (map span_of m.entries) s → IsRange s
  range_at s span in' =
      let (e, there, is) = contains_map span_of m.entries span in' in
      subst IsRange is (s.apart.numbers e.0 e.1 (at_entry range_total range_exact m ordered e.0 e.1 there))

  same_entry : AreSoundRanges agents ranges → (number : ℕ) (a b : RangeKey × ℕ) → Contains m.entries a → Contains m.entries b → contains number (span_of a) ≡ true → contains number (span_of b) ≡ true → a ≡ b
  same_entry s number a b ia ib ha hb =
      let key : a.0 ≡ b.0 = s.apart.once a.0 b.0 number (from_span a number ia ha) (from_span b number ib hb) in
      let last : a.1 ≡ b.1 = same_Some a.1 b.1 (sym (at_entry range_total range_exact m ordered a.0 a.1 ia) ∙ (ap (get ranges) key ∙ at_entry range_total range_exact m ordered b.0 b.1 ib)) in
      λ i. (key i, last i)

  pub ranges_disjoint : AreSoundRanges agents ranges → AreDisjoint (map span_of m.entries)
  ranges_disjoint s = record {
    ranges = λ i d within. range_at s _ (All-contains_itself (map span_of m.entries) i d within);
    once = λ number. subst (λ (n : ℕ). n ≤ 1) (sym (count_mapped (contains number) span_of m.entries)) (few_entries range_total range_exact m ordered (λ (e : RangeKey × ℕ). contains number (span_of e)) (same_entry s number));
  }

-- ---- stock

some_value : (o : Option ℕ) → IsSome o → (x : ℕ) × (o ≡ Some x)
some_value None h = absurd (cc h)
some_value (Some x) h = (x, refl)

module _ (agents : FinMap nat_cmp (List ℕ)) (ranges : FinMap range_cmp ℕ) (s : AreSoundRanges agents ranges) (agent number : ℕ) where
  pub in_stock : IsInLastRange ranges agent number → IsInStock ranges agent number
  in_stock h = record { key = h.key; own = h.own; has = h.has }

  not_later : (h : IsInStock ranges agent number) (k : RangeKey) → IsSome (get ranges k) → k.first ≤ number → (b : Bool) → nat_le k.first h.key.first ≡ b → k.first ≤ h.key.first
  not_later h k there from true is = leb-true k.first h.key.first is
  not_later h k there from false is =
      let later : h.key.first < k.first = leb-false k.first h.key.first is in
      let (last, at) = some_value (get ranges k) there in
      let has_to = h.has.to in
      let up = s.apart.numbers k last at in
      let one : h.key ≡ k = s.apart.once h.key k k.first (record { last = h.has.last; there = h.has.there; from = omega (arith, later); to = omega (arith, from, has_to) }) (record { last = last; there = at; from = omega arith; to = up }) in
      let first : h.key.first ≡ k.first = ap (λ (x : RangeKey). x.first) one in
      absurd (omega (arith, later, first))

  pub in_last_range : IsInStock ranges agent number → IsInLastRange ranges agent number
  in_last_range h = record { key = h.key; own = h.own; has = h.has; last = λ k there own from. not_later h k there from (nat_le k.first h.key.first) refl }
