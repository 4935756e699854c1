-- Days by year, month and day are in the order of their numbers.
use Rattle.std.proofs.Common.{◌≡◌, ℕ, ◌<◌, ◌⊎◌, inl, inr, refl, sym, arith, pos, ◌<ℤ◌}
use Rattle.std.specs.Prelude.{IsTrue}
use Rattle.std.specs.Ordering.{nat_cmp, ordering_then}
use Rattle.std.specs.declared.cmp.Ordering.{Ordering}
use Rattle.std.specs.declared.cmp.Ordering.TheVariants.{Less, Equal, Greater}
use Rattle.std.proofs.lemmas.Bool.Decides.{nat_tests}
use Rattle.jiff_core.proofs.DateLemmas.{IsEarlier, epoch_day-lt, cases_date}
use Rattle.jiff_core.proofs.SignedLemmas.{signed_arith}
use Rattle.bsp_fields.specs.CivilDay.{CivilDay, is_day}
use Rattle.bsp_fields.specs.Days.{day_number}
use Rattle.bsp_fields.proofs.DayLemmas.{DayFacts, day_facts, date_of}

-- by year, then by month, then by day of the month
abbrev pub civil_cmp : CivilDay → CivilDay → Ordering
civil_cmp a b = ordering_then (nat_cmp a.year b.year) (ordering_then (nat_cmp a.month b.month) (nat_cmp a.day b.day))

nat_less : (x y : ℕ) → x < y → nat_cmp x y ≡ Less
nat_less x y h = grind (arith, nat_tests)

nat_equal : (x y : ℕ) → x ≡ y → nat_cmp x y ≡ Equal
nat_equal x y h = grind (arith, nat_tests)

nat_greater : (x y : ℕ) → y < x → nat_cmp x y ≡ Greater
nat_greater x y h = grind (arith, nat_tests)

pos_less : (x y : ℕ) → pos x <ℤ pos y → x < y
pos_less x y h = omega (arith, signed_arith)

pos_same : (x y : ℕ) → pos x ≡ pos y → x ≡ y
pos_same x y h = omega (arith, signed_arith)

earlier_less : (a b : CivilDay) (f : DayFacts a) (g : DayFacts b) → IsEarlier (date_of a f) (date_of b g) → civil_cmp a b ≡ Less
earlier_less a b f g (inl year) = rw (nat_less a.year b.year (pos_less _ _ year)) refl
earlier_less a b f g (inr (year, inl month)) = rw (nat_equal a.year b.year (pos_same _ _ year), nat_less a.month b.month month) refl
earlier_less a b f g (inr (year, inr (month, day))) = rw (nat_equal a.year b.year (pos_same _ _ year), nat_equal a.month b.month month, nat_less a.day b.day day) refl

later_greater : (a b : CivilDay) (f : DayFacts a) (g : DayFacts b) → IsEarlier (date_of b g) (date_of a f) → civil_cmp a b ≡ Greater
later_greater a b f g (inl year) = rw (nat_greater a.year b.year (pos_less _ _ year)) refl
later_greater a b f g (inr (year, inl month)) = rw (nat_equal a.year b.year (sym (pos_same _ _ year)), nat_greater a.month b.month month) refl
later_greater a b f g (inr (year, inr (month, day))) = rw (nat_equal a.year b.year (sym (pos_same _ _ year)), nat_equal a.month b.month (sym month), nat_greater a.day b.day day) refl

-- of two days of the calendar one is before the other, by both orders, or they are one day
pub cases_days : (a b : CivilDay) → IsTrue (is_day a) → IsTrue (is_day b) → ((civil_cmp a b ≡ Less) × (day_number a <ℤ day_number b)) ⊎ (((civil_cmp a b ≡ Greater) × (day_number b <ℤ day_number a)) ⊎ (a ≡ b))
cases_days a b ha hb =
    let f = day_facts a ha in
    let g = day_facts b hb in
    elim (cases_date (date_of a f) (date_of b g)) [
      | inl lt ↦ inl (earlier_less a b f g lt, epoch_day-lt (date_of a f) (date_of b g) lt)
      | inr other ↦
          elim other [
            | inl gt ↦ inr (inl (later_greater a b f g gt, epoch_day-lt (date_of b g) (date_of a f) gt))
            | inr same ↦ inr (inr (λ i. record { year = (pos_same a.year b.year same.0) i; month = same.1 i; day = same.2 i }))
          ]
    ]
