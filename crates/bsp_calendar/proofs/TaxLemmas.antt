-- The tax on commission with the last key that is not after a day is that with the latest first day up to the day.
use Rattle.std.proofs.Common.{◌≡◌, ℕ, ◌≤◌, Bool, true, false, List, [], get_or, refl, sym, ap, ◌∙◌, arith, inl, inr, subst}
use Rattle.std.specs.Prelude.{Option, Some, None, MatchOption, IsTrue, nat_le}
use Rattle.std.specs.List.{All, AllPairs, Contains, filter}
use Rattle.std.specs.Ordering.{eq_by_cmp, is_gt, is_lt}
use Rattle.std.proofs.lemmas.Bool.{both_ways, false_from_ne_true}
use Rattle.std.proofs.lemmas.Bool.Decides.{nat_tests}
use Rattle.std.proofs.lemmas.Cmp.{eq_by_cmp_equiv}
use Rattle.std.proofs.lemmas.List.Elements.{All-contains, Contains-get_or}
use Rattle.bsp_fields.specs.CivilDay.{CivilDay, is_day}
use Rattle.bsp_fields.proofs.DayOrderLemmas.{civil_cmp}
use Rattle.bsp_calendar.specs.KeyLaws.{day_cmp, same_day_itself, alike_taxes, tax_itself}
use Rattle.bsp_calendar.specs.Listed.{IsLastUpTo, same_key}
use Rattle.bsp_calendar.specs.Published.{has_begun, latest, number_or_zero, IsLatestTax}
use Rattle.bsp_calendar.specs.Requests.{same_tax, differ_in_tax, taxes_within_bounds}
use Rattle.bsp_calendar.specs.declared.entries.CommissionTax.{CommissionTax}
use Rattle.bsp_calendar.proofs.KeyLemmas.{tax_key, same_taxes}
use Rattle.bsp_calendar.proofs.LatestLemmas.{BeginsLast, latest_is, latest_number}
use Rattle.bsp_calendar.proofs.ListedLemmas.{agree_distinct}
use Rattle.bsp_calendar.proofs.ListLemmas.{contains_none, contains_filter, filter_contains, filter_holds, filter_none, each_passes}
use Rattle.bsp_calendar.proofs.RateKeyLemmas.{day_not_after, day_up_to, day_up_to_back, one_day, day_total}

abbrev hundredths : CommissionTax → ℕ
hundredths t = t.hundredths

module _ (taxes : List CommissionTax) (day : CivilDay) (civil : IsTrue (is_day day)) (all_civil : All (λ t. IsTrue (is_day t.from)) taxes) where
  day_of : (t : CommissionTax) → Contains taxes t → IsTrue (is_day t.from)
  day_of t in' = All-contains (λ u. IsTrue (is_day u.from)) taxes t all_civil in'

  -- a tax that has begun has a key that is not after the day
  begun_not_after : (t : CommissionTax) → Contains taxes t → has_begun day t ≡ true → is_gt (civil_cmp t.from day) ≡ false
  begun_not_after t in' h = day_not_after t.from day (day_of t in') civil h

  begins_last : (t : CommissionTax) → Contains taxes t → is_gt (civil_cmp t.from day) ≡ false → All (λ s. is_gt (civil_cmp s.from day) ≡ false → is_lt (civil_cmp t.from s.from) ≡ false) taxes → BeginsLast tax_key (filter (has_begun day) taxes) t
  begins_last t in' after last = record {
    among = contains_filter (has_begun day) taxes t in' (day_up_to t.from day (day_of t in') civil after);
    last = λ s ins.
        let there = filter_contains (has_begun day) taxes s ins in
        let h = begun_not_after s there (filter_holds (has_begun day) taxes s ins) in
        let not_before = All-contains (λ u. is_gt (civil_cmp u.from day) ≡ false → is_lt (civil_cmp t.from u.from) ≡ false) taxes s last there h in
        day_up_to_back t.from s.from (day_of t in') (day_of s there) not_before;
  }

  -- two taxes that begin last are one
  one_last : ((x y : CommissionTax) → Contains taxes x → Contains taxes y → same_tax x y ≡ true → x ≡ y) → (t u : CommissionTax) → BeginsLast tax_key (filter (has_begun day) taxes) t → BeginsLast tax_key (filter (has_begun day) taxes) u → t ≡ u
  one_last agree t u ht hu =
      let int = filter_contains (has_begun day) taxes t ht.among in
      let inu = filter_contains (has_begun day) taxes u hu.among in
      let from : t.from ≡ u.from = one_day t.from u.from (day_of t int) (day_of u inu) (hu.last t ht.among) (ht.last u hu.among) in
      agree t u int inu (rw from (same_day_itself u.from))

  latest_one : ((x y : CommissionTax) → Contains taxes x → Contains taxes y → same_tax x y ≡ true → x ≡ y) → (t : CommissionTax) → BeginsLast tax_key (filter (has_begun day) taxes) t → (l : Option CommissionTax) → MatchOption l (filter (has_begun day) taxes ≡ []) (BeginsLast tax_key (filter (has_begun day) taxes)) → number_or_zero hundredths l ≡ t.hundredths
  latest_one agree t h None none = contains_none t (rw none at h.among)
  latest_one agree t h (Some u) hu = ap (λ (x : CommissionTax). x.hundredths) (one_last agree u t hu h)

  tax_found : ((x y : CommissionTax) → Contains taxes x → Contains taxes y → same_tax x y ≡ true → x ≡ y) → (found : Option CommissionTax) → IsLastUpTo civil_cmp tax_key taxes day found → number_or_zero hundredths (latest tax_key (filter (has_begun day) taxes)) ≡ number_or_zero hundredths found
  tax_found agree None none =
      rw (filter_none (has_begun day) taxes (λ k d l. false_from_ne_true _ (λ h. both_ways _ (begun_not_after (get_or taxes k d) (Contains-get_or taxes k d l) h) (none k d l)))) refl
  tax_found agree (Some t) (in', after, last) =
      latest_one agree t (begins_last t in' after last) (latest tax_key (filter (has_begun day) taxes)) (latest_is tax_key (filter (has_begun day) taxes))

agree_taxes : (taxes : List CommissionTax) → AllPairs (λ x y. same_key (eq_by_cmp day_cmp) tax_key x y ≡ false) taxes → (x y : CommissionTax) → Contains taxes x → Contains taxes y → same_tax x y ≡ true → x ≡ y
agree_taxes taxes apart x y hx hy s =
    agree_distinct (eq_by_cmp day_cmp) (eq_by_cmp_equiv day_total) tax_key differ_in_tax alike_taxes tax_itself taxes apart x y hx hy (ap (λ (t : CommissionTax → CommissionTax → Bool). t x y) same_taxes ∙ s)

-- the tax by what the look-up found, in the two forms of its contract
pub tax_answered : (taxes : List CommissionTax) (day key : CivilDay) (found : Option CommissionTax) (value : ℕ) → IsTrue (is_day day) → All (λ t. IsTrue (is_day t.from)) taxes → AllPairs (λ x y. same_key (eq_by_cmp day_cmp) tax_key x y ≡ false) taxes → key ≡ day → IsLastUpTo day_cmp tax_key taxes key found → value ≡ number_or_zero hundredths found → (value ≡ number_or_zero hundredths (latest tax_key (filter (has_begun day) taxes))) × IsLatestTax taxes day value
tax_answered taxes day key found value civil all_civil apart is last answered =
    let here : IsLastUpTo day_cmp tax_key taxes day found = subst (λ (k : CivilDay). IsLastUpTo day_cmp tax_key taxes k found) is last in
    let v = answered ∙ sym (tax_found taxes day civil all_civil (agree_taxes taxes apart) found here) in
    (v, subst (λ (x : ℕ). IsLatestTax taxes day x) (sym v) (latest_number tax_key hundredths (has_begun day) taxes))

at_most : (a b : ℕ) → nat_le a b ≡ true → a ≤ b
at_most a b h = grind (arith, nat_tests)

-- the tax is within the bounds of the entries
pub tax_bound : (taxes : List CommissionTax) (day : CivilDay) (value : ℕ) → taxes_within_bounds taxes ≡ true → IsLatestTax taxes day value → value ≤ 10_000
tax_bound taxes day value bounds (inl (t, in', begun, is, last)) =
    let within : t.hundredths ≤ 10_000 = at_most t.hundredths 10_000 (each_passes (λ (u : CommissionTax). nat_le u.hundredths 10_000) taxes t bounds in') in
    omega arith
tax_bound taxes day value bounds (inr (zero_value, none)) = omega arith
