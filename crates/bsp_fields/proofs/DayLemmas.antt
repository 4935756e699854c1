-- Lemmas on days and their numbers.
use Rattle.std.proofs.Common.{◌≡◌, ℕ, ◌+◌, ◌≤◌, ◌&&◌, true, refl, sym, ◌∙◌, arith, ℤ, pos, neg_ℤ, ◌≤ℤ◌, ◌<ℤ◌, ◌⊎◌, inl, inr, subst, to_z, of_z, w16}
use Rattle.std.specs.Int.Signed.{lt_z, lt_z_yes}
use Rattle.std.proofs.lemmas.Float.{T_from_true}
use Rattle.std.proofs.lemmas.Int.{to_z-of_z, by_lt_z}
use Rattle.jiff_core.proofs.CalendarLemmas.{days_in_month_bounds, days_from_civil-day_count, day_count-day_of_year, day_count-later_year, day_of_year_bound}
use Rattle.jiff_core.proofs.MarchLemmas.{day_count-early}
use Rattle.std.specs.Prelude.{IsTrue, nat_le}
use Rattle.std.proofs.lemmas.Bool.{and_parts, leb-true}
use Rattle.jiff_core.specs.declared.civil.date.Date.{Date}
use Rattle.jiff_core.specs.Date.{epoch_day}
use Rattle.jiff_core.specs.Calendar.{IsEpochDay, days_in_month, days_in_year, day_count, day_of_year}
use Rattle.jiff_core.proofs.SignedLemmas.{signed_arith}
use Rattle.jiff_core.proofs.DateLemmas.{epoch_day_range, epoch_day_injective, civil}
use Rattle.bsp_fields.specs.CivilDay.{CivilDay, is_day}
use Rattle.bsp_fields.specs.Days.{day_number, HasNoDay}

-- what the test of a day says
pub record DayFacts (d : CivilDay) : Type 0 where
  pub from : 2000 ≤ d.year
  pub to : d.year ≤ 2099
  pub month_from : 1 ≤ d.month
  pub month_to : d.month ≤ 12
  pub day_from : 1 ≤ d.day
  pub day_to : d.day ≤ days_in_month (pos d.year) d.month

pub day_facts : (d : CivilDay) → IsTrue (is_day d) → DayFacts d
day_facts d h =
    let years = nat_le 2000 d.year && nat_le d.year 2099 in
    let months = nat_le 1 d.month && nat_le d.month 12 in
    let days = nat_le 1 d.day && nat_le d.day (days_in_month (pos d.year) d.month) in
    let all = and_parts (years && months) days h in
    let front = and_parts years months all.0 in
    let y = and_parts (nat_le 2000 d.year) (nat_le d.year 2099) front.0 in
    let m = and_parts (nat_le 1 d.month) (nat_le d.month 12) front.1 in
    let e = and_parts (nat_le 1 d.day) (nat_le d.day (days_in_month (pos d.year) d.month)) all.1 in
    record {
      from = leb-true 2000 d.year y.0;
      to = leb-true d.year 2099 y.1;
      month_from = leb-true 1 d.month m.0;
      month_to = leb-true d.month 12 m.1;
      day_from = leb-true 1 d.day e.0;
      day_to = leb-true d.day (days_in_month (pos d.year) d.month) e.1;
    }

pub year_low : (d : CivilDay) → DayFacts d → neg_ℤ (pos 9999) ≤ℤ pos d.year
year_low d f = omega (arith, signed_arith)

pub year_high : (d : CivilDay) → DayFacts d → pos d.year ≤ℤ pos 9999
year_high d f = omega (arith, signed_arith, f.to)

-- the date of a day
abbrev pub date_of : (d : CivilDay) → DayFacts d → Date
date_of d f = record {
  year = pos d.year;
  month = d.month;
  day = d.day;
  year_in = (year_low d f, year_high d f);
  month_in = (f.month_from, f.month_to);
  day_in = (f.day_from, f.day_to);
}

pub days_at_most : (y : ℤ) (m d : ℕ) → d ≤ days_in_month y m → d ≤ 31
days_at_most y m d h = omega (arith, h, (days_in_month_bounds y m).0)

-- a number that no date has is no day's
pub no_day : (number : ℤ) → (IsEpochDay number → ⊥) → HasNoDay number
no_day number none d h e = none (subst IsEpochDay e (epoch_day_range (date_of d (day_facts d h))))

-- nor is that of a date of another year
pub no_day_in_year : (number : ℤ) (date : Date) → epoch_day date ≡ number → ((date.year <ℤ pos 2000) ⊎ (pos 2099 <ℤ date.year)) → HasNoDay number
no_day_in_year number date is out d h e =
    let f = day_facts d h in
    let same = epoch_day_injective date (date_of d f) (is ∙ sym e) in
    let year : date.year ≡ pos d.year = same.0 in
    elim out [ inl low ↦ omega (arith, signed_arith, low, year, f.from) | inr high ↦ omega (arith, signed_arith, high, year, f.to) ]

-- a year in the places of a `i16`
year_stored : (date : Date) → to_z w16 (of_z w16 date.year) ≡ date.year
year_stored date =
    let low = date.year_in.0 in
    let high = date.year_in.1 in
    to_z-of_z w16 date.year (omega (arith, signed_arith, low, high))

pub earlier : (date : Date) → lt_z (to_z w16 (of_z w16 date.year)) (pos 2000) ≡ true → date.year <ℤ pos 2000
earlier date h = lt_z_yes (T_from_true (lt_z date.year (pos 2000)) (rw (year_stored date) at h))

pub later : (date : Date) → lt_z (pos 2099) (to_z w16 (of_z w16 date.year)) ≡ true → pos 2099 <ℤ date.year
later date h = lt_z_yes (T_from_true (lt_z (pos 2099) date.year) (rw (year_stored date) at h))

-- the days before 2000, and those before 2100
first_count : day_count (pos 2000) 1 1 ≡ 4_382_910
first_count = day_count-early (pos 2000) 11999 1 1 refl (omega arith) (omega arith) (omega arith)

end_count : day_count (pos 2100) 1 1 ≡ 4_419_435
end_count = day_count-early (pos 2100) 12099 1 1 refl (omega arith) (omega arith) (omega arith)

year_from : (y : ℕ) → 2000 ≤ y → 4_382_910 ≤ day_count (pos y) 1 1
year_from y from =
    by_lt_z (pos 2000) (pos y)
    (λ lt. omega (arith, first_count, day_count-later_year (pos 2000) (pos y) (omega (arith, signed_arith)) lt))
    (λ le. let e : pos y ≡ pos 2000 = omega (arith, signed_arith) in rw e (omega (arith, first_count)))

year_to : (y : ℕ) → y ≤ 2099 → day_count (pos y) 1 1 + days_in_year (pos y) ≤ 4_419_435
year_to y to =
    omega (arith, end_count, day_count-later_year (pos y) (pos 2100) (omega (arith, signed_arith)) (omega (arith, signed_arith)))

-- a day's number lies in the century
pub number_bounds : (d : CivilDay) → IsTrue (is_day d) → (pos 10_957 ≤ℤ day_number d) × (day_number d ≤ℤ pos 47_481)
number_bounds d h =
    let f = day_facts d h in
    let date = date_of d f in
    let place = day_of_year_bound (pos d.year) d.month d.day (civil date) in
    let count = day_count-day_of_year (pos d.year) d.month d.day f.day_from in
    let known = days_from_civil-day_count (pos d.year) d.month d.day in
    let from = year_from d.year f.from in
    let to = year_to d.year f.to in
    let first : 1 ≤ day_of_year (pos d.year) d.month d.day = omega (arith, f.day_from) in
    (omega (arith, signed_arith, place, count, known, from, first), omega (arith, signed_arith, place, count, known, to))
