-- Entries of one key that do not differ are one entry: laws of the entries' keys.
use Rattle.std.specs.Prelude.{◌≡◌, ℕ, true, false, ◌&&◌, ◌==◌}
use Rattle.std.specs.Ordering.{nat_cmp, is_eq, eq_by_cmp, ordering_then}
use Rattle.std.specs.declared.cmp.Ordering.{Ordering}
use Rattle.std.specs.declared.cmp.Ordering.TheVariants.{Less, Equal, Greater}
use Rattle.std.proofs.Common.{refl, arith}
use Rattle.std.proofs.lemmas.Bool.{and_parts, not-false, not_from_true, eqb-true, eq-eqb, and_from}
use Rattle.std.proofs.lemmas.Bool.Decides.{nat_tests}
use Rattle.bsp_fields.specs.CivilDay.{CivilDay}
use Rattle.bsp_fields.specs.contracts.codes.AirlineCodeOrd.TheImpl as airline
use Rattle.bsp_fields.specs.contracts.codes.PeriodCodeOrd.TheImpl as period
use Rattle.bsp_fields.specs.contracts.day.DayOrd.TheImpl as day
use Rattle.bsp_calendar.specs.DayOrder.{same_day}
use Rattle.bsp_calendar.specs.Requests.{differ_in_rate, differ_in_days, differ_in_tax}
use Rattle.bsp_calendar.specs.declared.entries.CommissionTax.{CommissionTax}
use Rattle.bsp_calendar.specs.declared.entries.Period.{Period}
use Rattle.bsp_calendar.specs.declared.entries.Rate.{Rate}

-- the order of an airline and a first day
abbrev pub rate_key_cmp : ℕ × CivilDay → ℕ × CivilDay → Ordering
rate_key_cmp a b = ordering_then (airline.ghosts.cmp a.0 b.0) (day.ghosts.cmp a.1 b.1)

-- that of an airline, and that of a period
abbrev pub airline_cmp : ℕ → ℕ → Ordering
airline_cmp = airline.ghosts.cmp

abbrev pub period_cmp : ℕ → ℕ → Ordering
period_cmp = period.ghosts.cmp

-- that of a first day
abbrev pub day_cmp : CivilDay → CivilDay → Ordering
day_cmp = day.ghosts.cmp

nat_same : (x y : ℕ) → is_eq (nat_cmp x y) ≡ true → x ≡ y
nat_same x y h = grind (arith, nat_tests)

then_equal : (a b : Ordering) → is_eq (ordering_then a b) ≡ true → (is_eq a ≡ true) × (is_eq b ≡ true)
then_equal Less b h = absurd (cc h)
then_equal Equal b h = (refl, h)
then_equal Greater b h = absurd (cc h)

day_from : (a b : CivilDay) → a.year ≡ b.year → a.month ≡ b.month → a.day ≡ b.day → a ≡ b
day_from a b y m d = λ i. record { year = y i; month = m i; day = d i }

pub day_same : (a b : CivilDay) → is_eq (day.ghosts.cmp a b) ≡ true → a ≡ b
day_same a b h =
    let outer = then_equal (nat_cmp a.year b.year) (ordering_then (nat_cmp a.month b.month) (nat_cmp a.day b.day)) h in
    let inner = then_equal (nat_cmp a.month b.month) (nat_cmp a.day b.day) outer.1 in
    day_from a b (nat_same _ _ outer.0) (nat_same _ _ inner.0) (nat_same _ _ inner.1)

pub same_day_is : (a b : CivilDay) → same_day a b ≡ true → a ≡ b
same_day_is a b h =
    let outer = and_parts (a.year == b.year) ((a.month == b.month) && (a.day == b.day)) h in
    let inner = and_parts (a.month == b.month) (a.day == b.day) outer.1 in
    day_from a b (eqb-true _ _ outer.0) (eqb-true _ _ inner.0) (eqb-true _ _ inner.1)

pub same_day_itself : (a : CivilDay) → same_day a a ≡ true
same_day_itself a =
    and_from (a.year == a.year) _ (eq-eqb a.year a.year refl)
    (and_from (a.month == a.month) _ (eq-eqb a.month a.month refl) (eq-eqb a.day a.day refl))

pub alike_airlines : (x y : ℕ) → eq_by_cmp airline_cmp x y ≡ true → x ≡ y
alike_airlines x y h = nat_same x y h

rate_from : (r s : Rate) → r.airline ≡ s.airline → r.from ≡ s.from → r.hundredths ≡ s.hundredths → r ≡ s
rate_from r s a f h = λ i. record { airline = a i; from = f i; hundredths = h i }

pub alike_rates : (r s : Rate) → eq_by_cmp rate_key_cmp (r.airline, r.from) (s.airline, s.from) ≡ true → differ_in_rate r s ≡ false → r ≡ s
alike_rates r s one same =
    let parts = then_equal (airline_cmp r.airline s.airline) (day.ghosts.cmp r.from s.from) one in
    rate_from r s (nat_same _ _ parts.0) (day_same _ _ parts.1) (eqb-true _ _ (not-false _ same))

pub rate_itself : (r : Rate) → differ_in_rate r r ≡ false
rate_itself r = not_from_true _ (eq-eqb _ _ refl)

period_from : (q r : Period) → q.code ≡ r.code → q.first ≡ r.first → q.last ≡ r.last → q.remittance ≡ r.remittance → q ≡ r
period_from q r c f l m = λ i. record { code = c i; first = f i; last = l i; remittance = m i }

pub alike_periods : (q r : Period) → eq_by_cmp period_cmp q.code r.code ≡ true → differ_in_days q r ≡ false → q ≡ r
alike_periods q r one same =
    let days = not-false _ same in
    let outer = and_parts (same_day q.first r.first) (same_day q.last r.last && same_day q.remittance r.remittance) days in
    let inner = and_parts (same_day q.last r.last) (same_day q.remittance r.remittance) outer.1 in
    period_from q r (nat_same _ _ one) (same_day_is _ _ outer.0) (same_day_is _ _ inner.0) (same_day_is _ _ inner.1)

pub period_itself : (q : Period) → differ_in_days q q ≡ false
period_itself q =
    not_from_true _ (and_from _ _ (same_day_itself q.first) (and_from _ _ (same_day_itself q.last) (same_day_itself q.remittance)))

tax_from : (t u : CommissionTax) → t.from ≡ u.from → t.hundredths ≡ u.hundredths → t ≡ u
tax_from t u f h = λ i. record { from = f i; hundredths = h i }

pub alike_taxes : (t u : CommissionTax) → eq_by_cmp day_cmp t.from u.from ≡ true → differ_in_tax t u ≡ false → t ≡ u
alike_taxes t u one same = tax_from t u (day_same _ _ one) (eqb-true _ _ (not-false _ same))

pub tax_itself : (t : CommissionTax) → differ_in_tax t t ≡ false
tax_itself t = not_from_true _ (eq-eqb _ _ refl)
