-- Lemmas on the keys of entries: that the tests by the keys' order are those of the definitions.
use Rattle.std.proofs.Common.{◌≡◌, ℕ, ◌==◌, ◌&&◌, Bool, false, List, get_or, refl, sym, ◌∙◌, arith, subst, inl, inr}
use Rattle.std.specs.Prelude.{Option, Some, None, Result, MatchResult}
use Rattle.std.specs.Option.{is_some}
use Rattle.std.specs.List.{list_any}
use Rattle.std.specs.Ordering.{nat_cmp, is_eq, eq_by_cmp, ordering_then}
use Rattle.std.specs.declared.cmp.Ordering.{Ordering}
use Rattle.std.specs.declared.cmp.Ordering.TheVariants.{Less, Equal, Greater}
use Rattle.std.proofs.lemmas.Bool.{and_right, both_ways}
use Rattle.std.proofs.lemmas.Bool.Decides.{nat_tests}
use Rattle.std.proofs.lemmas.List.Folds.{list_any_none, list_any_at}
use Rattle.bsp_fields.specs.CivilDay.{CivilDay}
use Rattle.bsp_calendar.specs.DayOrder.{same_day}
use Rattle.bsp_calendar.specs.Published.{is_among}
use Rattle.bsp_calendar.specs.Requests.{same_airline, same_rate, same_period, same_tax, differ_in_rate, differ_in_days, differ_in_tax, once, has_conflict}
use Rattle.bsp_calendar.specs.Listed.{same_key, IsPlaceOfKey, IsJoined}
use Rattle.bsp_calendar.specs.KeyLaws.{airline_cmp, period_cmp, rate_key_cmp, day_cmp}
use Rattle.bsp_calendar.specs.declared.entries.CommissionTax.{CommissionTax}
use Rattle.bsp_calendar.specs.declared.entries.Period.{Period}
use Rattle.bsp_calendar.specs.declared.entries.Rate.{Rate}
use Rattle.bsp_calendar.specs.declared.fault.PlanFault.{PlanFault}
use Rattle.bsp_calendar.specs.declared.fault.PlanFault.TheVariants.{NoMemory}
use Rattle.std.proofs.lemmas.Result.{MatchResult-weaker}

pub is_eq-nat_cmp : (x y : ℕ) → is_eq (nat_cmp x y) ≡ (x == y)
is_eq-nat_cmp x y = grind (arith, nat_tests)

is_eq-then : (a b : Ordering) → is_eq (ordering_then a b) ≡ (is_eq a && is_eq b)
is_eq-then Less b = refl
is_eq-then Equal b = refl
is_eq-then Greater b = refl

pub eqb_symm : (x y : ℕ) → (x == y) ≡ (y == x)
eqb_symm x y = grind (arith, nat_tests)

-- tests that agree are one test
pub same_tests : {A : Type 0} (s t : A → A → Bool) → ((x y : A) → s x y ≡ t x y) → s ≡ t
same_tests s t h = λ i. λ x y. h x y i

pub same_airlines : same_key (eq_by_cmp airline_cmp) (λ (a : ℕ). a) ≡ same_airline
same_airlines = same_tests (same_key (eq_by_cmp airline_cmp) (λ (a : ℕ). a)) same_airline is_eq-nat_cmp

pub same_periods : same_key (eq_by_cmp period_cmp) (λ (q : Period). q.code) ≡ same_period
same_periods = same_tests (same_key (eq_by_cmp period_cmp) (λ (q : Period). q.code)) same_period (λ q r. is_eq-nat_cmp q.code r.code)

same_days : (a b : CivilDay) → is_eq (ordering_then (nat_cmp a.year b.year) (ordering_then (nat_cmp a.month b.month) (nat_cmp a.day b.day))) ≡ same_day a b
same_days a b =
    rw (is_eq-then (nat_cmp a.year b.year) (ordering_then (nat_cmp a.month b.month) (nat_cmp a.day b.day)), is_eq-then (nat_cmp a.month b.month) (nat_cmp a.day b.day), is_eq-nat_cmp a.year b.year, is_eq-nat_cmp a.month b.month, is_eq-nat_cmp a.day b.day) refl

same_rate_keys : (r s : Rate) → eq_by_cmp rate_key_cmp (r.airline, r.from) (s.airline, s.from) ≡ same_rate r s
same_rate_keys r s =
    is_eq-then (nat_cmp r.airline s.airline) (ordering_then (nat_cmp r.from.year s.from.year) (ordering_then (nat_cmp r.from.month s.from.month) (nat_cmp r.from.day s.from.day)))
    ∙ (rw (same_days r.from s.from, is_eq-nat_cmp r.airline s.airline) refl)

abbrev pub rate_key : Rate → ℕ × CivilDay
rate_key r = (r.airline, r.from)

pub same_rates : same_key (eq_by_cmp rate_key_cmp) rate_key ≡ same_rate
same_rates = same_tests (same_key (eq_by_cmp rate_key_cmp) rate_key) same_rate same_rate_keys

abbrev pub tax_key : CommissionTax → CivilDay
tax_key t = t.from

pub same_taxes : same_key (eq_by_cmp day_cmp) tax_key ≡ same_tax
same_taxes = same_tests (same_key (eq_by_cmp day_cmp) tax_key) same_tax (λ t u. same_days t.from u.from)

-- an airline that has a place is among them
pub airline_found : (xs : List ℕ) (code : ℕ) (place : Option ℕ) → IsPlaceOfKey (eq_by_cmp airline_cmp) (λ (a : ℕ). a) xs code place → is_some place ≡ is_among code xs
airline_found xs code None h =
    sym (list_any_none (λ other. code == other) xs (λ k d l. eqb_symm code (get_or xs k d) ∙ (sym (is_eq-nat_cmp (get_or xs k d) code) ∙ h k d l)))
airline_found xs code (Some i) h =
    sym (list_any_at (λ other. code == other) xs i 0 h.0 (eqb_symm code (get_or xs i 0) ∙ (sym (is_eq-nat_cmp (get_or xs i 0) code) ∙ h.1 0)))

-- what joining answers, by the tests of the definitions
pub joined_rates : (xs : List Rate) (r : Result (List Rate) PlanFault) → IsJoined (same_key (eq_by_cmp rate_key_cmp) rate_key) differ_in_rate xs r → IsJoined same_rate differ_in_rate xs r
joined_rates xs r h = subst (λ (s : Rate → Rate → Bool). IsJoined s differ_in_rate xs r) same_rates h

pub joined_periods : (xs : List Period) (r : Result (List Period) PlanFault) → IsJoined (same_key (eq_by_cmp period_cmp) (λ (q : Period). q.code)) differ_in_days xs r → IsJoined same_period differ_in_days xs r
joined_periods xs r h = subst (λ (s : Period → Period → Bool). IsJoined s differ_in_days xs r) same_periods h

pub joined_taxes : (xs : List CommissionTax) (r : Result (List CommissionTax) PlanFault) → IsJoined (same_key (eq_by_cmp day_cmp) tax_key) differ_in_tax xs r → IsJoined same_tax differ_in_tax xs r
joined_taxes xs r h = subst (λ (s : CommissionTax → CommissionTax → Bool). IsJoined s differ_in_tax xs r) same_taxes h

never : (same : ℕ → ℕ → Bool) (xs : List ℕ) → has_conflict same (λ x y. false) xs ≡ false
never same xs =
    list_any_none (λ x. list_any (λ y. same x y && false) xs) xs
    (λ k d l. list_any_none (λ y. same (get_or xs k d) y && false) xs (λ j e m. and_right (same (get_or xs k d) (get_or xs j e)) false refl))

pub joined_airlines : (xs : List ℕ) (r : Result (List ℕ) PlanFault) → IsJoined (same_key (eq_by_cmp airline_cmp) (λ (a : ℕ). a)) (λ x y. false) xs r → MatchResult r (λ all. all ≡ once same_airline xs) (λ fault. fault ≡ NoMemory)
joined_airlines xs r h =
    MatchResult-weaker r (subst (λ (s : ℕ → ℕ → Bool). IsJoined s (λ x y. false) xs r) same_airlines h)
    (λ all once. once.0)
    (λ fault why. elim why [ inl lack ↦ lack | inr both ↦ absurd (both_ways _ (never same_airline xs) both.1) ])
