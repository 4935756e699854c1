-- The rules that every plan meets, and what every further request leaves as it was.
use Rattle.std.specs.Prelude.{◌≡◌, ℕ, ◌≤◌, true, List, [], length, take, Option, Some, None}
use Rattle.std.specs.List.{list_all}
use Rattle.bsp_fields.specs.CivilDay.{CivilDay}
use Rattle.bsp_calendar.specs.DayOrder.{is_before, is_up_to}
use Rattle.bsp_calendar.specs.Published.{Published, opening, has_airline, is_closed, period_of, closed_period, rate_on, commission_tax_on, is_taxed}
use Rattle.bsp_calendar.specs.Requests.{AreDistinct, same_airline, same_rate, same_period, same_tax, terms_within_bounds, rates_within_bounds, taxes_within_bounds, are_in_order}
use Rattle.bsp_calendar.specs.Standing.{first_codes, ends_before, plan_of}
use Rattle.bsp_calendar.specs.declared.entries.CommissionTax.{CommissionTax}
use Rattle.bsp_calendar.specs.declared.entries.Period.{Period}
use Rattle.bsp_calendar.specs.declared.entries.Rate.{Rate}
use Rattle.bsp_calendar.specs.declared.entries.Terms.{Terms}

-- nothing is published
pub record HasNoEntries (p : Published) : Type 0 where
  pub airlines : p.airlines ≡ []
  pub rates : p.rates ≡ []
  pub periods : p.periods ≡ []
  pub commission_taxes : p.commission_taxes ≡ []

-- the rules of a plan
pub record IsSoundPlan (p : Published) : Type 0 where
  -- each entry once by its key
  pub airlines : AreDistinct same_airline p.airlines
  pub rates : AreDistinct same_rate p.rates
  pub periods : AreDistinct same_period p.periods
  pub commission_taxes : AreDistinct same_tax p.commission_taxes
  -- entries only with terms, and numbers within their bounds
  pub without_terms : p.terms ≡ None → HasNoEntries p
  pub terms_bounds : (terms : Terms) → p.terms ≡ Some terms → terms_within_bounds terms ≡ true
  pub rates_bounds : rates_within_bounds p.rates ≡ true
  pub taxes_bounds : taxes_within_bounds p.commission_taxes ≡ true
  -- rates of published airlines that begin after the opening day
  pub rates_airlines : list_all (λ r. has_airline p r.airline) p.rates ≡ true
  pub rates_begin : list_all (λ r. is_before opening.day r.from) p.rates ≡ true
  -- taxes on commission that begin after the opening day
  pub taxes_begin : list_all (λ t. is_before opening.day t.from) p.commission_taxes ≡ true
  -- periods without a gap, the days of each in order
  pub in_order : are_in_order p.periods ≡ true
  -- a business day that is not before the opening day
  pub day : is_up_to opening.day p.day ≡ true
  -- closed are the first periods, and each of them is over
  pub closed_first : p.closed ≡ first_codes p.periods (length p.closed)
  pub closed_over : list_all (ends_before p.day) (take (length p.closed) p.periods) ≡ true

-- what a `Plan` keeps of its fields
pub record IsPlan (terms : Option Terms) (airlines : List ℕ) (rates : List Rate) (periods : List Period) (taxes : List CommissionTax) (day : CivilDay) (closed : ℕ) : Type 0 where
  pub within : closed ≤ length periods
  pub sound : IsSoundPlan (plan_of terms airlines rates periods taxes day closed)

-- a plan has what another has: its airlines, its periods, its closed periods with their forms, its terms, and its rates and
-- taxes on the days that have begun; and its business day is not before the other's
pub record Grows (p m : Published) : Type 0 where
  pub airlines : (airline : ℕ) → has_airline p airline ≡ true → has_airline m airline ≡ true
  pub periods : (code : ℕ) (q : Period) → period_of p code ≡ Some q → period_of m code ≡ Some q
  pub closed : (code : ℕ) → is_closed p code ≡ true → is_closed m code ≡ true
  pub closed_periods : (code : ℕ) (q : Period) → closed_period p code ≡ Some q → closed_period m code ≡ Some q
  pub forms : (code : ℕ) (q : Period) → closed_period p code ≡ Some q → is_taxed m q ≡ is_taxed p q
  pub terms : (terms : Terms) → p.terms ≡ Some terms → m.terms ≡ Some terms
  pub rates : (airline : ℕ) (on : CivilDay) → is_up_to on p.day ≡ true → rate_on m airline on ≡ rate_on p airline on
  pub commission_taxes : (on : CivilDay) → is_up_to on p.day ≡ true → commission_tax_on m on ≡ commission_tax_on p on
  pub day : is_up_to p.day m.day ≡ true

-- a plan has the terms, airlines, rates, periods and taxes on commission of another
pub record HasSameEntries (p m : Published) : Type 0 where
  pub terms : m.terms ≡ p.terms
  pub airlines : m.airlines ≡ p.airlines
  pub rates : m.rates ≡ p.rates
  pub periods : m.periods ≡ p.periods
  pub commission_taxes : m.commission_taxes ≡ p.commission_taxes

-- a plan continues another: its lists begin with the airlines, rates, periods and taxes on commission of the other, and it
-- has the terms that the other has
pub record Continues (p m : Published) : Type 0 where
  pub airlines : p.airlines ≡ take (length p.airlines) m.airlines
  pub rates : p.rates ≡ take (length p.rates) m.rates
  pub periods : p.periods ≡ take (length p.periods) m.periods
  pub commission_taxes : p.commission_taxes ≡ take (length p.commission_taxes) m.commission_taxes
  pub terms : (terms : Terms) → p.terms ≡ Some terms → m.terms ≡ Some terms
