-- The published plan: its entries, each once and in the order of their first publication, the business day and the
-- periods that are closed; and what it answers.
use Rattle.std.specs.Prelude.{◌≡◌, ℕ, ◌==◌, ◌&&◌, ◌⊎◌, not, Bool, true, false, IsTrue, List, [], ◌∷◌, if◌then◌else◌, Option, MatchOption, Some, None, option_map, unwrap_or}
use Rattle.std.specs.List.{list_any, filter, find, Contains}
use Rattle.bsp_fields.specs.CivilDay.{CivilDay}
use Rattle.bsp_calendar.specs.DayOrder.{is_up_to, is_before}
use Rattle.bsp_calendar.specs.declared.entries.CommissionTax.{CommissionTax}
use Rattle.bsp_calendar.specs.declared.entries.Period.{Period}
use Rattle.bsp_calendar.specs.declared.entries.Rate.{Rate}
use Rattle.bsp_calendar.specs.declared.entries.Terms.{Terms}

pub record Published : Type 0 where
  pub terms : Option Terms
  pub airlines : List ℕ
  pub rates : List Rate
  pub periods : List Period
  pub commission_taxes : List CommissionTax
  pub day : CivilDay
  -- the codes of the closed periods, in the order of their closing
  pub closed : List ℕ

-- before anything is published: no entries, business day 2000-01-01 and no closed period
abbrev pub opening : Published
opening = record {
  terms = None;
  airlines = [];
  rates = [];
  periods = [];
  commission_taxes = [];
  day = record { year = 2000; month = 1; day = 1 };
  closed = [];
}

-- ---- what it answers

abbrev pub is_among : ℕ → List ℕ → Bool
is_among code codes = list_any (λ other. code == other) codes

abbrev pub has_airline : Published → ℕ → Bool
has_airline p airline = is_among airline p.airlines

abbrev pub is_closed : Published → ℕ → Bool
is_closed p code = is_among code p.closed

-- the period of a code
abbrev pub period_of : Published → ℕ → Option Period
period_of p code = find (λ q. q.code == code) p.periods

-- the period of a code, where it is published and closed
abbrev pub closed_period : Published → ℕ → Option Period
closed_period p code = if is_closed p code then period_of p code else None

-- the closed period of a code and the published terms, or none where no closed period has the code
abbrev pub IsClosedWithTerms : Published → ℕ → Option (Period × Terms) → Type 0
IsClosedWithTerms p code found =
    MatchOption found (closed_period p code ≡ None) (λ both. (closed_period p code ≡ Some both.0) × (p.terms ≡ Some both.1))

-- a period that takes a transaction of this date of issue: not closed, its last day not before the date, and its first
-- day not after the business day
abbrev pub takes : Published → CivilDay → Period → Bool
takes p issued q = not (is_closed p q.code) && (is_up_to issued q.last && is_up_to q.first p.day)

-- the earliest of them
abbrev pub target_of : Published → CivilDay → Option ℕ
target_of p issued = option_map (λ q. q.code) (find (takes p issued) p.periods)

-- and 0 where there is none, as before terms are published; an accepted item always has one
abbrev pub target_or_zero : Published → CivilDay → ℕ
target_or_zero p issued = unwrap_or (target_of p issued) 0

-- the code of a published period that is not closed, whose last day is not before the date of issue, and whose first
-- day is not after the business day
pub record IsTarget (p : Published) (issued : CivilDay) (code : ℕ) : Type 0 where
  pub period : Period
  pub is : period_of p code ≡ Some period
  pub unclosed : is_closed p code ≡ false
  pub in_time : is_up_to issued period.last ≡ true
  pub begun : is_up_to period.first p.day ≡ true

-- ---- entries that hold from a day on

module _ {A : Type 0} (from : A → CivilDay) where
  abbrev pub later_of : Option A → A → A
  later_of None x = x
  later_of (Some y) x = if is_before (from x) (from y) then y else x

  -- the entry that begins last
  abbrev pub latest : List A → Option A
  latest [] = None
  latest (x ∷ xs) = Some (later_of (latest xs) x)

  -- the number of an entry that applies, and after which no other that applies begins; or 0 where none applies
  abbrev pub IsLatest : (A → ℕ) → (A → Bool) → List A → ℕ → Type 0
  IsLatest number applies entries value =
      ((x : A) × Contains entries x × IsTrue (applies x) × (number x ≡ value)
      × ((y : A) → Contains entries y → IsTrue (applies y) → IsTrue (is_up_to (from y) (from x))))
      ⊎ ((value ≡ 0) × ((y : A) → Contains entries y → applies y ≡ false))

-- the number of an entry, and 0 where there is none
abbrev pub number_or_zero : {A : Type 0} → (A → ℕ) → Option A → ℕ
number_or_zero number None = 0
number_or_zero number (Some x) = number x

-- the entry is the airline's, and begins on the day or before
abbrev pub applies : ℕ → CivilDay → Rate → Bool
applies airline day r = (r.airline == airline) && is_up_to r.from day

-- the rate of an airline on a day, in hundredths of a percent
abbrev pub rate_on : Published → ℕ → CivilDay → ℕ
rate_on p airline day = number_or_zero (λ (r : Rate). r.hundredths) (latest (λ (r : Rate). r.from) (filter (applies airline day) p.rates))

-- the same in other words
abbrev pub IsLatestRate : List Rate → ℕ → CivilDay → ℕ → Type 0
IsLatestRate rates airline day hundredths = IsLatest (λ (r : Rate). r.from) (λ (r : Rate). r.hundredths) (applies airline day) rates hundredths

-- the tax begins on the day or before
abbrev pub has_begun : CivilDay → CommissionTax → Bool
has_begun day t = is_up_to t.from day

-- the tax on commission on a day, in hundredths of a percent
abbrev pub commission_tax_on : Published → CivilDay → ℕ
commission_tax_on p day =
    number_or_zero (λ (t : CommissionTax). t.hundredths) (latest (λ (t : CommissionTax). t.from) (filter (has_begun day) p.commission_taxes))

-- the same in other words
abbrev pub IsLatestTax : List CommissionTax → CivilDay → ℕ → Type 0
IsLatestTax taxes day hundredths = IsLatest (λ (t : CommissionTax). t.from) (λ (t : CommissionTax). t.hundredths) (has_begun day) taxes hundredths

-- a period of form 2: a tax on commission has begun by its last day
abbrev pub is_taxed : Published → Period → Bool
is_taxed p q = list_any (has_begun q.last) p.commission_taxes

-- in a period of form 1 there is no tax on any day up to its last
abbrev pub UntaxedIsZero : Type 0
UntaxedIsZero =
    (p : Published) (q : Period) (on : CivilDay) → is_taxed p q ≡ false → is_up_to on q.last ≡ true → commission_tax_on p on ≡ 0
