-- The periods of a plan, of which the first are closed.
use Rattle.std.specs.Prelude.{◌≡◌, ℕ, ◌<◌, ◌≤◌, ◌==◌, Bool, true, false, List, map, length, take, Option, MatchOption}
use Rattle.std.specs.List.{All, HoldsAt}
use Rattle.std.specs.List.Sorted.{IsPartitionPoint}
use Rattle.bsp_fields.specs.CivilDay.{CivilDay}
use Rattle.bsp_calendar.specs.DayOrder.{is_before}
use Rattle.bsp_calendar.specs.Published.{Published}
use Rattle.bsp_calendar.specs.declared.entries.CommissionTax.{CommissionTax}
use Rattle.bsp_calendar.specs.declared.entries.Period.{Period}
use Rattle.bsp_calendar.specs.declared.entries.Rate.{Rate}
use Rattle.bsp_calendar.specs.declared.entries.Terms.{Terms}

-- the codes of the first periods
abbrev pub first_codes : List Period → ℕ → List ℕ
first_codes periods count = map (λ q. q.code) (take count periods)

-- the plan of these entries on a business day, with so many periods closed
abbrev pub plan_of : Option Terms → List ℕ → List Rate → List Period → List CommissionTax → CivilDay → ℕ → Published
plan_of terms airlines rates periods taxes day closed = record {
  terms = terms;
  airlines = airlines;
  rates = rates;
  periods = periods;
  commission_taxes = taxes;
  day = day;
  closed = first_codes periods closed;
}

-- the plan on another business day, with so many of its first periods closed
abbrev pub dated : Published → CivilDay → ℕ → Published
dated p day closed = record p { day = day; closed = first_codes p.periods closed }

-- the place of the period of a code, or none where no period has it
abbrev pub IsPlaceOf : List Period → ℕ → Option ℕ → Type 0
IsPlaceOf periods code place =
    MatchOption place (All (λ q. (q.code == code) ≡ false) periods) (λ i. (i < length periods) × HoldsAt (λ q. (q.code == code) ≡ true) periods i)

-- the period ends before a day
abbrev pub ends_before : CivilDay → Period → Bool
ends_before day q = is_before q.last day

-- the periods before this place end before a day, and those from there on do not
abbrev pub IsFirstNotOver : CivilDay → List Period → ℕ → Type 0
IsFirstNotOver day periods place =
    (place ≤ length periods) × IsPartitionPoint (λ q. ends_before day q ≡ true) (λ q. ends_before day q ≡ false) periods place
