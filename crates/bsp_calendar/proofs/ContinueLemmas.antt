-- A plan continues what it was.
use Rattle.std.proofs.Common.{◌≡◌, ℕ, ◌≤◌, List, ◌++◌, length, take, refl, sym, ap, ◌∙◌, Ok, arith, nat_eq}
use Rattle.std.proofs.lemmas.Cmp.{nat_eq_equiv}
use Rattle.std.proofs.lemmas.List.{length-map, length-take, length-take-le, take-take, take_all, take_at}
use Rattle.bsp_fields.specs.CivilDay.{CivilDay}
use Rattle.bsp_calendar.specs.Published.{Published}
use Rattle.bsp_calendar.specs.Requests.{extended, with_entries}
use Rattle.bsp_calendar.specs.SoundPlan.{Continues, HasSameEntries, IsSoundPlan}
use Rattle.bsp_calendar.specs.Standing.{dated}
use Rattle.bsp_calendar.specs.declared.entries.Period.{Period}
use Rattle.bsp_calendar.specs.declared.entries.PlanText.{PlanText}
use Rattle.bsp_calendar.proofs.ListedLemmas.{once_more_front}
use Rattle.bsp_calendar.proofs.OutcomeLemmas.{published, terms_kept}
use Rattle.bsp_calendar.proofs.SoundLemmas.{rates_front, taxes_front}

-- ---- the front of a list

all_of : {A : Type 0} (xs : List A) → xs ≡ take (length xs) xs
all_of xs = sym (take_all (length xs) xs (omega arith))

front_of : {A : Type 0} (xs more ys : List A) → ys ≡ xs ++ more → xs ≡ take (length xs) ys
front_of xs more ys is = sym (ap (take (length xs)) is ∙ take_at xs more (length xs) refl)

-- a front is not longer than its list
front_within : {A : Type 0} (xs ys : List A) → xs ≡ take (length xs) ys → length xs ≤ length ys
front_within xs ys is = let long = ap length is ∙ length-take (length xs) ys in omega (arith, long)

-- the front of a front
front_further : {A : Type 0} (xs ys zs : List A) → xs ≡ take (length xs) ys → ys ≡ take (length ys) zs → xs ≡ take (length xs) zs
front_further xs ys zs first then' =
    first ∙ (ap (take (length xs)) then' ∙ take-take (length xs) (length ys) zs (front_within xs ys first))

-- ---- no request, two in turn, and a request that leaves the entries

pub continues_itself : (p : Published) → Continues p p
continues_itself p = record { airlines = all_of p.airlines; rates = all_of p.rates; periods = all_of p.periods; commission_taxes = all_of p.commission_taxes; terms = λ t e. e }

pub continues_further : (p m q : Published) → Continues p m → Continues m q → Continues p q
continues_further p m q first then' = record {
  airlines = front_further p.airlines m.airlines q.airlines first.airlines then'.airlines;
  rates = front_further p.rates m.rates q.rates first.rates then'.rates;
  periods = front_further p.periods m.periods q.periods first.periods then'.periods;
  commission_taxes = front_further p.commission_taxes m.commission_taxes q.commission_taxes first.commission_taxes then'.commission_taxes;
  terms = λ t e. then'.terms t (first.terms t e);
}

-- two plans with the same entries are one plan on any day, with any number of closed periods
pub dated_same : (p m : Published) → HasSameEntries p m → (day : CivilDay) (closed : ℕ) → dated m day closed ≡ dated p day closed
dated_same p m same day closed = dated_by same.terms same.airlines same.rates same.periods same.commission_taxes where
  dated_by : m.terms ≡ p.terms → m.airlines ≡ p.airlines → m.rates ≡ p.rates → m.periods ≡ p.periods → m.commission_taxes ≡ p.commission_taxes → dated m day closed ≡ dated p day closed
  dated_by t a r q x = λ i. dated (record { terms = t i; airlines = a i; rates = r i; periods = q i; commission_taxes = x i; day = day; closed = p.closed }) day closed

-- a sound plan is itself on its business day, with its closed periods
pub dated_itself : (p : Published) → IsSoundPlan p → dated p p.day (length p.closed) ≡ p
dated_itself p s = let closed = sym s.closed_first in λ i. record p { closed = closed i }

-- as many periods are closed as were to be
pub dated_count : (p : Published) (day : CivilDay) (closed : ℕ) → closed ≤ length p.periods → length (dated p day closed).closed ≡ closed
dated_count p day closed within =
    let code_of : Period → ℕ = λ q. q.code in
    length-map (take closed p.periods) code_of ∙ length-take-le closed p.periods within

-- a plan continues itself on another business day
pub continues_dated : (p : Published) (day : CivilDay) (closed : ℕ) → Continues (dated p day closed) p
continues_dated p day closed = record { airlines = all_of p.airlines; rates = all_of p.rates; periods = all_of p.periods; commission_taxes = all_of p.commission_taxes; terms = λ t e. e }

pub continues_same : (p m : Published) → HasSameEntries p m → Continues p m
continues_same p m same = record {
  airlines = all_of p.airlines ∙ ap (take (length p.airlines)) (sym same.airlines);
  rates = all_of p.rates ∙ ap (take (length p.rates)) (sym same.rates);
  periods = all_of p.periods ∙ ap (take (length p.periods)) (sym same.periods);
  commission_taxes = all_of p.commission_taxes ∙ ap (take (length p.commission_taxes)) (sym same.commission_taxes);
  terms = λ t e. same.terms ∙ e;
}

-- ---- a text

pub extended_continues : (p : Published) (text : PlanText) → IsSoundPlan p → extended p text ≡ Ok (with_entries p text) → Continues p (with_entries p text)
extended_continues p text s h =
    let (new_airlines, airlines) = once_more_front nat_eq nat_eq_equiv (λ (a : ℕ). a) p.airlines text.airlines.items s.airlines in
    let (new_rates, rates) = rates_front p.rates text.rates.items s.rates in
    let (new_periods, periods) = once_more_front nat_eq nat_eq_equiv (λ (q : Period). q.code) p.periods text.periods.items s.periods in
    let (new_taxes, taxes) = taxes_front p.commission_taxes text.commission_taxes.items s.commission_taxes in
    let after = with_entries p text in
    record {
      airlines = front_of p.airlines new_airlines after.airlines airlines;
      rates = front_of p.rates new_rates after.rates rates;
      periods = front_of p.periods new_periods after.periods periods;
      commission_taxes = front_of p.commission_taxes new_taxes after.commission_taxes taxes;
      terms = λ t e. terms_kept p text after (published p text after h) t e;
    }
