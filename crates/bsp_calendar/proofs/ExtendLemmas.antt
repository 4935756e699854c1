-- Lemmas on a plan with the entries of a text.
use Rattle.std.proofs.Common.{◌≡◌, ℕ, ◌≤◌, ◌&&◌, ◌||◌, ◌==◌, ◌⊎◌, inr, not, Bool, true, false, List, [], ◌∷◌, ◌++◌, length, take, drop, map, refl, sym, ap, ◌∙◌, arith, Ok, Err, nat_eq}
use Rattle.std.specs.Prelude.{Option, Some, Result, MatchResult}
use Rattle.std.specs.List.{list_all, list_any}
use Rattle.std.proofs.lemmas.Bool.{or_left, or_right, or_from}
use Rattle.std.proofs.lemmas.List.{length-append, take-append-le}
use Rattle.std.proofs.lemmas.Cmp.{nat_eq_equiv}
use Rattle.bsp_fields.specs.CivilDay.{CivilDay}
use Rattle.bsp_fields.specs.FirstFault.{first_fault_or}
use Rattle.bsp_calendar.specs.declared.entries.Terms.{Terms}
use Rattle.bsp_calendar.proofs.KeyLemmas.{eqb_symm}
use Rattle.bsp_calendar.proofs.PeriodLemmas.{IsStanding}
use Rattle.bsp_calendar.proofs.ListedLemmas.{any_once, once_more_front}
use Rattle.bsp_calendar.specs.DayOrder.{is_up_to}
use Rattle.bsp_calendar.specs.Published.{Published, has_begun, is_among}
use Rattle.bsp_calendar.specs.Standing.{first_codes, plan_of}
use Rattle.bsp_calendar.specs.Requests.{once, has_conflict, same_airline, same_rate, same_period, same_tax, differ_in_rate, differ_in_days, differ_in_tax, differ_in_terms, are_within_bounds, have_airlines, has_difference, are_in_order, has_late_rate, has_late_tax, extended, with_entries, has_terms, is_empty, holds_already}
use Rattle.bsp_calendar.specs.declared.entries.CommissionTax.{CommissionTax}
use Rattle.bsp_calendar.specs.declared.entries.Period.{Period}
use Rattle.bsp_calendar.specs.declared.entries.PlanText.{PlanText}
use Rattle.bsp_calendar.specs.declared.entries.Rate.{Rate}
use Rattle.bsp_calendar.specs.declared.fault.PlanFault.{PlanFault}
use Rattle.bsp_calendar.specs.declared.fault.PlanFault.TheVariants.{WrongKey, Differs, OutOfOrder, LateRate, NoMemory}

-- an airline is among those each once where it is among all
pub among_once : (xs : List ℕ) (code : ℕ) → is_among code (once same_airline xs) ≡ is_among code xs
among_once xs code =
    let turned : ◌≡◌ {A = ℕ → Bool} (λ other. code == other) (λ other. other == code) = λ i. λ other. eqb_symm code other i in
    rw turned (any_once (λ (x : ℕ) (y : ℕ). x == y) nat_eq_equiv (λ (a : ℕ). a) xs code)

-- ---- the table of faults

module _ (p : Published) (text : PlanText) where
  pub out_of_bounds : are_within_bounds text ≡ false → extended p text ≡ Err WrongKey
  out_of_bounds h = rw h refl

  pub without_airline : are_within_bounds text ≡ true → have_airlines p text ≡ false → extended p text ≡ Err WrongKey
  without_airline b h = rw (b, h) refl

  pub with_difference : are_within_bounds text ≡ true → have_airlines p text ≡ true → has_difference p text ≡ true → extended p text ≡ Err Differs
  with_difference b a h = rw (b, a, h) refl

  pub accepted : are_within_bounds text ≡ true → have_airlines p text ≡ true → has_difference p text ≡ false → are_in_order (once same_period (p.periods ++ text.periods.items)) ≡ true → has_late_rate p text ≡ false → has_late_tax p text ≡ false → extended p text ≡ Ok (with_entries p text)
  accepted b a d o r h = rw (b, a, d, o, r, h) refl

  -- ---- each test, by what the code computed

  pub have_from : (list ts : List ℕ) (rs : List Rate) (b : Bool) → list ≡ once same_airline (p.airlines ++ ts) → ts ≡ text.airlines.items → rs ≡ text.rates.items → b ≡ list_all (λ r. is_among r.airline list) rs → have_airlines p text ≡ b
  have_from list ts rs b joined airlines rates tested =
      let all : list ≡ once same_airline (p.airlines ++ text.airlines.items) = rw airlines at joined in
      let among : (r : Rate) → is_among r.airline list ≡ is_among r.airline (p.airlines ++ text.airlines.items) =
      λ r. rw all (among_once (p.airlines ++ text.airlines.items) r.airline) in
      let same : ◌≡◌ {A = Rate → Bool} (λ r. is_among r.airline list) (λ r. is_among r.airline (p.airlines ++ text.airlines.items)) =
      λ i. λ r. among r i in
      sym (tested ∙ (ap (λ (t : Rate → Bool). list_all t rs) same ∙ ap (list_all (λ r. is_among r.airline (p.airlines ++ text.airlines.items))) rates))

  pub difference_of_terms : differ_in_terms p.terms text.terms ≡ true → has_difference p text ≡ true
  difference_of_terms h = or_left _ _ h

  pub difference_of_rates : (rs : List Rate) → rs ≡ text.rates.items → has_conflict same_rate differ_in_rate (p.rates ++ rs) ≡ true → has_difference p text ≡ true
  difference_of_rates rs rates h = or_right (differ_in_terms p.terms text.terms) _ (or_left _ _ (rw rates at h))

  pub difference_of_periods : (qs : List Period) → qs ≡ text.periods.items → has_conflict same_period differ_in_days (p.periods ++ qs) ≡ true → has_difference p text ≡ true
  difference_of_periods qs periods h =
      or_right (differ_in_terms p.terms text.terms) _ (or_right (has_conflict same_rate differ_in_rate (p.rates ++ text.rates.items)) _ (or_left _ _ (rw periods at h)))

  pub difference_of_taxes : (ts : List CommissionTax) → ts ≡ text.commission_taxes.items → has_conflict same_tax differ_in_tax (p.commission_taxes ++ ts) ≡ true → has_difference p text ≡ true
  difference_of_taxes ts taxes h =
      or_right (differ_in_terms p.terms text.terms) _
      (or_right (has_conflict same_rate differ_in_rate (p.rates ++ text.rates.items)) _
      (or_right (has_conflict same_period differ_in_days (p.periods ++ text.periods.items)) _ (rw taxes at h)))

  pub no_difference : (rs : List Rate) (qs : List Period) (ts : List CommissionTax) → rs ≡ text.rates.items → qs ≡ text.periods.items → ts ≡ text.commission_taxes.items → differ_in_terms p.terms text.terms ≡ false → has_conflict same_rate differ_in_rate (p.rates ++ rs) ≡ false → has_conflict same_period differ_in_days (p.periods ++ qs) ≡ false → has_conflict same_tax differ_in_tax (p.commission_taxes ++ ts) ≡ false → has_difference p text ≡ false
  no_difference rs qs ts rates periods taxes t r q x =
      or_from _ _ t (or_from _ _ (rw rates at r) (or_from _ _ (rw periods at q) (rw taxes at x)))

-- ---- the last two rows of the table, judged on the lists

-- what rows answer over no value they answer over any
rows_answer : {V : Type 0} (a b : Bool) (x y : PlanFault) (v : V) (r : Result (Unit {0}) PlanFault) → r ≡ first_fault_or ((a, x) ∷ (b, y) ∷ []) tt → MatchResult r (λ _. first_fault_or ((a, x) ∷ (b, y) ∷ []) v ≡ Ok v) (λ fault. first_fault_or ((a, x) ∷ (b, y) ∷ []) v ≡ Err fault)
rows_answer true b x y v r h = rw h refl
rows_answer false true x y v r h = rw h refl
rows_answer false false x y v r h = rw h refl

-- what filling lists of these entries answers
abbrev pub IsFilled : Published → PlanText → List ℕ → List Rate → List Period → List CommissionTax → Result (Unit {0}) PlanFault → Type 0
IsFilled p text codes rs qs ts r =
    MatchResult r
    (λ _. (extended p text ≡ Ok (with_entries p text)) × (codes ≡ (with_entries p text).airlines) × (rs ≡ (with_entries p text).rates) × (qs ≡ (with_entries p text).periods) × (ts ≡ (with_entries p text).commission_taxes))
    (λ fault. (fault ≡ NoMemory) ⊎ (extended p text ≡ Err fault))

answered_as : (p : Published) (text : PlanText) (codes : List ℕ) (rs : List Rate) (qs : List Period) (ts : List CommissionTax) (r : Result (Unit {0}) PlanFault) (rows : Result Published PlanFault) → extended p text ≡ rows → codes ≡ (with_entries p text).airlines → rs ≡ (with_entries p text).rates → qs ≡ (with_entries p text).periods → ts ≡ (with_entries p text).commission_taxes → MatchResult r (λ _. rows ≡ Ok (with_entries p text)) (λ fault. rows ≡ Err fault) → IsFilled p text codes rs qs ts r
answered_as p text codes rs qs ts (Ok u) rows same airlines rates periods taxes answer = (same ∙ answer, airlines, rates, periods, taxes)
answered_as p text codes rs qs ts (Err x) rows same airlines rates periods taxes answer = inr (same ∙ answer)

-- lists that are filled from a text, by what their test answers
pub filled : (p : Published) (text : PlanText) (codes : List ℕ) (rs : List Rate) (qs : List Period) (ts : List CommissionTax) (r : Result (Unit {0}) PlanFault) → are_within_bounds text ≡ true → have_airlines p text ≡ true → has_difference p text ≡ false → codes ≡ once same_airline (p.airlines ++ text.airlines.items) → rs ≡ once same_rate (p.rates ++ text.rates.items) → qs ≡ once same_period (p.periods ++ text.periods.items) → ts ≡ once same_tax (p.commission_taxes ++ text.commission_taxes.items)
    → r ≡ first_fault_or ((not (are_in_order qs), OutOfOrder) ∷ (list_any (λ rate. is_up_to rate.from p.day) (drop (length p.rates) rs) || list_any (has_begun p.day) (drop (length p.commission_taxes) ts), LateRate) ∷ []) tt
    → IsFilled p text codes rs qs ts r
filled p text codes rs qs ts r bounds have none airlines rates periods taxes answer =
    let unordered = not (are_in_order (once same_period (p.periods ++ text.periods.items))) in
    let late = has_late_rate p text || has_late_tax p text in
    let whole = with_entries p text in
    let rows : extended p text ≡ first_fault_or ((unordered, OutOfOrder) ∷ (late, LateRate) ∷ []) whole = rw (bounds, have, none) refl in
    answered_as p text codes rs qs ts r (first_fault_or ((unordered, OutOfOrder) ∷ (late, LateRate) ∷ []) whole) rows airlines rates periods taxes
    (rows_answer unordered late OutOfOrder LateRate whole r (rw (rates, periods, taxes) at answer))

-- ---- the periods of the new plan

abbrev code_of : Period → ℕ
code_of q = q.code

front_of : (qs more list : List Period) (n : ℕ) → IsStanding qs n → list ≡ once same_period (qs ++ more) → (zs : List Period) × (list ≡ qs ++ zs)
front_of qs more list n h joined =
    let (zs, e) = once_more_front nat_eq nat_eq_equiv code_of qs more h.distinct in
    (zs, joined ∙ e)

pub within_more : (qs more list : List Period) (n : ℕ) → IsStanding qs n → list ≡ once same_period (qs ++ more) → n ≤ length list
within_more qs more list n h joined =
    let (zs, e) = front_of qs more list n h joined in
    rw (e, length-append) (omega (arith, h.within))

pub first_periods_more : (qs more list : List Period) (n : ℕ) → IsStanding qs n → list ≡ once same_period (qs ++ more) → take n list ≡ take n qs
first_periods_more qs more list n h joined =
    let (zs, e) = front_of qs more list n h joined in
    let within = h.within in
    rw (e, take-append-le) refl

pub first_codes_more : (qs more list : List Period) (n : ℕ) → IsStanding qs n → list ≡ once same_period (qs ++ more) → first_codes list n ≡ first_codes qs n
first_codes_more qs more list n h joined = ap (map code_of) (first_periods_more qs more list n h joined)

-- ---- the new plan

-- what lists that joined a text hold, and whether nothing of the text is new
module _ (terms : Option Terms) (airlines : List ℕ) (rates : List Rate) (qs : List Period) (taxes : List CommissionTax) (day : CivilDay) (n : ℕ) (text : PlanText) where
  abbrev before : Published
  before = plan_of terms airlines rates qs taxes day n

  pub with_entries_is : (airlines_after : List ℕ) (rates_after : List Rate) (qs_after : List Period) (taxes_after : List CommissionTax) → IsStanding qs n → airlines_after ≡ once same_airline (airlines ++ text.airlines.items) → rates_after ≡ once same_rate (rates ++ text.rates.items) → qs_after ≡ once same_period (qs ++ text.periods.items) → taxes_after ≡ once same_tax (taxes ++ text.commission_taxes.items) → with_entries before text ≡ plan_of (Some text.terms) airlines_after rates_after qs_after taxes_after day n
  with_entries_is airlines_after rates_after qs_after taxes_after h a r q t =
      let closed : first_codes qs n ≡ first_codes qs_after n = sym (first_codes_more qs text.periods.items qs_after n h q) in
      λ i. record { terms = Some text.terms; airlines = sym a i; rates = sym r i; periods = sym q i; commission_taxes = sym t i; day = day; closed = closed i }

  pub holds_is : (airlines_after : List ℕ) (rates_after : List Rate) (qs_after : List Period) (taxes_after : List CommissionTax) (b : Bool) → airlines_after ≡ once same_airline (airlines ++ text.airlines.items) → rates_after ≡ once same_rate (rates ++ text.rates.items) → qs_after ≡ once same_period (qs ++ text.periods.items) → taxes_after ≡ once same_tax (taxes ++ text.commission_taxes.items) → b ≡ (has_terms terms && (is_empty (drop (length airlines) airlines_after) && (is_empty (drop (length rates) rates_after) && (is_empty (drop (length qs) qs_after) && is_empty (drop (length taxes) taxes_after))))) → b ≡ holds_already before text
  holds_is airlines_after rates_after qs_after taxes_after b a r q t h = rw (a, r, q, t) at h
