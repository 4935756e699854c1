-- What the calls of a plan answer, over its periods.
use Rattle.std.proofs.Common.{◌≡◌, ℕ, ◌+◌, ◌<◌, ◌≤◌, ◌==◌, Bool, true, false, not, List, [], ◌∷◌, ◌++◌, Some, None, Ok, Err, length, get_or, max, sym, refl, ◌∙◌, ap, arith, ltb, inl, inr}
use Rattle.std.specs.Prelude.{Option, option_map, if◌then◌else◌}
use Rattle.std.specs.List.{find}
use Rattle.std.proofs.lemmas.Bool.{eqb-true, lt-ltb, le-ltb, ne_eqb, eq-eqb, both_ways, cases_lt}
use Rattle.std.proofs.lemmas.List.{map_more}
use Rattle.bsp_fields.specs.CivilDay.{CivilDay}
use Rattle.bsp_calendar.specs.DayOrder.{is_before, is_up_to}
use Rattle.bsp_calendar.specs.Published.{Published, is_among, is_closed}
use Rattle.bsp_fields.specs.Changes.{change_of}
use Rattle.bsp_calendar.specs.Requests.{closing, has_code}
use Rattle.bsp_fields.specs.declared.change.Change.TheVariants.{Done, Held}
use Rattle.bsp_calendar.specs.declared.entries.Rate.{Rate}
use Rattle.bsp_calendar.specs.declared.entries.Terms.{Terms}
use Rattle.bsp_calendar.specs.Standing.{first_codes, plan_of, IsPlaceOf, IsFirstNotOver}
use Rattle.bsp_calendar.specs.declared.entries.CommissionTax.{CommissionTax}
use Rattle.bsp_calendar.specs.declared.entries.Period.{Period}
use Rattle.bsp_calendar.specs.declared.fault.PlanFault.TheVariants.{NotEarliest, NotOver}
use Rattle.bsp_calendar.proofs.ListLemmas.{with_item, find_none}
use Rattle.bsp_calendar.proofs.PeriodLemmas.{IsStanding, period_is, has_period_code, among_is, among_none, next_open_is, next_open_none, target_some, target_later, target_past, takes_among}

abbrev told : ℕ → List ℕ → Period → Period × Bool
told code closed q = (q, is_among code closed)

-- whether the period at a place is closed
place_closed : (qs : List Period) (n code i : ℕ) → IsStanding qs n → IsPlaceOf qs code (Some i) → is_among code (first_codes qs n) ≡ ltb i n
place_closed qs n code i h at = with_item qs i at.0 (λ q. rw (← eqb-true _ _ (at.1 q)) (among_is qs i n q h.distinct at.0))

-- ---- `period`

pub period_found : (qs : List Period) (n code i : ℕ) (q : Period) → IsStanding qs n → IsPlaceOf qs code (Some i) → q ≡ get_or qs i q → Some (q, ltb i n) ≡ option_map (told code (first_codes qs n)) (find (has_period_code code) qs)
period_found qs n code i q h at is =
    let same = eqb-true _ _ (at.1 q) in
    let closed : is_among code (first_codes qs n) ≡ ltb i n = rw (← same) (among_is qs i n q h.distinct at.0) in
    rw (period_is qs code i q h.distinct at.0 same, closed, ← is) refl

pub period_unknown : (qs : List Period) (n code : ℕ) → IsPlaceOf qs code None → None ≡ option_map (told code (first_codes qs n)) (find (has_period_code code) qs)
period_unknown qs n code none = rw (find_none (has_period_code code) qs none) refl

-- ---- `closed_period`

abbrev closed_among : List Period → ℕ → ℕ → Option Period
closed_among qs n code = if is_among code (first_codes qs n) then find (has_period_code code) qs else None

pub closed_found : (qs : List Period) (n code i : ℕ) (q : Period) → IsStanding qs n → IsPlaceOf qs code (Some i) → q ≡ get_or qs i q → i < n → Some q ≡ closed_among qs n code
closed_found qs n code i q h at is lt =
    let closed = place_closed qs n code i h at ∙ lt-ltb i n lt in
    rw (closed, period_is qs code i q h.distinct at.0 (eqb-true _ _ (at.1 q)), ← is) refl

pub closed_open : (qs : List Period) (n code i : ℕ) → IsStanding qs n → IsPlaceOf qs code (Some i) → n ≤ i → None ≡ closed_among qs n code
closed_open qs n code i h at ge = rw (place_closed qs n code i h at, le-ltb i n ge) refl

pub closed_unknown : (qs : List Period) (n code : ℕ) → IsPlaceOf qs code None → None ≡ closed_among qs n code
closed_unknown qs n code none = rw (among_none qs code n none) refl

-- ---- `target`

abbrev code_of : Period → ℕ
code_of q = q.code

abbrev pub target_among : List Period → ℕ → CivilDay → CivilDay → Option ℕ
target_among qs n day issued = option_map code_of (find (takes_among (first_codes qs n) day issued) qs)

pub target_begun : (qs : List Period) (n f i : ℕ) (day issued : CivilDay) (q : Period) → IsStanding qs n → IsFirstNotOver issued qs f → i ≡ max f n → i < length qs → q ≡ get_or qs i q → is_up_to q.first day ≡ true → Some q.code ≡ target_among qs n day issued
target_begun qs n f i day issued q h first is within at begun =
    rw (target_some qs n f i day issued q h first is within (rw (← at) begun), ← at) refl

pub target_not_begun : (qs : List Period) (n f i : ℕ) (day issued : CivilDay) (q : Period) → IsStanding qs n → IsFirstNotOver issued qs f → i ≡ max f n → i < length qs → q ≡ get_or qs i q → is_up_to q.first day ≡ false → None ≡ target_among qs n day issued
target_not_begun qs n f i day issued q h first is within at begun =
    rw (target_later qs n f i day issued q h first is within (rw (← at) begun)) refl

pub target_missing : (qs : List Period) (n f i : ℕ) (day issued : CivilDay) → IsStanding qs n → IsFirstNotOver issued qs f → i ≡ max f n → length qs ≤ i → None ≡ target_among qs n day issued
target_missing qs n f i day issued h first is past = rw (target_past qs n f i day issued h first is past) refl

-- ---- `close_next`

abbrev next_among : List Period → ℕ → Option Period
next_among qs n = find (λ q. not (is_among q.code (first_codes qs n))) qs

-- the earliest open period has another code
other_next : (qs : List Period) (n code : ℕ) → IsStanding qs n → ((d : Period) → n < length qs → ((get_or qs n d).code == code) ≡ false) → has_code code (next_among qs n) ≡ false
other_next qs n code h other =
    elim (cases_lt n (length qs)) [
      | inl lt ↦ with_item qs n lt (λ d. rw (next_open_is qs n d h.distinct lt) (other d lt))
      | inr ge ↦ rw (next_open_none qs n ge) refl
    ]

module _ (terms : Option Terms) (airlines : List ℕ) (rates : List Rate) (qs : List Period) (taxes : List CommissionTax) (day : CivilDay) (n code : ℕ) (h : IsStanding qs n) where
  abbrev standing : Published
  standing = plan_of terms airlines rates qs taxes day n

  -- a closed period
  pub close_held : (i : ℕ) → IsPlaceOf qs code (Some i) → i < n → (closing standing code ≡ Ok standing) × (Held ≡ change_of (is_closed standing code))
  close_held i at lt = let closed = place_closed qs n code i h at ∙ lt-ltb i n lt in (rw closed refl, rw closed refl)

  -- a code that no period has
  pub close_unknown : IsPlaceOf qs code None → closing standing code ≡ Err NotEarliest
  close_unknown none = rw (among_none qs code n none, other_next qs n code h (λ d l. none n d l)) refl

  -- a later period
  pub close_later : (i : ℕ) → IsPlaceOf qs code (Some i) → n < i → closing standing code ≡ Err NotEarliest
  close_later i at lt =
      rw (place_closed qs n code i h at, le-ltb i n (omega arith), other_next qs n code h (λ d l. ne_eqb _ _ (λ same. both_ways _ (h.distinct n i d lt at.0) (eq-eqb _ _ (same ∙ sym (eqb-true _ _ (at.1 d))))))) refl

  -- the earliest open one, which is not over
  pub close_early : (q : Period) → IsPlaceOf qs code (Some n) → q ≡ get_or qs n q → is_before q.last day ≡ false → closing standing code ≡ Err NotOver
  close_early q at is early =
      rw (place_closed qs n code n h at, le-ltb n n (omega arith), next_open_is qs n q h.distinct at.0, at.1 q, ← is, early) refl

  -- the earliest open one, which is over
  pub close_over : (q : Period) → IsPlaceOf qs code (Some n) → q ≡ get_or qs n q → is_before q.last day ≡ true → (closing standing code ≡ Ok (plan_of terms airlines rates qs taxes day (n + 1))) × (Done ≡ change_of (is_closed standing code))
  close_over q at is over =
      let closed = place_closed qs n code n h at ∙ le-ltb n n (omega arith) in
      let more : first_codes qs (n + 1) ≡ first_codes qs n ++ code ∷ [] =
      map_more code_of qs n q at.0 ∙ ap (λ x. first_codes qs n ++ x ∷ []) (eqb-true _ _ (at.1 q)) in
      (rw (closed, next_open_is qs n q h.distinct at.0, at.1 q, ← is, over, more) refl, rw closed refl)
