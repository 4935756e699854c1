-- Lemmas on periods that follow one another, no two of one code, the first of which are closed.
use Rattle.std.proofs.Common.{◌≡◌, ℕ, suc, ◌<◌, ◌≤◌, ◌&&◌, ◌==◌, Bool, true, false, not, List, [], ◌∷◌, Some, None, length, get_or, take, max, map, sym, refl, ◌∙◌, ap, arith, ltb, ◌<ℤ◌, ◌≤ℤ◌, inl, inr}
use Rattle.std.specs.List.{All, AllPairs, find, list_all}
use Rattle.std.specs.List.Sorted.{IsPartitionedBy}
use Rattle.std.proofs.lemmas.Bool.{and_parts, and_from, and_left, and_right, eqb-false, ne_eqb, eq-eqb, lt-ltb, le-ltb, cases_lt, cases_eq, both_ways, not_from_true, not_from_false}
use Rattle.std.proofs.lemmas.List.{get_or-map, get_or-take, length-take, length-map, get_or_default}
use Rattle.std.proofs.lemmas.List.Elements.{All-nil, All-cons}
use Rattle.std.proofs.lemmas.List.Kept.{AllPairs-cons}
use Rattle.std.proofs.lemmas.List.Folds.{list_any_at, list_any_none}
use Rattle.bsp_fields.specs.CivilDay.{CivilDay}
use Rattle.bsp_fields.specs.Days.{day_number}
use Rattle.bsp_calendar.specs.DayOrder.{is_up_to, is_before, is_next_day}
use Rattle.bsp_calendar.specs.Published.{is_among}
use Rattle.bsp_calendar.specs.Requests.{has_days_in_order, follow_one_another, are_in_order}
use Rattle.bsp_calendar.specs.Standing.{first_codes, ends_before, IsFirstNotOver}
use Rattle.bsp_calendar.specs.declared.entries.Period.{Period}
use Rattle.bsp_calendar.proofs.ListLemmas.{with_item, find_is, find_none}
use Rattle.bsp_calendar.proofs.DayLemmas.{up_to_true, up_to_from, not_up_to, not_up_to_from, before_true, before_from, not_before, next_above, up_to_next, below_weaker, below_trans, up_to_trans}

abbrev pub AreApart : List Period → Type 0
AreApart qs = AllPairs (λ q r. (q.code == r.code) ≡ false) qs

-- as many periods as are closed, no code twice, and each period after the one before it
pub record IsStanding (periods : List Period) (closed : ℕ) : Type 0 where
  pub within : closed ≤ length periods
  pub distinct : AreApart periods
  pub in_order : are_in_order periods ≡ true

-- ---- closed codes

apart_at : (qs : List Period) (k i : ℕ) (d : Period) → AreApart qs → k < length qs → i < length qs → (k ≡ i → ⊥) → (get_or qs k d).code ≡ (get_or qs i d).code → ⊥
apart_at qs k i d apart lk li ne same =
    elim (cases_lt k i) [
      | inl lt ↦ both_ways _ (apart k i d lt li) (eq-eqb _ _ same)
      | inr ge ↦ both_ways _ (apart i k d (omega arith) lk) (eq-eqb _ _ (sym same))
    ]

pub among_first : (qs : List Period) (i n : ℕ) (d : Period) → i < length qs → i < n → is_among (get_or qs i d).code (first_codes qs n) ≡ true
among_first qs i n d within lt =
    let f : Period → ℕ = λ q. q.code in
    let short : i < length (take n qs) = rw length-take (omega arith) in
    let long : i < length (map f (take n qs)) = rw (length-map (take n qs) f) short in
    let is : get_or (map f (take n qs)) i 0 ≡ (get_or qs i d).code = get_or-map f (take n qs) i d 0 short ∙ ap f (get_or-take n qs i d lt) in
    list_any_at (λ other. (get_or qs i d).code == other) (map f (take n qs)) i 0 long (eq-eqb _ _ (sym is))

pub not_among_first : (qs : List Period) (i n : ℕ) (d : Period) → AreApart qs → i < length qs → n ≤ i → is_among (get_or qs i d).code (first_codes qs n) ≡ false
not_among_first qs i n d apart within le =
    let f : Period → ℕ = λ q. q.code in
    list_any_none (λ other. (get_or qs i d).code == other) (map f (take n qs))
    (λ k e l.
    let short : k < length (take n qs) = rw (← length-map (take n qs) f) l in
    let bound : k < n = omega (arith, length-take n qs) in
    let is : get_or (map f (take n qs)) k e ≡ (get_or qs k d).code = get_or-map f (take n qs) k d e short ∙ ap f (get_or-take n qs k d bound) in
    ne_eqb _ _ (λ same. apart_at qs k i d apart (omega arith) within (omega arith) (sym (same ∙ is))))

pub among_is : (qs : List Period) (i n : ℕ) (d : Period) → AreApart qs → i < length qs → is_among (get_or qs i d).code (first_codes qs n) ≡ ltb i n
among_is qs i n d apart within =
    elim (cases_lt i n) [
      | inl lt ↦ among_first qs i n d within lt ∙ sym (lt-ltb i n lt)
      | inr ge ↦ not_among_first qs i n d apart within ge ∙ sym (le-ltb i n ge)
    ]

-- a code that no period has
pub among_none : (qs : List Period) (code n : ℕ) → All (λ q. (q.code == code) ≡ false) qs → is_among code (first_codes qs n) ≡ false
among_none qs code n none =
    let f : Period → ℕ = λ q. q.code in
    list_any_none (λ other. code == other) (map f (take n qs))
    (λ k e l.
    let short : k < length (take n qs) = rw (← length-map (take n qs) f) l in
    with_item qs k (omega (arith, length-take n qs))
    (λ d.
    let is : get_or (map f (take n qs)) k e ≡ (get_or qs k d).code = get_or-map f (take n qs) k d e short ∙ ap f (get_or-take n qs k d (omega (arith, length-take n qs))) in
    ne_eqb _ _ (λ same. eqb-false _ _ (none k d (omega (arith, length-take n qs))) (sym (same ∙ is)))))

-- no two of the closed codes are one
pub codes_apart : (qs : List Period) (n : ℕ) → AreApart qs → AllPairs (λ a b. (a == b) ≡ false) (first_codes qs n)
codes_apart qs n apart i j d lt l =
    let f : Period → ℕ = λ q. q.code in
    let short : j < length (take n qs) = rw (← length-map (take n qs) f) l in
    with_item qs j (omega (arith, length-take n qs))
    (λ e.
    let at : (k : ℕ) → k < length (take n qs) → get_or (map f (take n qs)) k d ≡ (get_or qs k e).code = λ k s. get_or-map f (take n qs) k e d s ∙ ap f (get_or-take n qs k e (omega (arith, length-take n qs))) in
    rw (at i (omega arith), at j short) (apart i j e lt (omega (arith, length-take n qs))))

-- ---- the next period to be closed

pub next_open_is : (qs : List Period) (n : ℕ) (d : Period) → AreApart qs → n < length qs → find (λ q. not (is_among q.code (first_codes qs n))) qs ≡ Some (get_or qs n d)
next_open_is qs n d apart within =
    find_is (λ q. not (is_among q.code (first_codes qs n))) qs n d within
    (λ k lt. not_from_true _ (among_first qs k n d (omega arith) lt))
    (not_from_false _ (not_among_first qs n n d apart within (omega arith)))

pub next_open_none : (qs : List Period) (n : ℕ) → length qs ≤ n → find (λ q. not (is_among q.code (first_codes qs n))) qs ≡ None
next_open_none qs n past =
    find_none (λ q. not (is_among q.code (first_codes qs n))) qs (λ k d l. not_from_true _ (among_first qs k n d l (omega arith)))

-- ---- days that rise

pub record Rises (qs : List Period) : Type 0 where
  pub each : All (λ q. day_number q.first ≤ℤ day_number q.last) qs
  pub next : AllPairs (λ q r. day_number q.last <ℤ day_number r.first) qs

days_of : (q : Period) → has_days_in_order q ≡ true → day_number q.first ≤ℤ day_number q.last
days_of q h = up_to_true _ _ (and_parts (is_up_to q.first q.last) (is_before q.last q.remittance) h).0

follow_tail : (q : Period) (qs : List Period) → follow_one_another (q ∷ qs) ≡ true → follow_one_another qs ≡ true
follow_tail q [] h = refl
follow_tail q (r ∷ rs) h = (and_parts (is_next_day q.last r.first) (follow_one_another (r ∷ rs)) h).1

after_head : (q : Period) (qs : List Period) → follow_one_another (q ∷ qs) ≡ true → Rises qs → All (λ r. day_number q.last <ℤ day_number r.first) qs
after_head q [] h rest = All-nil (λ r. day_number q.last <ℤ day_number r.first)
after_head q (r ∷ rs) h rest =
    let first : day_number q.last <ℤ day_number r.first = next_above _ _ (and_parts (is_next_day q.last r.first) (follow_one_another (r ∷ rs)) h).0 in
    All-cons (λ s. day_number q.last <ℤ day_number s.first) r rs first
    (λ k d l. below_trans _ _ _ first (up_to_trans _ _ _ (rest.each 0 d (omega arith)) (below_weaker _ _ (rest.next 0 (suc k) d (omega arith) (omega arith)))))

rises : (qs : List Period) → list_all has_days_in_order qs ≡ true → follow_one_another qs ≡ true → Rises qs
rises [] h f = record { each = λ k d l. absurd (omega arith); next = λ i j d lt l. absurd (omega arith) }
rises (q ∷ qs) h f =
    let days = and_parts (has_days_in_order q) (list_all has_days_in_order qs) h in
    let rest = rises qs days.1 (follow_tail q qs f) in
    record {
      each = All-cons (λ r. day_number r.first ≤ℤ day_number r.last) q qs (days_of q days.0) rest.each;
      next = AllPairs-cons (λ r s. day_number r.last <ℤ day_number s.first) q qs (after_head q qs f rest) rest.next;
    }

pub rises_in : (qs : List Period) (n : ℕ) → IsStanding qs n → Rises qs
rises_in qs n h =
    let both = and_parts (list_all has_days_in_order qs) (follow_one_another qs) h.in_order in rises qs both.0 both.1

-- ---- the period that takes a transaction

-- not closed, not over before the date of issue, and begun
abbrev pub takes_among : List ℕ → CivilDay → CivilDay → Period → Bool
takes_among closed day issued q = not (is_among q.code closed) && (is_up_to issued q.last && is_up_to q.first day)

-- a period that ends before a day stands before those that do not
pub partitioned : (qs : List Period) (n : ℕ) (issued : CivilDay) → IsStanding qs n → IsPartitionedBy (ends_before issued) qs
partitioned qs n issued h i j d le l ends =
    let r = rises_in qs n h in
    let end : day_number (get_or qs j d).last <ℤ day_number issued = before_true _ _ ends in
    elim (cases_eq i j) [
      | inl e ↦ rw e (before_from _ _ end)
      | inr ne ↦ before_from _ _ (up_to_next _ _ _ (below_weaker _ _ (below_trans _ _ _ (r.next i j d (omega arith) l) (r.each j d l))) end)
    ]

-- none of the closed periods takes it, nor one that ends before
taken_not : (qs : List Period) (n f : ℕ) (day issued : CivilDay) (d : Period) → IsStanding qs n → IsFirstNotOver issued qs f → (k : ℕ) → k < max f n → k < length qs → takes_among (first_codes qs n) day issued (get_or qs k d) ≡ false
taken_not qs n f day issued d h first k lt l =
    let q = get_or qs k d in
    elim (cases_lt k n) [
      | inl closed ↦ and_left _ (is_up_to issued q.last && is_up_to q.first day) (not_from_true _ (among_first qs k n d l closed))
      | inr ge ↦
          and_right (not (is_among q.code (first_codes qs n))) _
          (and_left _ (is_up_to q.first day)
          (not_up_to_from (day_number issued) (day_number q.last) (before_true (day_number q.last) (day_number issued) (first.1.0 k d (omega arith) (omega arith)))))
    ]

-- the first that is neither takes it where it has begun
pub target_some : (qs : List Period) (n f i : ℕ) (day issued : CivilDay) (d : Period) → IsStanding qs n → IsFirstNotOver issued qs f → i ≡ max f n → i < length qs → is_up_to (get_or qs i d).first day ≡ true → find (takes_among (first_codes qs n) day issued) qs ≡ Some (get_or qs i d)
target_some qs n f i day issued d h first is within begun =
    let q = get_or qs i d in
    let last : is_before q.last issued ≡ false = first.1.1 i d (omega arith) within in
    find_is (takes_among (first_codes qs n) day issued) qs i d within
    (λ k lt. taken_not qs n f day issued d h first k (omega arith) (omega arith))
    (and_from _ _ (not_from_false _ (not_among_first qs i n d h.distinct within (omega arith)))
    (and_from (is_up_to issued q.last) _ (up_to_from (day_number issued) (day_number q.last) (not_before (day_number q.last) (day_number issued) last)) begun))

-- none takes it where that one has not begun
pub target_later : (qs : List Period) (n f i : ℕ) (day issued : CivilDay) (d : Period) → IsStanding qs n → IsFirstNotOver issued qs f → i ≡ max f n → i < length qs → is_up_to (get_or qs i d).first day ≡ false → find (takes_among (first_codes qs n) day issued) qs ≡ None
target_later qs n f i day issued d h first is within begun =
    let r = rises_in qs n h in
    find_none (takes_among (first_codes qs n) day issued) qs
    (λ k e l.
    rw (get_or_default qs k e d l)
    (elim (cases_lt k i) [
      | inl lt ↦ taken_not qs n f day issued d h first k (omega arith) l
      | inr ge ↦
          let later : is_up_to (get_or qs k d).first day ≡ false =
          elim (cases_eq k i) [
            | inl same ↦ rw same begun
            | inr ne ↦ not_up_to_from (day_number (get_or qs k d).first) (day_number day) (up_to_next _ _ _ (up_to_trans _ _ _ (below_weaker _ _ (not_up_to (day_number (get_or qs i d).first) (day_number day) begun)) (r.each i d within)) (r.next i k d (omega arith) l))
          ] in
          and_right (not (is_among (get_or qs k d).code (first_codes qs n))) _ (and_right (is_up_to issued (get_or qs k d).last) _ later)
    ]))

-- nor where there is no such period
pub target_past : (qs : List Period) (n f i : ℕ) (day issued : CivilDay) → IsStanding qs n → IsFirstNotOver issued qs f → i ≡ max f n → length qs ≤ i → find (takes_among (first_codes qs n) day issued) qs ≡ None
target_past qs n f i day issued h first is past =
    find_none (takes_among (first_codes qs n) day issued) qs
    (λ k d l. taken_not qs n f day issued d h first k (omega arith) l)

-- ---- the period of a code

abbrev pub has_period_code : ℕ → Period → Bool
has_period_code code q = q.code == code

pub period_is : (qs : List Period) (code i : ℕ) (d : Period) → AreApart qs → i < length qs → (get_or qs i d).code ≡ code → find (has_period_code code) qs ≡ Some (get_or qs i d)
period_is qs code i d apart within is =
    find_is (has_period_code code) qs i d within
    (λ k lt. ne_eqb _ _ (λ same. apart_at qs k i d apart (omega arith) within (omega arith) (same ∙ sym is)))
    (eq-eqb _ _ is)
