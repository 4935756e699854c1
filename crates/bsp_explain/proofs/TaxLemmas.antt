-- The fields of tax places are in their forms exactly where the places' test holds.
use Rattle.std.proofs.Common.{◌≡◌, ℕ, zero, suc, ◌+◌, ◌-◌, ◌<◌, ◌≤◌, Bool, true, false, ◌&&◌, List, [], ◌∷◌, ◌++◌, refl, sym, ap, ◌∙◌, inl, inr, add-one, arith, Some, None}
use Rattle.std.specs.Prelude.{if◌then◌else◌, nat_lt}
use Rattle.std.specs.Option.{option_or}
use Rattle.std.specs.List.{list_all}
use Rattle.std.proofs.lemmas.Bool.{cases_Bool}
use Rattle.bsp_fields.specs.Columns.{columns, is_letter_or_digit, is_space}
use Rattle.bsp_fields.specs.Fields.{is_amount}
use Rattle.bsp_fields.specs.Taxes.{tax_code, tax_places, taxes_fit}
use Rattle.bsp_explain.specs.declared.field.Field.{Field}
use Rattle.bsp_explain.specs.Fields.{fits, all_fit, first_unfit}
use Rattle.bsp_explain.specs.TaxFields.{place_first, place_at, is_after_unused, code_before, used_place_fields, unused_place_fields, place_fields, places_from, tax_fields}
use Rattle.bsp_explain.proofs.Cutting.{cut}
use Rattle.bsp_explain.proofs.Finding.{all_fit-append, first_unfit-append}

-- ---- the test of one place and of several, over their texts

abbrev tax_test : ℕ → List ℕ → Bool
tax_test before place =
    list_all is_letter_or_digit (columns 1 2 place) && (nat_lt before (tax_code place) && (is_amount (columns 3 13 place) && true))

abbrev place_test : Bool → ℕ → List ℕ → Bool
place_test after before place =
    if list_all is_space place then true else (if after then false else tax_test before place)

abbrev places_test : Bool → ℕ → List (List ℕ) → Bool
places_test after before [] = true
places_test after before (place ∷ places) =
    place_test after before place && places_test (list_all is_space place) (tax_code place) places

-- after an unused place all are unused
unused_rest : (before : ℕ) (places : List (List ℕ)) → places_test true before places ≡ list_all (list_all is_space) places
unused_rest before [] = refl
unused_rest before (place ∷ places) =
    elim (cases_Bool (list_all is_space place)) [
      | inl unused ↦ rw unused (unused_rest (tax_code place) places)
      | inr used ↦ rw used refl
    ]

tax-parts : (code rises amount rest : Bool) → (code && (rises && (amount && true)) && rest) ≡ (code && amount && rises && rest)
tax-parts false rises amount rest = refl
tax-parts true true true rest = refl
tax-parts true true false rest = refl
tax-parts true false true rest = refl
tax-parts true false false rest = refl

places_fit : (before : ℕ) (places : List (List ℕ)) → places_test false before places ≡ taxes_fit before places
places_fit before [] = refl
places_fit before (place ∷ places) =
    elim (cases_Bool (list_all is_space place)) [
      | inl unused ↦ rw unused (unused_rest (tax_code place) places)
      | inr used ↦ rw used (tax-parts (list_all is_letter_or_digit (columns 1 2 place)) (nat_lt before (tax_code place)) (is_amount (columns 3 13 place)) (places_test false (tax_code place) places) ∙ ap (λ b. list_all is_letter_or_digit (columns 1 2 place) && is_amount (columns 3 13 place) && nat_lt before (tax_code place) && b) (places_fit (tax_code place) places))
    ]

-- ---- one place, by its columns

code_in : (place : List ℕ) → tax_code (columns 1 2 place) ≡ tax_code place
code_in [] = refl
code_in (a ∷ []) = refl
code_in (a ∷ b ∷ place) = refl

used_fit : (line : List ℕ) (first number before : ℕ) → 1 ≤ first → all_fit line (used_place_fields first number before) ≡ tax_test before (columns first (first + 12) line)
unfolding all_fit fits
used_fit line first number before one =
    let place = columns first (first + 12) line in
    let code : columns 1 2 place ≡ columns first (first + 1) line = cut line first (first + 12) 1 2 first (first + 1) one (omega arith) (omega arith) (omega arith) (omega arith) (omega arith) in
    let amount : columns 3 13 place ≡ columns (first + 2) (first + 12) line = cut line first (first + 12) 3 13 (first + 2) (first + 12) one (omega arith) (omega arith) (omega arith) (omega arith) (omega arith) in
    let same : tax_code (columns first (first + 1) line) ≡ tax_code place = ap tax_code (sym code) ∙ code_in place in
    rw (code, amount, same) refl

nothing_fits : (line : List ℕ) → all_fit line [] ≡ true
unfolding all_fit
nothing_fits line = refl

unused_fails : (line : List ℕ) (first number : ℕ) → list_all is_space (columns first (first + 12) line) ≡ false → all_fit line (unused_place_fields first number) ≡ false
unfolding all_fit fits
unused_fails line first number used = rw used refl

place_fit : (start : ℕ) (line : List ℕ) (index : ℕ) → 1 ≤ start → all_fit line (place_fields start line index) ≡ place_test (is_after_unused start line index) (code_before start line index) (place_at start line index)
unfolding place_fields
place_fit start line index one =
    elim (cases_Bool (list_all is_space (place_at start line index))) [
      | inl unused ↦ rw unused (nothing_fits line)
      | inr used ↦ rw used (elim (cases_Bool (is_after_unused start line index)) [
        | inl after ↦ rw after (unused_fails line (place_first start index) (index + 1) used)
        | inr before ↦ rw before (used_fit line (place_first start index) (index + 1) (code_before start line index) (omega arith))
      ])
    ]

-- ---- all places

abbrev places_at : ℕ → List ℕ → ℕ → ℕ → List (List ℕ)
places_at start line index zero = []
places_at start line index (suc left) = place_at start line index ∷ places_at start line (suc index) left

places_fit_from : (start : ℕ) (line : List ℕ) (index left : ℕ) → 1 ≤ start → all_fit line (places_from start line index left) ≡ places_test (is_after_unused start line index) (code_before start line index) (places_at start line index left)
places_fit_from start line index zero one = nothing_fits line
places_fit_from start line index (suc left) one =
    all_fit-append line (place_fields start line index) (places_from start line (suc index) left)
    ∙ rw (place_fit start line index one, places_fit_from start line (suc index) left one) refl

-- the six places of a record 5
pub ret_taxes : (line : List ℕ) → all_fit line (tax_fields 19 line) ≡ taxes_fit 0 (tax_places line)
unfolding tax_fields
ret_taxes line = places_fit_from 19 line 0 6 (omega arith) ∙ places_fit 0 (tax_places line)

-- and those from column 33 on, 14 columns further on
places_are : (line : List ℕ) → tax_places (columns 15 136 line) ≡ places_at 33 line 0 6
places_are line =
    rw (
      cut line 15 136 19 31 33 45 (omega arith) (omega arith) (omega arith) (omega arith) (omega arith) (omega arith),
      cut line 15 136 32 44 46 58 (omega arith) (omega arith) (omega arith) (omega arith) (omega arith) (omega arith),
      cut line 15 136 45 57 59 71 (omega arith) (omega arith) (omega arith) (omega arith) (omega arith) (omega arith),
      cut line 15 136 58 70 72 84 (omega arith) (omega arith) (omega arith) (omega arith) (omega arith) (omega arith),
      cut line 15 136 71 83 85 97 (omega arith) (omega arith) (omega arith) (omega arith) (omega arith) (omega arith),
      cut line 15 136 84 96 98 110 (omega arith) (omega arith) (omega arith) (omega arith) (omega arith) (omega arith),
    ) refl

pub later_taxes : (line : List ℕ) → all_fit line (tax_fields 33 line) ≡ taxes_fit 0 (tax_places (columns 15 136 line))
unfolding tax_fields
later_taxes line =
    places_fit_from 33 line 0 6 (omega arith)
    ∙ places_fit 0 (places_at 33 line 0 6)
    ∙ ap (taxes_fit 0) (sym (places_are line))

-- ---- the first of them, one place after the other

count_left : (index : ℕ) → index < 6 → 6 - index ≡ suc (6 - suc index)
count_left index inside = omega arith

-- the fields from a place on are its own and those of the places after it
left_from : (start : ℕ) (line : List ℕ) (index : ℕ) → index < 6 → places_from start line index (6 - index) ≡ place_fields start line index ++ places_from start line (index + 1) (6 - (index + 1))
left_from start line index inside = rw (add-one, count_left index inside) refl

pub place_passed : (start : ℕ) (line : List ℕ) (index : ℕ) → index < 6 → first_unfit line (place_fields start line index) ≡ None → all_fit line (place_fields start line index) ≡ true → (first_unfit line (places_from start line index (6 - index)) ≡ first_unfit line (places_from start line (index + 1) (6 - (index + 1)))) × (all_fit line (places_from start line index (6 - index)) ≡ all_fit line (places_from start line (index + 1) (6 - (index + 1))))
place_passed start line index inside none fit =
    let rest = places_from start line (index + 1) (6 - (index + 1)) in
    let from = left_from start line index inside in (
      ap (first_unfit line) from ∙ first_unfit-append line (place_fields start line index) rest ∙ ap (λ found. option_or found (first_unfit line rest)) none,
      ap (all_fit line) from ∙ all_fit-append line (place_fields start line index) rest ∙ ap (λ fits. fits && all_fit line rest) fit,
    )

pub place_stopped : (start : ℕ) (line : List ℕ) (index : ℕ) (f : Field) → index < 6 → first_unfit line (place_fields start line index) ≡ Some f → all_fit line (place_fields start line index) ≡ false → (first_unfit line (places_from start line index (6 - index)) ≡ Some f) × (all_fit line (places_from start line index (6 - index)) ≡ false)
place_stopped start line index f inside some unfit =
    let rest = places_from start line (index + 1) (6 - (index + 1)) in
    let from = left_from start line index inside in (
      ap (first_unfit line) from ∙ first_unfit-append line (place_fields start line index) rest ∙ ap (λ found. option_or found (first_unfit line rest)) some,
      ap (all_fit line) from ∙ all_fit-append line (place_fields start line index) rest ∙ ap (λ fits. fits && all_fit line rest) unfit,
    )

-- a place of spaces has no field
pub blank_place : (line : List ℕ) → (first_unfit line [] ≡ None) × (all_fit line [] ≡ true)
unfolding first_unfit all_fit
blank_place line = (refl, refl)

pub blank_fits : (start : ℕ) (line : List ℕ) (index : ℕ) → list_all is_space (place_at start line index) ≡ true → all_fit line (place_fields start line index) ≡ true
unfolding place_fields
blank_fits start line index blank = rw blank (nothing_fits line)

-- all places, from the first on
pub from_first : (start : ℕ) (line : List ℕ) → tax_fields start line ≡ places_from start line 0 6
unfolding tax_fields
from_first start line = refl

-- after the last one nothing is left
pub no_place_left : (start : ℕ) (line : List ℕ) (index : ℕ) → index ≡ 6 → (first_unfit line (places_from start line index (6 - index)) ≡ None) × (all_fit line (places_from start line index (6 - index)) ≡ true)
no_place_left start line index last = rw last (blank_place line)
