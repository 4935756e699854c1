-- Lemmas on tax places, one by one.
use Rattle.std.proofs.Common.{◌≡◌, ◌≢◌, ℕ, zero, suc, ◌+◌, ◌-◌, ◌*◌, ◌<◌, ◌≤◌, Bool, true, false, ◌&&◌, List, [], ◌∷◌, ◌++◌, length, get_or, take, drop, refl, sym, ap, ◌∙◌, arith, inl, inr, drop-drop, length-drop}
use Rattle.std.proofs.lemmas.Grind.{common_steps}
use Rattle.std.proofs.lemmas.Bool.{cases_Bool, and_left, and_right, eqb-true}
use Rattle.std.proofs.lemmas.List.{length-take, take-take}
use Rattle.std.proofs.lemmas.List.Folds.{list_all-append}
use Rattle.std.specs.Prelude.{◌==◌, if◌then◌else◌, nat_lt, slice_range}
use Rattle.std.specs.List.{list_all}
use Rattle.bsp_fields.specs.Columns.{is_space}
use Rattle.bsp_fields.specs.Taxes.{tax_code, tax_fits, taxes_fit, tax_places, taxes_from}

-- the places from this one on fit, behind a place with this code
pub rest_fits : List ℕ → ℕ → ℕ → Bool
rest_fits line index before = taxes_fit before (drop index (tax_places line))

-- the place of this index, and the characters of all behind it
abbrev pub place_at : List ℕ → ℕ → List ℕ
place_at line index = slice_range line (18 + 13 * index) (31 + 13 * index)

abbrev pub behind_place : List ℕ → ℕ → List ℕ
behind_place line index = slice_range line (31 + 13 * index) 96

-- what a used place asks of itself and of those behind it
abbrev pub used_fits : List ℕ → ℕ → ℕ → List ℕ → Bool
used_fits line index before place = tax_fits place && nat_lt before (tax_code place) && rest_fits line (index + 1) (tax_code place)

-- what any place asks
abbrev place_fits : List ℕ → ℕ → ℕ → Bool
place_fits line index before =
    if list_all is_space (place_at line index) then list_all is_space (behind_place line index) else used_fits line index before (place_at line index)

-- all places, from the first on
pub rest_fits-first : (line : List ℕ) → rest_fits line 0 0 ≡ taxes_fit 0 (tax_places line)
unfolding rest_fits
rest_fits-first line = refl

-- behind the last place nothing is asked
pub rest_fits-none : (line : List ℕ) (before : ℕ) → rest_fits line 6 before ≡ true
unfolding rest_fits
rest_fits-none line before = refl

-- the first n + m characters in two parts
take-add : (n m : ℕ) (xs : List ℕ) → take (n + m) xs ≡ take n xs ++ take m (drop n xs)
take-add zero m xs = ap (λ k. take k xs) (omega arith)
take-add (suc n) m [] = grind (arith, common_steps)
take-add (suc n) m (x ∷ xs) =
    let count : suc n + m ≡ suc (n + m) = omega arith in
    ap (λ k. take k (x ∷ xs)) count ∙ ap (λ ys. x ∷ ys) (take-add n m xs)

-- spaces in two parts of a text
spaces-parts : (xs : List ℕ) (a b c : ℕ) → a ≤ b → b ≤ c → list_all is_space (slice_range xs a c) ≡ (list_all is_space (slice_range xs a b) && list_all is_space (slice_range xs b c))
spaces-parts xs a b c ab bc =
    let count : c - a ≡ b - a + (c - b) = omega arith in
    let place : a + (b - a) ≡ b = omega arith in
    let back : drop (b - a) (drop a xs) ≡ drop b xs = drop-drop (b - a) a xs ∙ ap (λ k. drop k xs) place in
    let parts : take (c - a) (drop a xs) ≡ take (b - a) (drop a xs) ++ take (c - b) (drop b xs) =
    ap (λ k. take k (drop a xs)) count ∙ take-add (b - a) (c - b) (drop a xs)
    ∙ ap (λ ys. take (b - a) (drop a xs) ++ take (c - b) ys) back in
    ap (list_all is_space) parts ∙ list_all-append is_space (take (b - a) (drop a xs)) (take (c - b) (drop b xs))

-- spaces in a place and in all behind it
spaces-place : (line : List ℕ) (a b : ℕ) (behind : Bool) → a ≤ b → b ≤ 96 → behind ≡ list_all is_space (slice_range line b 96) → (list_all is_space (slice_range line a b) && behind) ≡ list_all is_space (slice_range line a 96)
spaces-place line a b behind ab bc is = rw is (sym (spaces-parts line a b 96 ab bc))

-- the places behind the first, one less each time: all are spaces where the text from there on is
spaces-6 : (line : List ℕ) → true ≡ list_all is_space (slice_range line 96 96)
spaces-6 line = refl

spaces-5 : (line : List ℕ) → list_all (list_all is_space) (drop 5 (tax_places line)) ≡ list_all is_space (slice_range line 83 96)
spaces-5 line = spaces-place line 83 96 true (omega arith) (omega arith) (spaces-6 line)

spaces-4 : (line : List ℕ) → list_all (list_all is_space) (drop 4 (tax_places line)) ≡ list_all is_space (slice_range line 70 96)
spaces-4 line = spaces-place line 70 83 (list_all (list_all is_space) (drop 5 (tax_places line))) (omega arith) (omega arith) (spaces-5 line)

spaces-3 : (line : List ℕ) → list_all (list_all is_space) (drop 3 (tax_places line)) ≡ list_all is_space (slice_range line 57 96)
spaces-3 line = spaces-place line 57 70 (list_all (list_all is_space) (drop 4 (tax_places line))) (omega arith) (omega arith) (spaces-4 line)

spaces-2 : (line : List ℕ) → list_all (list_all is_space) (drop 2 (tax_places line)) ≡ list_all is_space (slice_range line 44 96)
spaces-2 line = spaces-place line 44 57 (list_all (list_all is_space) (drop 3 (tax_places line))) (omega arith) (omega arith) (spaces-3 line)

spaces-1 : (line : List ℕ) → list_all (list_all is_space) (drop 1 (tax_places line)) ≡ list_all is_space (slice_range line 31 96)
spaces-1 line = spaces-place line 31 44 (list_all (list_all is_space) (drop 2 (tax_places line))) (omega arith) (omega arith) (spaces-2 line)

-- the places from one on fit where it and those behind it do
rest_fits-place : (line : List ℕ) (index before : ℕ) → index < 6 → rest_fits line index before ≡ place_fits line index before
unfolding rest_fits
rest_fits-place line zero before lt = rw (spaces-1 line) refl
rest_fits-place line (suc zero) before lt = rw (spaces-2 line) refl
rest_fits-place line (suc (suc zero)) before lt = rw (spaces-3 line) refl
rest_fits-place line (suc (suc (suc zero))) before lt = rw (spaces-4 line) refl
rest_fits-place line (suc (suc (suc (suc zero)))) before lt = rw (spaces-5 line) refl
rest_fits-place line (suc (suc (suc (suc (suc zero))))) before lt = rw (spaces-6 line) refl
rest_fits-place line (suc (suc (suc (suc (suc (suc index)))))) before lt = absurd (omega (arith, lt))

-- the place of an index, by its columns
pub place_is : (line : List ℕ) (index : ℕ) → index < 6 → get_or (tax_places line) index [] ≡ place_at line index
place_is line zero lt = refl
place_is line (suc zero) lt = refl
place_is line (suc (suc zero)) lt = refl
place_is line (suc (suc (suc zero))) lt = refl
place_is line (suc (suc (suc (suc zero)))) lt = refl
place_is line (suc (suc (suc (suc (suc zero))))) lt = refl
place_is line (suc (suc (suc (suc (suc (suc index)))))) lt = absurd (omega (arith, lt))

-- and as the first characters of those from there on
pub place_cut : (line : List ℕ) (index : ℕ) → index < 6 → take 13 (taxes_from line index) ≡ get_or (tax_places line) index []
place_cut line index lt =
    let wide : 31 + 13 * index - (18 + 13 * index) ≡ 13 = omega arith in
    take-take 13 (96 - (18 + 13 * index)) (drop (18 + 13 * index) line) (omega arith)
    ∙ ap (λ k. take k (drop (18 + 13 * index) line)) (sym wide)
    ∙ sym (place_is line index lt)

-- a place that begins with a space is not used
unused_fits : (place : List ℕ) → 2 ≤ length place → get_or place 0 0 ≡ 32 → tax_fits place ≡ false
unused_fits [] wide space = absurd (omega arith)
unused_fits (b ∷ []) wide space = absurd (omega arith)
unused_fits (b ∷ c ∷ place) wide space = rw space refl

-- and one that begins with another character is
used_some : (place : List ℕ) → 0 < length place → get_or place 0 0 ≢ 32 → list_all is_space place ≡ false
used_some [] one other = absurd (omega arith)
used_some (b ∷ place) one other =
    elim (cases_Bool (b == 32)) [ inl space ↦ absurd (other (eqb-true b 32 space)) | inr some ↦ rw some refl ]

place_wide : (line : List ℕ) (index : ℕ) → index < 6 → 96 ≤ length line → length (place_at line index) ≡ 13
place_wide line index lt wide =
    rw (length-take (31 + 13 * index - (18 + 13 * index)) (drop (18 + 13 * index) line), length-drop (18 + 13 * index) line) (omega arith)

-- the taxes, where the place of this index is the first unused
pub taxes-unused : (line place : List ℕ) (index before : ℕ) → rest_fits line 0 0 ≡ rest_fits line index before → index < 6 → 96 ≤ length line → place ≡ get_or (tax_places line) index [] → get_or place 0 0 ≡ 32 → rest_fits line 0 0 ≡ list_all is_space (taxes_from line index)
taxes-unused line place index before so_far lt wide is space =
    let at : place_at line index ≡ place = sym (is ∙ place_is line index lt) in
    let parts = spaces-parts line (18 + 13 * index) (31 + 13 * index) 96 (omega arith) (omega arith) in
    let stopped : tax_fits (place_at line index) ≡ false =
    unused_fits (place_at line index) (omega (arith, place_wide line index lt wide)) (ap (λ xs. get_or xs 0 0) at ∙ space) in
    so_far ∙ rest_fits-place line index before lt ∙ elim (cases_Bool (list_all is_space (place_at line index))) [
      | inl all ↦ rw all (sym (parts ∙ rw all refl))
      | inr some ↦ rw (some, stopped) (sym (parts ∙ rw some refl))
    ]

-- the taxes, where it is used
pub taxes-used : (line place : List ℕ) (index before : ℕ) → rest_fits line 0 0 ≡ rest_fits line index before → index < 6 → 96 ≤ length line → place ≡ get_or (tax_places line) index [] → get_or place 0 0 ≢ 32 → rest_fits line 0 0 ≡ used_fits line index before place
taxes-used line place index before so_far lt wide is other =
    let at : place_at line index ≡ place = sym (is ∙ place_is line index lt) in
    let long : 0 < length place = omega (arith, place_wide line index lt wide, ap (length {A = ℕ}) at) in
    let some : list_all is_space (place_at line index) ≡ false = rw at (used_some place long other) in
    so_far ∙ rest_fits-place line index before lt ∙ rw some (ap (used_fits line index before) at)

-- a tax that fits, behind a lower code
pub taxes-passed : (line place : List ℕ) (index before number : ℕ) → tax_fits place ≡ true → number ≡ tax_code place → before < number → used_fits line index before place ≡ rest_fits line (index + 1) number
taxes-passed line place index before number fits is rises =
    let lower : nat_lt before number ≡ true = grind arith in
    rw (fits, ← is, lower) refl

-- a tax that does not fit
pub taxes-stopped : (line place : List ℕ) (index before : ℕ) → tax_fits place ≡ false → used_fits line index before place ≡ false
taxes-stopped line place index before stops = rw stops refl

-- a code that does not rise
pub taxes-fallen : (line place : List ℕ) (index before number : ℕ) → number ≡ tax_code place → number ≤ before → used_fits line index before place ≡ false
taxes-fallen line place index before number is falls =
    let lower : nat_lt before number ≡ false = grind arith in
    rw (← is) (and_left _ (rest_fits line (index + 1) number) (and_right (tax_fits place) (nat_lt before number) lower))
