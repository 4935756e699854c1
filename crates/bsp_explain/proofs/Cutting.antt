-- Lemmas on columns of columns, and on fields side by side.
use Rattle.std.proofs.Common.{◌≡◌, ℕ, ◌+◌, ◌-◌, ◌≤◌, ◌&&◌, ◌++◌, List, take, drop, ap, ◌∙◌, arith, drop-drop, refl}
use Rattle.std.specs.Prelude.{slice_range}
use Rattle.std.specs.List.{list_all}
use Rattle.std.specs.Char.{is_ascii_digit}
use Rattle.std.specs.Str.{all_ascii_digits}
use Rattle.std.proofs.Math.Seq.{take-add}
use Rattle.std.proofs.lemmas.List.{drop-take, take-take}
use Rattle.std.proofs.lemmas.List.Folds.{list_all-append}
use Rattle.bsp_fields.specs.Columns.{columns}
use Rattle.bsp_fields.proofs.CharacterLemmas.{digits_are}

-- what is cut out of a part of a text is a part of the text
cut_inside : (xs : List ℕ) (skipped width inner n : ℕ) → inner + n ≤ width → take n (drop inner (take width (drop skipped xs))) ≡ take n (drop (skipped + inner) xs)
cut_inside xs skipped width inner n fits =
    let count : width ≡ inner + (width - inner) = omega arith in
    ap (λ k. take n (drop inner (take k (drop skipped xs)))) count
    ∙ ap (take n) (drop-take inner (width - inner) (drop skipped xs))
    ∙ take-take n (width - inner) (drop inner (drop skipped xs)) (omega arith)
    ∙ ap (take n) (drop-drop inner skipped xs)

-- columns i to j of columns a to b
pub cut : (line : List ℕ) (a b i j from to : ℕ) → 1 ≤ a → 1 ≤ i → i ≤ j → a + i ≡ from + 1 → a + j ≡ to + 1 → to ≤ b → columns i j (columns a b line) ≡ columns from to line
cut line a b i j from to one some order first last fits =
    let width : j - (i - 1) ≡ to - (from - 1) = omega arith in
    let place : a - 1 + (i - 1) ≡ from - 1 = omega arith in
    cut_inside line (a - 1) (b - (a - 1)) (i - 1) (j - (i - 1)) (omega arith)
    ∙ ap (λ k. take (j - (i - 1)) (drop k line)) place
    ∙ ap (λ k. take k (drop (from - 1) line)) width

-- a text in two parts
parts : (xs : List ℕ) (a b c : ℕ) → a ≤ b → b ≤ c → slice_range xs a c ≡ slice_range xs a b ++ slice_range xs b c
parts xs a b c ab bc =
    let count : c - a ≡ b - a + (c - b) = omega arith in
    let place : a + (b - a) ≡ b = omega arith in
    ap (λ k. take k (drop a xs)) count
    ∙ take-add (b - a) (c - b) (drop a xs)
    ∙ ap (λ ys. take (b - a) (drop a xs) ++ take (c - b) ys) (drop-drop (b - a) a xs ∙ ap (λ k. drop k xs) place)

-- digits in two parts of a text
pub digits-parts : (line : List ℕ) (a b c : ℕ) → 1 ≤ a → a ≤ b + 1 → b ≤ c → all_ascii_digits (columns a c line) ≡ (all_ascii_digits (columns a b line) && all_ascii_digits (columns (b + 1) c line))
digits-parts line a b c one ab bc =
    let place : b + 1 - 1 ≡ b = omega arith in
    digits_are (columns a c line)
    ∙ ap (list_all is_ascii_digit) (parts line (a - 1) b c (omega arith) bc)
    ∙ list_all-append is_ascii_digit (slice_range line (a - 1) b) (slice_range line b c)
    ∙ rw (place, digits_are (columns a b line), digits_are (slice_range line b c)) refl
