-- Lemmas on signed zoned decimals.
use Rattle.std.proofs.Common.{◌≡◌, ℕ, zero, suc, ◌+◌, ◌-◌, ◌*◌, ◌/◌, ◌%◌, ◌^◌, ◌<◌, ◌≤◌, Bool, true, false, not, ◌||◌, List, [], ◌∷◌, ◌++◌, length, set, get_or, refl, sym, ap, ◌∙◌, arith, length-append, take, Ok, Err, ℤ, pos, negsuc, subst, w64, to_z, of_z}
use Rattle.std.proofs.lemmas.Int.{to_z-of_z, fits_signed_from_abs}
use Rattle.std.specs.Prelude.{unsigned_abs, ◌==◌}
use Rattle.std.specs.Char.{is_ascii_digit}
use Rattle.std.specs.Int.{is_negative}
use Rattle.std.specs.Str.{all_ascii_digits}
use Rattle.std.proofs.Math.Nat.{pow-suc}
use Rattle.std.proofs.lemmas.Grind.{common_steps}
use Rattle.std.proofs.lemmas.Bool.{eq-eqb, le-ltb, eqb-true, not-false}
use Rattle.std.proofs.lemmas.List.{take_at, take_more, take_all, length-take-le}
use Rattle.std.proofs.Math.Seq.{get_or-append_seam, set-append_seam}
use Rattle.std.proofs.Math.Bool.{or-true}
use Rattle.bsp_fields.specs.Decimal.{number_of, fixed_digits, digits_reading}
use Rattle.bsp_fields.specs.Zoned.{IsSpelling, all_but_last, last_character, is_plus, is_minus, last_digit, with_sign, zoned_value, zoned_reading, ending, ending_reading, spelling}
use Rattle.bsp_fields.specs.declared.fault.FieldFault.{FieldFault}
use Rattle.bsp_fields.specs.declared.fault.FieldFault.TheVariants.{Width, NotDigit, NotSign}
use Rattle.bsp_fields.proofs.FirstFaultLemmas.{only_row_told, row_passed, value_told}
use Rattle.bsp_fields.proofs.DecimalLemmas.{length-fixed_digits, digits-fixed_digits, number_of-fixed_digits, digits_reading-lt, fixed_digits-number_of}

-- a text of digits and a last character reads as what they read as
pub reading-parts : (xs : List ℕ) (e w tens digit : ℕ) (negative : Bool) → length xs + 1 ≡ w → digits_reading xs ≡ Ok tens → ending_reading e ≡ Ok (negative, digit) → zoned_reading w (xs ++ e ∷ []) ≡ Ok (with_sign negative (10 * tens + digit))
reading-parts xs e w tens digit negative wide front_reads last_reads =
    let d = row_passed (not (all_ascii_digits xs)) NotDigit [] (number_of xs) tens front_reads in
    let t = row_passed (not (is_plus e || is_minus e)) NotSign [] (is_minus e, last_digit e) (negative, digit) last_reads in
    let same = value_told {F = FieldFault} (is_minus e, last_digit e) (negative, digit) t.1 in
    let long : length (xs ++ e ∷ []) ≡ w = rw (length-append xs (e ∷ [])) wide in
    let short : length xs ≡ w - 1 = omega arith in
    let last_is : get_or (xs ++ e ∷ []) (w - 1) 0 ≡ e = rw (← short) (get_or-append_seam xs e [] 0) in
    rw (long, eq-eqb w w refl, take_at xs (e ∷ []) (w - 1) short, d.0, last_is, t.0, value_told {F = FieldFault} (number_of xs) tens d.1, ap (λ p. p.0) same, ap (λ p. p.1) same) refl

-- what a text of that width reads as: a fault of the characters in front, one of the last character, or a value
pub reading-front : (text : List ℕ) (w : ℕ) (fault : FieldFault) → length text ≡ w → digits_reading (take (w - 1) text) ≡ Err fault → zoned_reading w text ≡ Err fault
reading-front text w fault wide front =
    let xs = take (w - 1) text in
    let d = only_row_told (not (all_ascii_digits xs)) NotDigit (number_of xs) fault front in
    rw (wide, eq-eqb w w refl, d.0) (ap (λ (f : FieldFault). Err f) d.1)

pub reading-last : (text : List ℕ) (w tens : ℕ) (fault : FieldFault) → length text ≡ w → digits_reading (take (w - 1) text) ≡ Ok tens → ending_reading (get_or text (w - 1) 0) ≡ Err fault → zoned_reading w text ≡ Err fault
reading-last text w tens fault wide front last =
    let xs = take (w - 1) text in
    let e = get_or text (w - 1) 0 in
    let d = row_passed (not (all_ascii_digits xs)) NotDigit [] (number_of xs) tens front in
    let t = only_row_told (not (is_plus e || is_minus e)) NotSign (is_minus e, last_digit e) fault last in
    rw (wide, eq-eqb w w refl, d.0, t.0) (ap (λ (f : FieldFault). Err f) t.1)

pub reading-ok : (text : List ℕ) (w tens digit : ℕ) (negative : Bool) → length text ≡ w → digits_reading (take (w - 1) text) ≡ Ok tens → ending_reading (get_or text (w - 1) 0) ≡ Ok (negative, digit) → zoned_reading w text ≡ Ok (with_sign negative (10 * tens + digit))
reading-ok text w tens digit negative wide front last =
    let xs = take (w - 1) text in
    let e = get_or text (w - 1) 0 in
    let d = row_passed (not (all_ascii_digits xs)) NotDigit [] (number_of xs) tens front in
    let t = row_passed (not (is_plus e || is_minus e)) NotSign [] (is_minus e, last_digit e) (negative, digit) last in
    let same = value_told {F = FieldFault} (is_minus e, last_digit e) (negative, digit) t.1 in
    rw (wide, eq-eqb w w refl, d.0, t.0, value_told {F = FieldFault} (number_of xs) tens d.1, ap (λ p. p.0) same, ap (λ p. p.1) same) refl

pub last_digit-lt : (c : ℕ) → last_digit c < 10
last_digit-lt c = grind (arith, common_steps)

pub ending-digit-lt : (c digit : ℕ) (negative : Bool) → ending_reading c ≡ Ok (negative, digit) → digit < 10
ending-digit-lt c digit negative h =
    let e = row_passed (not (is_plus c || is_minus c)) NotSign [] (is_minus c, last_digit c) (negative, digit) h in
    let same = ap (λ p. p.1) (value_told {F = FieldFault} (is_minus c, last_digit c) (negative, digit) e.1) in
    let P : ℕ → Type 0 = λ n. n < 10 in
    subst P same (last_digit-lt c)

minus-ending : (digit : ℕ) → digit < 10 → is_minus (ending true digit) ≡ true
minus-ending digit lt = grind (arith, common_steps)

minus-digit : (digit : ℕ) → digit < 10 → last_digit (ending true digit) ≡ digit
minus-digit digit lt = grind (arith, common_steps)

plus-ending : (digit : ℕ) → digit < 10 → is_plus (ending false digit) ≡ true
plus-ending digit lt = grind (arith, common_steps)

plus-no_minus : (digit : ℕ) → digit < 10 → is_minus (ending false digit) ≡ false
plus-no_minus digit lt = grind (arith, common_steps)

plus-digit : (digit : ℕ) → digit < 10 → last_digit (ending false digit) ≡ digit
plus-digit digit lt = grind (arith, common_steps)

-- the last character that is written reads back
pub ending_reading-ending : (negative : Bool) (digit : ℕ) → digit < 10 → ending_reading (ending negative digit) ≡ Ok (negative, digit)
ending_reading-ending true digit lt =
    rw (minus-ending digit lt, or-true (is_plus (ending true digit)), minus-digit digit lt) refl
ending_reading-ending false digit lt =
    rw (plus-ending digit lt, plus-no_minus digit lt, plus-digit digit lt) refl

pub with_sign-parts : (v : ℤ) → with_sign (is_negative v) (10 * (unsigned_abs v / 10) + unsigned_abs v % 10) ≡ v
with_sign-parts (pos zero) = refl
with_sign-parts (pos (suc n)) =
    let whole : 10 * (suc n / 10) + suc n % 10 ≡ suc n = omega arith in
    rw (whole, le-ltb (suc n) 0 (omega arith)) refl
with_sign-parts (negsuc n) =
    let whole : 10 * (suc n / 10) + suc n % 10 ≡ suc n = omega arith in rw whole refl

tens-lt : (w m : ℕ) → m < 10 ^ suc w → m / 10 < 10 ^ w
tens-lt w m lt = grind arith

-- the text that is written for a value reads back to it
pub reading-spelling : (w : ℕ) (v : ℤ) → 1 ≤ w → unsigned_abs v < 10 ^ w → zoned_reading w (spelling w v) ≡ Ok v
reading-spelling zero v some small = absurd (omega arith)
reading-spelling (suc w) v some small =
    let m = unsigned_abs v in
    let front_reads : digits_reading (fixed_digits w (m / 10)) ≡ Ok (m / 10) =
    rw (digits-fixed_digits w (m / 10), number_of-fixed_digits w (m / 10) (tens-lt w m small)) refl in
    let last_reads = ending_reading-ending (is_negative v) (m % 10) (omega arith) in
    let before : suc w - 1 ≡ w = omega arith in
    rw before (reading-parts (fixed_digits w (m / 10)) (ending (is_negative v) (m % 10)) (suc w) (m / 10) (m % 10) (is_negative v) (rw (length-fixed_digits w (m / 10)) (omega arith)) front_reads last_reads ∙ ap Ok (with_sign-parts v))

-- a text of digits whose last is written anew
pub set-fixed_digits : (w n e : ℕ) → 1 ≤ w → set (fixed_digits w n) (w - 1) e ≡ fixed_digits (w - 1) (n / 10) ++ e ∷ []
set-fixed_digits zero n e some = absurd (omega arith)
set-fixed_digits (suc w) n e some =
    let before : suc w - 1 ≡ w = omega arith in
    let at_end : length (fixed_digits w (n / 10)) ≡ w = length-fixed_digits w (n / 10) in
    let P : ℕ → Type 0 = λ k. set (fixed_digits w (n / 10) ++ (48 + n % 10) ∷ []) k e ≡ fixed_digits w (n / 10) ++ e ∷ [] in
    rw before (subst P at_end (set-append_seam (fixed_digits w (n / 10)) (48 + n % 10) [] e))

-- what is read from digits and an ending has at most their places
pub size-lt : (w : ℕ) (xs : List ℕ) (tens c digit : ℕ) (negative : Bool) → 1 ≤ w → length xs ≡ w - 1 → digits_reading xs ≡ Ok tens → ending_reading c ≡ Ok (negative, digit) → tens * 10 + digit < 10 ^ w
size-lt zero xs tens c digit negative some wide front_reads last_reads = absurd (omega arith)
size-lt (suc w) xs tens c digit negative some wide front_reads last_reads =
    let before : suc w - 1 ≡ w = omega arith in
    let t = digits_reading-lt xs w tens (omega arith) front_reads in
    let d = ending-digit-lt c digit negative last_reads in
    let more = pow-suc 10 w in
    omega (arith, t, d, more)

-- a number in the places of a `i64` that it fits
pub stored : (z : ℤ) → unsigned_abs z < 10 ^ 18 → to_z w64 (of_z w64 z) ≡ z
stored z small = to_z-of_z w64 z (fits_signed_from_abs w64 z (omega (arith, small)))

ending-last_digit : (c : ℕ) → is_ascii_digit c ≡ false → not (is_plus c || is_minus c) ≡ false → ending (is_minus c) (last_digit c) ≡ c
ending-last_digit c bare sign = grind (arith, common_steps)

pub unsigned_abs-with_sign : (negative : Bool) (size : ℕ) → unsigned_abs (with_sign negative size) ≡ size
unsigned_abs-with_sign false size = refl
unsigned_abs-with_sign true zero = refl
unsigned_abs-with_sign true (suc size) = refl

-- a spelling ends in its last digit and sign
last_character-spelling : (w : ℕ) (v : ℤ) → 1 ≤ w → last_character (spelling w v) ≡ ending (is_negative v) (unsigned_abs v % 10)
last_character-spelling w v some =
    let e = ending (is_negative v) (unsigned_abs v % 10) in
    let xs = fixed_digits (w - 1) (unsigned_abs v / 10) in
    let before : length (xs ++ e ∷ []) - 1 ≡ length xs = rw (length-append xs (e ∷ [])) (omega arith) in
    rw before (get_or-append_seam xs e [] 0)

ending-no_digit : (negative : Bool) (digit : ℕ) → digit < 10 → is_ascii_digit (ending negative digit) ≡ false
ending-no_digit true digit lt = grind (arith, common_steps)
ending-no_digit false digit lt = grind (arith, common_steps)

is_minus-ending : (negative : Bool) (digit : ℕ) → digit < 10 → is_minus (ending negative digit) ≡ negative
is_minus-ending true digit lt = minus-ending digit lt
is_minus-ending false digit lt = plus-no_minus digit lt

-- a spelling is the text that is written
pub spelling-only : (w : ℕ) (v : ℤ) (text : List ℕ) → 1 ≤ w → IsSpelling w v text → text ≡ spelling w v
spelling-only w v text some s =
    let a = row_passed (not (length text == w)) Width ((not (all_ascii_digits (all_but_last text)), NotDigit) ∷ (not (is_plus (last_character text) || is_minus (last_character text)), NotSign) ∷ []) (zoned_value text) v s.reads in
    let b = row_passed (not (all_ascii_digits (all_but_last text))) NotDigit ((not (is_plus (last_character text) || is_minus (last_character text)), NotSign) ∷ []) (zoned_value text) v a.1 in
    let d = row_passed (not (is_plus (last_character text) || is_minus (last_character text))) NotSign [] (zoned_value text) v b.1 in
    let value : zoned_value text ≡ v = value_told {F = FieldFault} (zoned_value text) v d.1 in
    let wide : length text ≡ w = eqb-true (length text) w (not-false (length text == w) a.0) in
    let m = number_of (all_but_last text) in
    let e = last_digit (last_character text) in
    let small = last_digit-lt (last_character text) in
    let size : unsigned_abs v ≡ 10 * m + e = ap unsigned_abs (sym value) ∙ unsigned_abs-with_sign (is_minus (last_character text)) (10 * m + e) in
    let tens : unsigned_abs v / 10 ≡ m = omega (arith, size, small) in
    let ones : unsigned_abs v % 10 ≡ e = omega (arith, size, small) in
    let front_wide : length (all_but_last text) ≡ w - 1 = rw (length-take-le (length text - 1) text (omega arith)) (omega (arith, wide)) in
    let front_is : fixed_digits (w - 1) m ≡ all_but_last text = fixed_digits-number_of (w - 1) (all_but_last text) front_wide (not-false (all_ascii_digits (all_but_last text)) b.0) in
    let last_is : ending (is_minus (last_character text)) e ≡ last_character text = ending-last_digit (last_character text) s.no_digit d.0 in
    let split : all_but_last text ++ last_character text ∷ [] ≡ text = sym (take_more text (length text - 1) 0 (omega arith)) ∙ take_all (length text - 1 + 1) text (omega arith) in
    sym (rw (tens, ones, ← s.sign, front_is, last_is) split)

-- the text that is written is a spelling
pub IsSpelling-spelling : (w : ℕ) (v : ℤ) → 1 ≤ w → unsigned_abs v < 10 ^ w → IsSpelling w v (spelling w v)
IsSpelling-spelling w v some small =
    let at_end : last_character (spelling w v) ≡ ending (is_negative v) (unsigned_abs v % 10) = last_character-spelling w v some in
    let digit : unsigned_abs v % 10 < 10 = omega arith in
    record {
      reads = reading-spelling w v some small;
      no_digit = rw at_end (ending-no_digit (is_negative v) (unsigned_abs v % 10) digit);
      sign = rw at_end (is_minus-ending (is_negative v) (unsigned_abs v % 10) digit);
    }
