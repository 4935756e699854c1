-- Lemmas on decimal digits.
use Rattle.std.proofs.Common.{◌≡◌, ℕ, zero, suc, ◌+◌, ◌-◌, ◌*◌, ◌/◌, ◌%◌, ◌^◌, ◌<◌, ◌≤◌, true, false, ◌&&◌, List, [], ◌∷◌, ◌++◌, length, take, drop, set, get_or, refl, sym, ap, ◌∙◌, arith, length-append, append_assoc, add-one}
use Rattle.std.proofs.lemmas.Grind.{common_steps}
use Rattle.std.proofs.lemmas.List.{take_more, drop-set, take_all, length-take-le}
use Rattle.std.proofs.lemmas.List.Recursion.{and_push, and_fails_at}
use Rattle.std.proofs.lemmas.Int.Digits.{digits_value_push, digits_value_more}
use Rattle.std.proofs.lemmas.Str.Parse.{IsNumeralModel, numerals_by_value, tells_all_ascii_digits, digits_value_short}
use Rattle.std.specs.Char.{is_ascii_digit, digit_value}
use Rattle.std.specs.Str.{all_ascii_digits}
use Rattle.std.specs.Str.Parse.{digits_value}
use Rattle.bsp_fields.specs.Decimal.{number_of, fixed_digits, digits_reading}
use Rattle.std.proofs.Common.{not, Ok, Err, subst}
use Rattle.std.specs.Prelude.{Result, IfOk}
use Rattle.std.proofs.lemmas.Bool.{not-false, and_parts}
use Rattle.bsp_fields.specs.declared.fault.FieldFault.{FieldFault}
use Rattle.bsp_fields.specs.declared.fault.FieldFault.TheVariants.{NotDigit}
use Rattle.bsp_fields.proofs.FirstFaultLemmas.{row_passed, value_told}

own : IsNumeralModel (λ ds. all_ascii_digits ds ≡ true) (digits_value 10)
own = numerals_by_value (λ ds. all_ascii_digits ds ≡ true) tells_all_ascii_digits

-- a text and one more character
pub digits-push : (xs : List ℕ) (y : ℕ) → all_ascii_digits (xs ++ y ∷ []) ≡ (all_ascii_digits xs && is_ascii_digit y)
digits-push xs y = and_push all_ascii_digits is_ascii_digit refl (λ _ _. refl) xs y

-- one more character of a text, where it is a digit
pub digits-take_more : (xs : List ℕ) (i : ℕ) → i < length xs → all_ascii_digits (take i xs) ≡ true → is_ascii_digit (get_or xs i 0) ≡ true → all_ascii_digits (take (i + 1) xs) ≡ true
digits-take_more xs i lt all one = rw (take_more xs i 0 lt, digits-push (take i xs) (get_or xs i 0), all, one) refl

-- a character that is no digit
pub digits-fail : (xs : List ℕ) (i : ℕ) → i < length xs → is_ascii_digit (get_or xs i 0) ≡ false → all_ascii_digits xs ≡ false
digits-fail xs i lt none = and_fails_at all_ascii_digits is_ascii_digit refl (λ _ _. refl) xs i 0 lt none

pub digit_value-ascii : (c : ℕ) → is_ascii_digit c ≡ true → digit_value c ≡ c - 48
digit_value-ascii c h = grind (arith, common_steps)

-- the number of one more digit
pub number_of-take_more : (xs : List ℕ) (i : ℕ) → i < length xs → is_ascii_digit (get_or xs i 0) ≡ true → number_of (take (i + 1) xs) ≡ number_of (take i xs) * 10 + (get_or xs i 0 - 48)
number_of-take_more xs i lt one = digits_value_more 10 xs i lt ∙ ap (λ d. number_of (take i xs) * 10 + d) (digit_value-ascii (get_or xs i 0) one)

pub number_of-lt : (ds : List ℕ) (k : ℕ) → all_ascii_digits ds ≡ true → length ds ≤ k → number_of ds < 10 ^ k
number_of-lt ds k all short = digits_value_short own ds k all short

pub length-fixed_digits : (w n : ℕ) → length (fixed_digits w n) ≡ w
length-fixed_digits zero n = refl
length-fixed_digits (suc w) n = rw (length-append (fixed_digits w (n / 10)) ((48 + n % 10) ∷ []), length-fixed_digits w (n / 10)) (omega arith)

pub digit-char : (n : ℕ) → is_ascii_digit (48 + n % 10) ≡ true
digit-char n = grind (arith, common_steps)

pub digits-fixed_digits : (w n : ℕ) → all_ascii_digits (fixed_digits w n) ≡ true
digits-fixed_digits zero n = refl
digits-fixed_digits (suc w) n = rw (digits-push (fixed_digits w (n / 10)) (48 + n % 10), digits-fixed_digits w (n / 10), digit-char n) refl

digit-value : (n : ℕ) → digit_value (48 + n % 10) ≡ n % 10
digit-value n = digit_value-ascii (48 + n % 10) (digit-char n) ∙ omega arith

-- one more digit at the end
pub number_of-fixed_digits_more : (w n : ℕ) → number_of (fixed_digits (suc w) n) ≡ number_of (fixed_digits w (n / 10)) * 10 + n % 10
number_of-fixed_digits_more w n = digits_value_push 10 (fixed_digits w (n / 10)) (48 + n % 10) ∙ ap (λ d. number_of (fixed_digits w (n / 10)) * 10 + d) (digit-value n)

pub number_of-fixed_digits : (w n : ℕ) → n < 10 ^ w → number_of (fixed_digits w n) ≡ n
number_of-fixed_digits zero n lt = omega arith
number_of-fixed_digits (suc w) n lt =
    let shorter : n / 10 < 10 ^ w = grind arith in
    rw (digits_value_push 10 (fixed_digits w (n / 10)) (48 + n % 10), number_of-fixed_digits w (n / 10) shorter, digit-value n) (omega arith)

-- one more digit in front of those that are written
pub fixed_digits-step : (w p n : ℕ) (text : List ℕ) → suc w ≡ p → w < length text → fixed_digits p n ++ drop p text ≡ fixed_digits w (n / 10) ++ drop w (set text w (48 + n % 10))
fixed_digits-step w p n text is lt =
    rw (← is, drop-set text w (48 + n % 10) lt, add-one w) (append_assoc (fixed_digits w (n / 10)) ((48 + n % 10) ∷ []) (drop (suc w) text))

-- what a text of at most k digits reads as is below 10 ^ k
pub digits_reading-lt : (ds : List ℕ) (k n : ℕ) → length ds ≤ k → digits_reading ds ≡ Ok n → n < 10 ^ k
digits_reading-lt ds k n short h =
    let d = row_passed (not (all_ascii_digits ds)) NotDigit [] (number_of ds) n h in
    let P : ℕ → Type 0 = λ m. m < 10 ^ k in
    subst P (value_told {F = FieldFault} (number_of ds) n d.1) (number_of-lt ds k (not-false (all_ascii_digits ds) d.0) short)

pub digits_reading-bound : (ds : List ℕ) (k : ℕ) (r : Result ℕ FieldFault) → r ≡ digits_reading ds → length ds ≤ k → IfOk r (λ n. n < 10 ^ k)
digits_reading-bound ds k (Ok n) is short = digits_reading-lt ds k n short (sym is)
digits_reading-bound ds k (Err e) is short = tt

digit-bounds : (c : ℕ) → is_ascii_digit c ≡ true → (48 ≤ c) × (c ≤ 57)
digit-bounds c h = (grind (arith, common_steps), grind (arith, common_steps))

-- digits are what is written, in their width, for their number
pub fixed_digits-number_of : (w : ℕ) (ds : List ℕ) → length ds ≡ w → all_ascii_digits ds ≡ true → fixed_digits w (number_of ds) ≡ ds
fixed_digits-number_of zero [] wide all = refl
fixed_digits-number_of zero (d ∷ ds) wide all = absurd (omega (arith, wide))
fixed_digits-number_of (suc w) ds wide all =
    let at : w < length ds = omega (arith, wide) in
    let cut : take (w + 1) ds ≡ ds = take_all (w + 1) ds (omega (arith, wide)) in
    let c = get_or ds w 0 in
    let split : take w ds ++ c ∷ [] ≡ ds = sym (take_more ds w 0 at) ∙ cut in
    let both : (all_ascii_digits (take w ds) && is_ascii_digit c) ≡ true = sym (digits-push (take w ds) c) ∙ ap all_ascii_digits split ∙ all in
    let parts = and_parts (all_ascii_digits (take w ds)) (is_ascii_digit c) both in
    let number : number_of ds ≡ number_of (take w ds) * 10 + (c - 48) = ap number_of (sym cut) ∙ number_of-take_more ds w at parts.1 in
    let bounds = digit-bounds c parts.1 in
    let tens : number_of ds / 10 ≡ number_of (take w ds) = omega (arith, number, bounds.0, bounds.1) in
    let ones : 48 + number_of ds % 10 ≡ c = omega (arith, number, bounds.0, bounds.1) in
    rw (tens, ones) (ap (λ xs. xs ++ c ∷ []) (fixed_digits-number_of w (take w ds) (length-take-le w ds (omega (arith, wide))) parts.0) ∙ split)

-- what was read is written with the same digits
pub digits_reading-spelled : (ds : List ℕ) (w : ℕ) (r : Result ℕ FieldFault) → r ≡ digits_reading ds → length ds ≡ w → IfOk r (λ n. fixed_digits w n ≡ ds)
digits_reading-spelled ds w (Ok n) is wide =
    let d = row_passed (not (all_ascii_digits ds)) NotDigit [] (number_of ds) n (sym is) in
    sym (ap (fixed_digits w) (value_told {F = FieldFault} (number_of ds) n d.1)) ∙ fixed_digits-number_of w ds wide (not-false (all_ascii_digits ds) d.0)
digits_reading-spelled ds w (Err e) is wide = tt
