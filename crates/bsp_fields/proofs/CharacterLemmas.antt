-- Lemmas on the characters of fields.
use Rattle.std.proofs.Common.{◌≡◌, ℕ, zero, suc, ◌+◌, ◌-◌, ◌/◌, ◌%◌, ◌<◌, ◌≤◌, ◌&&◌, Bool, true, false, List, [], ◌∷◌, ◌++◌, length, take, drop, replicate, refl, sym, ◌∙◌, ap, arith, ℤ}
use Rattle.std.specs.Prelude.{unsigned_abs}
use Rattle.std.specs.Int.{is_negative}
use Rattle.std.specs.List.{concat, list_all}
use Rattle.std.specs.Char.{is_ascii_digit}
use Rattle.std.specs.Str.{all_ascii_digits}
use Rattle.std.proofs.lemmas.Grind.{common_steps}
use Rattle.std.proofs.lemmas.List.{length_push, take-append-drop, drop-drop}
use Rattle.std.proofs.lemmas.List.Folds.{list_all-append}
use Rattle.std.proofs.lemmas.Bool.{and_parts}
use Rattle.bsp_fields.specs.Decimal.{fixed_digits}
use Rattle.bsp_fields.specs.Zoned.{ending, spelling}
use Rattle.bsp_fields.proofs.DecimalLemmas.{length-fixed_digits, digits-fixed_digits}
use Rattle.bsp_fields.specs.Columns.{is_letter_or_digit, is_printable}

-- a test that another one entails
pub list_all-weaker : (p q : ℕ → Bool) → ((c : ℕ) → p c ≡ true → q c ≡ true) → (text : List ℕ) → list_all p text ≡ true → list_all q text ≡ true
list_all-weaker p q weaker [] all = refl
list_all-weaker p q weaker (c ∷ text) all =
    let parts = and_parts (p c) (list_all p text) all in
    rw (weaker c parts.0, list_all-weaker p q weaker text parts.1) refl

pub list_all-take : (p : ℕ → Bool) (n : ℕ) (text : List ℕ) → list_all p text ≡ true → list_all p (take n text) ≡ true
list_all-take p zero text all = refl
list_all-take p (suc n) [] all = refl
list_all-take p (suc n) (c ∷ text) all =
    let parts = and_parts (p c) (list_all p text) all in rw (parts.0, list_all-take p n text parts.1) refl

pub list_all-drop : (p : ℕ → Bool) (n : ℕ) (text : List ℕ) → list_all p text ≡ true → list_all p (drop n text) ≡ true
list_all-drop p zero text all = all
list_all-drop p (suc n) [] all = refl
list_all-drop p (suc n) (c ∷ text) all = list_all-drop p n text ((and_parts (p c) (list_all p text) all).1)

-- a text in two parts that meet or overlap
pub list_all-parts : (p : ℕ → Bool) (from to : ℕ) (text : List ℕ) → from ≤ to → list_all p (take to text) ≡ true → list_all p (drop from text) ≡ true → list_all p text ≡ true
list_all-parts p from to text meet front back =
    let count : from + (to - from) ≡ to = omega arith in
    let behind : list_all p (drop to text) ≡ true =
    ap (λ k. list_all p (drop k text)) (sym count) ∙ ap (list_all p) (sym (drop-drop (to - from) from text)) ∙ list_all-drop p (to - from) (drop from text) back in
    ap (list_all p) (sym (take-append-drop to text)) ∙ list_all-append p (take to text) (drop to text) ∙ rw (front, behind) refl

pub list_all-replicate : (p : ℕ → Bool) (n c : ℕ) → p c ≡ true → list_all p (replicate n c) ≡ true
list_all-replicate p zero c one = refl
list_all-replicate p (suc n) c one = rw (one, list_all-replicate p n c one) refl

-- digits, tested one by one
pub digits_are : (text : List ℕ) → all_ascii_digits text ≡ list_all is_ascii_digit text
digits_are [] = refl
digits_are (c ∷ text) = ap (λ b. is_ascii_digit c && b) (digits_are text)

digit_printable : (c : ℕ) → is_ascii_digit c ≡ true → is_printable c ≡ true
digit_printable c h = grind (arith, common_steps)

letter_or_digit_printable : (c : ℕ) → is_letter_or_digit c ≡ true → is_printable c ≡ true
letter_or_digit_printable c h = grind (arith, common_steps)

ending_printable : (negative : Bool) (digit : ℕ) → digit < 10 → is_printable (ending negative digit) ≡ true
ending_printable true digit small = grind (arith, common_steps)
ending_printable false digit small = grind (arith, common_steps)

pub printable-digits : (text : List ℕ) → all_ascii_digits text ≡ true → list_all is_printable text ≡ true
printable-digits text all =
    list_all-weaker is_ascii_digit is_printable digit_printable text (rw (← digits_are text) all)

pub printable-letters : (text : List ℕ) → list_all is_letter_or_digit text ≡ true → list_all is_printable text ≡ true
printable-letters text all = list_all-weaker is_letter_or_digit is_printable letter_or_digit_printable text all

pub length-spelling : (width : ℕ) (value : ℤ) → 1 ≤ width → length (spelling width value) ≡ width
length-spelling width value some =
    length_push (fixed_digits (width - 1) (unsigned_abs value / 10)) (ending (is_negative value) (unsigned_abs value % 10))
    ∙ rw (length-fixed_digits (width - 1) (unsigned_abs value / 10)) (omega arith)

pub printable-spelling : (width : ℕ) (value : ℤ) → list_all is_printable (spelling width value) ≡ true
printable-spelling width value =
    let front = fixed_digits (width - 1) (unsigned_abs value / 10) in
    let digit : unsigned_abs value % 10 < 10 = omega arith in
    rw (
      list_all-append is_printable front (ending (is_negative value) (unsigned_abs value % 10) ∷ []),
      printable-digits front (digits-fixed_digits (width - 1) (unsigned_abs value / 10)),
      ending_printable (is_negative value) (unsigned_abs value % 10) digit,
    ) refl

-- digits in each field
pub digits-concat : (fields : List (List ℕ)) → list_all all_ascii_digits fields ≡ true → all_ascii_digits (concat fields) ≡ true
digits-concat [] all = refl
digits-concat (field ∷ fields) all =
    let parts = and_parts (all_ascii_digits field) (list_all all_ascii_digits fields) all in
    rw (
      digits_are (field ++ concat fields),
      list_all-append is_ascii_digit field (concat fields),
      ← digits_are field,
      ← digits_are (concat fields),
      parts.0,
      digits-concat fields parts.1,
    ) refl
