-- Lemmas on single digits.
use Rattle.std.proofs.Common.{◌≡◌, ℕ, zero, suc, ◌<◌, ◌≤◌, ◌+◌, ◌-◌, ◌*◌, ◌^◌, true, List, [], ◌∷◌, length, take, drop, get_or, ap, sym, ◌∙◌, arith, length-drop}
use Rattle.std.specs.Char.{is_ascii_digit}
use Rattle.std.specs.Str.{all_ascii_digits}
use Rattle.std.proofs.lemmas.Grind.{common_steps}
use Rattle.std.proofs.lemmas.Bool.{and_parts}
use Rattle.std.proofs.lemmas.List.{get_or-drop, length-take-le}
use Rattle.bsp_fields.specs.Decimal.{number_of}
use Rattle.bsp_fields.proofs.DecimalLemmas.{number_of-take_more, number_of-lt}
use Rattle.bsp_fields.proofs.CharacterLemmas.{digits_are, list_all-take}

pub digit_at : (text : List ℕ) (i : ℕ) → i < length text → all_ascii_digits text ≡ true → is_ascii_digit (get_or text i 0) ≡ true
digit_at [] i inside all = absurd (omega arith)
digit_at (c ∷ text) zero inside all = (and_parts (is_ascii_digit c) (all_ascii_digits text) all).0
digit_at (c ∷ text) (suc i) inside all =
    digit_at text i (omega arith) ((and_parts (is_ascii_digit c) (all_ascii_digits text) all).1)

pub digit_from : (c : ℕ) → is_ascii_digit c ≡ true → 48 ≤ c
digit_from c digit = grind (arith, common_steps)

-- the number of one digit
pub digit_number : (text : List ℕ) (i : ℕ) → i < length text → all_ascii_digits text ≡ true → number_of (take 1 (drop i text)) ≡ get_or text i 0 - 48
digit_number text i inside all =
    let here : get_or (drop i text) 0 0 ≡ get_or text i 0 = get_or-drop i text 0 0 ∙ ap (λ k. get_or text k 0) (omega arith) in
    let some : 0 < length (drop i text) = rw (length-drop i text) (omega arith) in
    let digit : is_ascii_digit (get_or (drop i text) 0 0) ≡ true = rw here (digit_at text i inside all) in
    number_of-take_more (drop i text) 0 some digit ∙ rw here (omega arith)

pub digits-take : (n : ℕ) (text : List ℕ) → all_ascii_digits text ≡ true → all_ascii_digits (take n text) ≡ true
digits-take n text all = digits_are (take n text) ∙ list_all-take is_ascii_digit n text (sym (digits_are text) ∙ all)

-- the number of one digit more, of at most 19
pub number-below : (text : List ℕ) (i n : ℕ) → length text ≤ 19 → all_ascii_digits text ≡ true → i < length text → n ≡ number_of (take i text) → n * 10 + (get_or text i 0 - 48) < 10 ^ 19
number-below text i n few all inside is =
    let more = number_of-take_more text i inside (digit_at text i inside all) in
    let short : length (take (i + 1) text) ≤ 19 = rw (length-take-le (i + 1) text (omega arith)) (omega arith) in
    let below = number_of-lt (take (i + 1) text) 19 (digits-take (i + 1) text all) short in
    omega (arith, below, more, is)
