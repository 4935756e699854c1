-- The length of a body, a digit at a time.
use Rattle.std.proofs.Common.{◌≡◌, ℕ, ◌+◌, ◌<◌, true, List, length, take, get_or, sym, ap, ◌∙◌, arith, min, ◌*◌, ◌-◌}
use Rattle.std.specs.Char.{is_ascii_digit, digit_value}
use Rattle.std.specs.List.{list_all}
use Rattle.std.specs.Str.Parse.{digits_value}
use Rattle.std.proofs.lemmas.Int.Digits.{digits_value_more}
use Rattle.std.proofs.lemmas.List.Folds.{list_all_more}
use Rattle.std.proofs.lemmas.Str.{digit_value_digit}
use Rattle.std.proofs.lemmas.Str.Parse.{digit_from_value}

-- a number that stops growing past the limit
pub capped : (n v d : ℕ) → n ≡ min v 4194305 → min (n * 10 + d) 4194305 ≡ min (v * 10 + d) 4194305
capped n v d e = omega arith

pub measured_step : (text : List ℕ) (i n r : ℕ) → i < length text → n ≡ min (digits_value 10 (take i text)) 4194305 → digit_value (get_or text i 0) < 10
    → r ≡ min (n * 10 + (get_or text i 0 - 48)) 4194305 → r ≡ min (digits_value 10 (take (i + 1) text)) 4194305
measured_step text i n r h e d is =
    let digit : digit_value (get_or text i 0) + 48 ≡ get_or text i 0 = digit_value_digit _ (digit_from_value _ d) in
    let same : get_or text i 0 - 48 ≡ digit_value (get_or text i 0) = omega arith in
    is ∙ ap (λ (k : ℕ). min (n * 10 + k) 4194305) same ∙ capped n _ (digit_value (get_or text i 0)) e ∙ ap (λ (k : ℕ). min k 4194305) (sym (digits_value_more 10 text i h))

pub digits_step : (text : List ℕ) (i : ℕ) → i < length text → list_all is_ascii_digit (take i text) ≡ true → is_ascii_digit (get_or text i 0) ≡ true → list_all is_ascii_digit (take (i + 1) text) ≡ true
digits_step text i h e d = rw (list_all_more is_ascii_digit text i 0 h, e) d
