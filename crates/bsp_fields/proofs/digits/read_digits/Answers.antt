use Rattle.std.proofs.Common.{◌≡◌, ◌+◌, ◌-◌, ◌*◌, ◌^◌, ◌<◌, ◌≤◌, ℕ, List, length, take, get_or, true, arith, refl, sym, ◌∙◌}
use Rattle.std.specs.Char.{is_ascii_digit}
use Rattle.std.specs.Str.{all_ascii_digits}
use Rattle.bsp_fields.specs.Decimal.{number_of}
use Rattle.std.proofs.lemmas.List.{take_all, length-take-le}
use Rattle.bsp_fields.proofs.DecimalLemmas.{digits-take_more, digits-fail, number_of-take_more, number_of-lt}
use Rattle.bsp_fields.proofs.digits.read_digits.Goals as goal

pub returns-then-not-is_ascii_digit-clause-value : goal.returns-then-not-is_ascii_digit-clause-value
returns-then-not-is_ascii_digit-clause-value c =
    let none = sym c.is_ascii_digit.ensures.value ∙ c.if-not-is_ascii_digit.true in
    rw (digits-fail c.args.text.now c.loop-digit.digit-index c.loop-digit-test.true none) refl

-- the number after one more digit has at most 19 digits
below : (xs : List ℕ) (i n : ℕ) → length xs ≤ 19 → i < length xs → all_ascii_digits (take i xs) ≡ true → n ≡ number_of (take i xs) → is_ascii_digit (get_or xs i 0) ≡ true → n * 10 + (get_or xs i 0 - 48) < 10 ^ 19
below xs i n few lt all is one =
    let e = number_of-take_more xs i lt one in
    let short : length (take (i + 1) xs) ≤ 19 = rw (length-take-le (i + 1) xs (omega arith)) (omega arith) in
    let b = number_of-lt (take (i + 1) xs) 19 (digits-take_more xs i lt all one) short in
    omega (arith, b, e, is)

pub overflow_mul-number : goal.overflow_mul-number
overflow_mul-number c =
    let b = below c.args.text.now c.loop-digit.digit-index c.loop-digit.number c.requires c.loop-digit-test.true c.loop-digit.invariant.0 c.loop-digit.invariant.1 (sym c.is_ascii_digit.ensures.value ∙ c.if-not-is_ascii_digit.false) in
    omega (arith, b)

pub overflow_add-number : goal.overflow_add-number
overflow_add-number c =
    let b = below c.args.text.now c.loop-digit.digit-index c.loop-digit.number c.requires c.loop-digit-test.true c.loop-digit.invariant.0 c.loop-digit.invariant.1 (sym c.is_ascii_digit.ensures.value ∙ c.if-not-is_ascii_digit.false) in
    omega (arith, b)

pub loop-digit-preserved : goal.loop-digit-preserved
loop-digit-preserved c =
    let one = sym c.is_ascii_digit.ensures.value ∙ c.if-not-is_ascii_digit.false in
    let e = number_of-take_more c.args.text.now c.loop-digit.digit-index c.loop-digit-test.true one in (
      digits-take_more c.args.text.now c.loop-digit.digit-index c.loop-digit-test.true c.loop-digit.invariant.0 one,
      omega (arith, e, c.loop-digit.invariant.1),
    )

pub returns-clause-bound : goal.returns-clause-bound
returns-clause-bound c =
    let whole : take c.loop-digit.digit-index c.args.text.now ≡ c.args.text.now = take_all c.loop-digit.digit-index c.args.text.now c.loop-digit-test.false in
    let all : all_ascii_digits c.args.text.now ≡ true = rw whole at c.loop-digit.invariant.0 in
    let is : c.loop-digit.number ≡ number_of c.args.text.now = rw whole at c.loop-digit.invariant.1 in
    rw is (number_of-lt c.args.text.now 19 all c.requires)

pub returns-clause-value : goal.returns-clause-value
returns-clause-value c =
    let whole : take c.loop-digit.digit-index c.args.text.now ≡ c.args.text.now = take_all c.loop-digit.digit-index c.args.text.now c.loop-digit-test.false in
    let all : all_ascii_digits c.args.text.now ≡ true = rw whole at c.loop-digit.invariant.0 in
    let is : c.loop-digit.number ≡ number_of c.args.text.now = rw whole at c.loop-digit.invariant.1 in
    rw (all, is) refl
