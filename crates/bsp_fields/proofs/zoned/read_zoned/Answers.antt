use Rattle.std.proofs.Common.{◌≡◌, ℕ, ℤ, List, ◌+◌, ◌*◌, ◌^◌, ◌<◌, ◌≤◌, Bool, Ok, length, take, get_or, ◌-◌, arith, ap, ◌∙◌, sym}
use Rattle.std.proofs.lemmas.List.{length-take}
use Rattle.std.proofs.lemmas.Result.{err_from_is_err_and}
use Rattle.bsp_fields.specs.Decimal.{digits_reading}
use Rattle.bsp_fields.specs.Zoned.{ending_reading, with_sign}
use Rattle.bsp_fields.proofs.DecimalLemmas.{digits_reading-lt}
use Rattle.bsp_fields.proofs.ZonedLemmas.{ending-digit-lt, reading-front, reading-last, reading-ok, stored}
use Rattle.bsp_fields.proofs.ZonedLemmas as places
use Rattle.bsp_fields.proofs.zoned.read_zoned.Goals as goal

-- a size of at most 18 digits
size-lt : (xs : List ℕ) (tens c digit : ℕ) (negative : Bool) → length xs ≤ 17 → digits_reading xs ≡ Ok tens → ending_reading c ≡ Ok (negative, digit) → tens * 10 + digit < 10 ^ 18
size-lt xs tens c digit negative few front_reads last_reads =
    let t = digits_reading-lt xs 17 tens few front_reads in
    let d = ending-digit-lt c digit negative last_reads in
    omega (arith, t, d)

pub returns-clause-value : goal.returns-clause-value
returns-clause-value g c =
    let few : length (take (g.row.N - 1) c.args.text.now) ≤ 17 = rw (length-take (g.row.N - 1) c.args.text.now) (omega arith) in
    let front = sym c.read_digits.ensures.value ∙ c.in_ok-tens.was in
    let last = sym c.read_ending.ensures ∙ c.in_ok-negative.was in
    let small = size-lt (take (g.row.N - 1) c.args.text.now) c.in_ok-tens.tens (get_or c.args.text.now (g.row.N - 1) 0) c.in_ok-negative.digit c.in_ok-negative.negative few front last in
    let value : c.apply_sign.result ≡ with_sign c.in_ok-negative.negative (10 * c.in_ok-tens.tens + c.in_ok-negative.digit) =
    c.apply_sign.ensures.value ∙ ap (with_sign c.in_ok-negative.negative) (omega arith) in
    ap (λ (units : ℤ). Ok units) (stored c.apply_sign.result (rw c.apply_sign.ensures.size small) ∙ value)
    ∙ sym (reading-ok c.args.text.now g.row.N c.in_ok-tens.tens c.in_ok-negative.digit c.in_ok-negative.negative c.if-text.false front last)

pub returns-in_err-tens-clause-value : goal.returns-in_err-tens-clause-value
returns-in_err-tens-clause-value g c =
    let q = err_from_is_err_and c.from_residual.result c.from_residual.ensures.1 in
    rw (q.1, q.2) (sym (reading-front c.args.text.now g.row.N _ c.if-text.false (sym c.read_digits.ensures.value ∙ c.in_err-tens.was)))

pub returns-in_err-negative-clause-value : goal.returns-in_err-negative-clause-value
returns-in_err-negative-clause-value g c =
    let q = err_from_is_err_and c.from_residual-in_err-negative.result c.from_residual-in_err-negative.ensures.1 in
    let front = sym c.read_digits.ensures.value ∙ c.in_ok-tens.was in
    rw (q.1, q.2) (sym (reading-last c.args.text.now g.row.N _ _ c.if-text.false front (sym c.read_ending.ensures ∙ c.in_err-negative.was)))

pub overflow_mul-tens : goal.overflow_mul-tens
overflow_mul-tens g c =
    let few : length (take (g.row.N - 1) c.args.text.now) ≤ 17 = rw (length-take (g.row.N - 1) c.args.text.now) (omega arith) in
    let small = size-lt (take (g.row.N - 1) c.args.text.now) c.in_ok-tens.tens (get_or c.args.text.now (g.row.N - 1) 0) c.in_ok-negative.digit c.in_ok-negative.negative few (sym c.read_digits.ensures.value ∙ c.in_ok-tens.was) (sym c.read_ending.ensures ∙ c.in_ok-negative.was) in
    omega (arith, small)

pub overflow_add-tens : goal.overflow_add-tens
overflow_add-tens g c =
    let few : length (take (g.row.N - 1) c.args.text.now) ≤ 17 = rw (length-take (g.row.N - 1) c.args.text.now) (omega arith) in
    let small = size-lt (take (g.row.N - 1) c.args.text.now) c.in_ok-tens.tens (get_or c.args.text.now (g.row.N - 1) 0) c.in_ok-negative.digit c.in_ok-negative.negative few (sym c.read_digits.ensures.value ∙ c.in_ok-tens.was) (sym c.read_ending.ensures ∙ c.in_ok-negative.was) in
    omega (arith, small)

pub apply_sign-requires : goal.apply_sign-requires
apply_sign-requires g c =
    let few : length (take (g.row.N - 1) c.args.text.now) ≤ 17 = rw (length-take (g.row.N - 1) c.args.text.now) (omega arith) in
    let small = size-lt (take (g.row.N - 1) c.args.text.now) c.in_ok-tens.tens (get_or c.args.text.now (g.row.N - 1) 0) c.in_ok-negative.digit c.in_ok-negative.negative few (sym c.read_digits.ensures.value ∙ c.in_ok-tens.was) (sym c.read_ending.ensures ∙ c.in_ok-negative.was) in
    omega (arith, small)

pub returns-clause-bound : goal.returns-clause-bound
returns-clause-bound g c =
    let few : length (take (g.row.N - 1) c.args.text.now) ≤ 17 = rw (length-take (g.row.N - 1) c.args.text.now) (omega arith) in
    let wide : length (take (g.row.N - 1) c.args.text.now) ≡ g.row.N - 1 = rw (length-take (g.row.N - 1) c.args.text.now) (omega arith) in
    let under18 = size-lt (take (g.row.N - 1) c.args.text.now) c.in_ok-tens.tens (get_or c.args.text.now (g.row.N - 1) 0) c.in_ok-negative.digit c.in_ok-negative.negative few (sym c.read_digits.ensures.value ∙ c.in_ok-tens.was) (sym c.read_ending.ensures ∙ c.in_ok-negative.was) in
    let under = places.size-lt g.row.N (take (g.row.N - 1) c.args.text.now) c.in_ok-tens.tens (get_or c.args.text.now (g.row.N - 1) 0) c.in_ok-negative.digit c.in_ok-negative.negative c.requires.some wide (sym c.read_digits.ensures.value ∙ c.in_ok-tens.was) (sym c.read_ending.ensures ∙ c.in_ok-negative.was) in
    rw (stored c.apply_sign.result (rw c.apply_sign.ensures.size under18), c.apply_sign.ensures.size) under
