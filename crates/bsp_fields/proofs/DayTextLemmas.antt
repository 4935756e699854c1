-- Lemmas on the texts of days.
use Rattle.std.proofs.Common.{◌≡◌, ℕ, ◌+◌, ◌%◌, ◌/◌, ◌<◌, ◌≤◌, ◌&&◌, not, true, false, Ok, Err, List, [], ◌∷◌, ◌++◌, length, take, drop, refl, sym, ap, ◌∙◌, arith, pos, ◌^◌, subst, length-drop}
use Rattle.std.specs.Prelude.{IsTrue, Result, IfOk, ◌==◌, slice_index}
use Rattle.std.specs.Str.{all_ascii_digits}
use Rattle.std.proofs.lemmas.Bool.{and_parts, eqb-true, not-false}
use Rattle.std.proofs.lemmas.List.{take-append-drop, drop-drop, take_all, length-take-le}
use Rattle.std.proofs.Math.Seq.{drop-cons}
use Rattle.bsp_fields.specs.Decimal.{number_of, fixed_digits}
use Rattle.bsp_fields.specs.CivilDay.{CivilDay, is_day}
use Rattle.bsp_fields.specs.Days.{checked_day, parts_reading, record_year, record_month, record_day, record_text, record_reading, text_year, text_month, text_day, has_dashes, day_text, text_reading}
use Rattle.bsp_fields.specs.declared.fault.FieldFault.{FieldFault}
use Rattle.bsp_fields.specs.declared.fault.FieldFault.TheVariants.{Width, NotDigit, NotDay}
use Rattle.bsp_fields.proofs.FirstFaultLemmas.{row_passed, value_told, only_row_told}
use Rattle.bsp_fields.proofs.DecimalLemmas.{digits-fixed_digits, number_of-fixed_digits, number_of-fixed_digits_more, fixed_digits-number_of}
use Rattle.bsp_fields.proofs.DayLemmas.{day_facts, days_at_most}

-- the digits of a day's parts, where they were read
pub record PartsAre (xs ys zs : List ℕ) (a b c : ℕ) : Type 0 where
  pub digits : not (all_ascii_digits xs && (all_ascii_digits ys && all_ascii_digits zs)) ≡ false
  pub year : number_of xs ≡ a
  pub month : number_of ys ≡ b
  pub day : number_of zs ≡ c

pub parts_are : (xs ys zs : List ℕ) (a b c : ℕ) → parts_reading xs ys zs ≡ Ok (a, b, c) → PartsAre xs ys zs a b c
parts_are xs ys zs a b c h =
    let d = row_passed (not (all_ascii_digits xs && (all_ascii_digits ys && all_ascii_digits zs))) NotDigit [] (number_of xs, number_of ys, number_of zs) (a, b, c) h in
    let same = value_told {F = FieldFault} (number_of xs, number_of ys, number_of zs) (a, b, c) d.1 in
    record { digits = d.0; year = ap (λ p. p.0) same; month = ap (λ p. p.1) same; day = ap (λ p. p.2) same }

-- parts of digits read as their numbers
parts_read : (xs ys zs : List ℕ) (a b c : ℕ) → all_ascii_digits xs ≡ true → all_ascii_digits ys ≡ true → all_ascii_digits zs ≡ true → number_of xs ≡ a → number_of ys ≡ b → number_of zs ≡ c → parts_reading xs ys zs ≡ Ok (a, b, c)
parts_read xs ys zs a b c dx dy dz nx ny nz = rw (dx, dy, dz, nx, ny, nz) refl

pub record_ok : (text : List ℕ) (a b c : ℕ) → length text ≡ 6 → parts_reading (record_year text) (record_month text) (record_day text) ≡ Ok (a, b, c) → record_reading text ≡ checked_day (record { year = 2000 + a; month = b; day = c })
record_ok text a b c wide h =
    let p = parts_are (record_year text) (record_month text) (record_day text) a b c h in
    rw (wide, p.digits, p.year, p.month, p.day) refl

pub record_err : (text : List ℕ) (e : FieldFault) → length text ≡ 6 → parts_reading (record_year text) (record_month text) (record_day text) ≡ Err e → record_reading text ≡ Err e
record_err text e wide h =
    let f = only_row_told (not (all_ascii_digits (record_year text) && (all_ascii_digits (record_month text) && all_ascii_digits (record_day text)))) NotDigit (number_of (record_year text), number_of (record_month text), number_of (record_day text)) e h in
    rw (wide, f.0) (ap Err f.1)

pub text_ok : (text : List ℕ) (a b c : ℕ) → length text ≡ 10 → has_dashes text ≡ true → parts_reading (text_year text) (text_month text) (text_day text) ≡ Ok (a, b, c) → text_reading text ≡ checked_day (record { year = a; month = b; day = c })
text_ok text a b c wide dashes h =
    let p = parts_are (text_year text) (text_month text) (text_day text) a b c h in
    rw (wide, p.digits, dashes, p.year, p.month, p.day) refl

pub text_no_dash : (text : List ℕ) (a b c : ℕ) → length text ≡ 10 → has_dashes text ≡ false → parts_reading (text_year text) (text_month text) (text_day text) ≡ Ok (a, b, c) → text_reading text ≡ Err NotDay
text_no_dash text a b c wide dashes h =
    let p = parts_are (text_year text) (text_month text) (text_day text) a b c h in
    rw (wide, p.digits, dashes) refl

pub text_err : (text : List ℕ) (e : FieldFault) → length text ≡ 10 → parts_reading (text_year text) (text_month text) (text_day text) ≡ Err e → text_reading text ≡ Err e
text_err text e wide h =
    let f = only_row_told (not (all_ascii_digits (text_year text) && (all_ascii_digits (text_month text) && all_ascii_digits (text_day text)))) NotDigit (number_of (text_year text), number_of (text_month text), number_of (text_day text)) e h in
    rw (wide, f.0) (ap Err f.1)

two_digits : (n : ℕ) → number_of (fixed_digits 2 n) ≡ n % 100
two_digits n = rw (number_of-fixed_digits_more 1 n, number_of-fixed_digits_more 0 (n / 10)) (omega arith)

checked : (d : CivilDay) → IsTrue (is_day d) → checked_day d ≡ Ok d
checked d h = rw h refl

pub record_reading-text : (d : CivilDay) → IsTrue (is_day d) → record_reading (record_text d) ≡ Ok d
record_reading-text d h =
    let f = day_facts d h in
    let month_fits : d.month < 10 ^ 2 = omega (arith, f.month_to) in
    let day_fits : d.day < 10 ^ 2 = omega (arith, days_at_most (pos d.year) d.month d.day f.day_to) in
    let century : d.year ≡ 2000 + d.year % 100 = omega (arith, f.from, f.to) in
    let P : ℕ → Type 0 = λ y. checked_day (record { year = y; month = d.month; day = d.day }) ≡ Ok d in
    record_ok (record_text d) (d.year % 100) d.month d.day refl
    (parts_read (fixed_digits 2 d.year) (fixed_digits 2 d.month) (fixed_digits 2 d.day) (d.year % 100) d.month d.day
    (digits-fixed_digits 2 d.year) (digits-fixed_digits 2 d.month) (digits-fixed_digits 2 d.day)
    (two_digits d.year) (number_of-fixed_digits 2 d.month month_fits) (number_of-fixed_digits 2 d.day day_fits))
    ∙ subst P century (checked d h)

pub text_reading-text : (d : CivilDay) → IsTrue (is_day d) → text_reading (day_text d) ≡ Ok d
text_reading-text d h =
    let f = day_facts d h in
    let year_fits : d.year < 10 ^ 4 = omega (arith, f.to) in
    let month_fits : d.month < 10 ^ 2 = omega (arith, f.month_to) in
    let day_fits : d.day < 10 ^ 2 = omega (arith, days_at_most (pos d.year) d.month d.day f.day_to) in
    text_ok (day_text d) d.year d.month d.day refl refl
    (parts_read (fixed_digits 4 d.year) (fixed_digits 2 d.month) (fixed_digits 2 d.day) d.year d.month d.day
    (digits-fixed_digits 4 d.year) (digits-fixed_digits 2 d.month) (digits-fixed_digits 2 d.day)
    (number_of-fixed_digits 4 d.year year_fits) (number_of-fixed_digits 2 d.month month_fits) (number_of-fixed_digits 2 d.day day_fits))
    ∙ checked d h

-- a text, from its parts
parts-six : (text : List ℕ) → length text ≡ 6 → record_year text ++ (record_month text ++ record_day text) ≡ text
parts-six text wide =
    let rest : drop 2 (drop 2 text) ≡ drop 4 text = drop-drop 2 2 text in
    let ends : take 2 (drop 4 text) ≡ drop 4 text = take_all 2 (drop 4 text) (omega (arith, length-drop 4 text, wide)) in
    rw (ends, ← rest, take-append-drop 2 (drop 2 text)) (take-append-drop 2 text)

parts-ten : (text : List ℕ) → length text ≡ 10 → slice_index text 4 ≡ 45 → slice_index text 7 ≡ 45 → text_year text ++ 45 ∷ (text_month text ++ 45 ∷ text_day text) ≡ text
parts-ten text wide first second =
    let ends : take 2 (drop 8 text) ≡ drop 8 text = take_all 2 (drop 8 text) (omega (arith, length-drop 8 text, wide)) in
    let after7 : 45 ∷ drop 8 text ≡ drop 7 text = sym (drop-cons text 7 0 (omega (arith, wide)) ∙ ap (λ c. c ∷ drop 8 text) second) in
    let after5 : take 2 (drop 5 text) ++ drop 7 text ≡ drop 5 text = ap (λ xs. take 2 (drop 5 text) ++ xs) (sym (drop-drop 2 5 text)) ∙ take-append-drop 2 (drop 5 text) in
    let after4 : 45 ∷ drop 5 text ≡ drop 4 text = sym (drop-cons text 4 0 (omega (arith, wide)) ∙ ap (λ c. c ∷ drop 5 text) first) in
    rw (ends, after7, after5, after4) (take-append-drop 4 text)

-- two digits do not see the century
without_century : (n : ℕ) → fixed_digits 2 (2000 + n) ≡ fixed_digits 2 n
without_century n =
    let tens : (2000 + n) / 10 % 10 ≡ n / 10 % 10 = omega arith in
    let ones : (2000 + n) % 10 ≡ n % 10 = omega arith in
    rw (tens, ones) refl

-- digits in the middle of a text are what is written for their number
middle_spelled : (i w : ℕ) (text : List ℕ) → i + w ≤ length text → all_ascii_digits (take w (drop i text)) ≡ true → fixed_digits w (number_of (take w (drop i text))) ≡ take w (drop i text)
middle_spelled i w text inside digits =
    fixed_digits-number_of w (take w (drop i text)) (length-take-le w (drop i text) (omega (arith, length-drop i text, inside))) digits

start_spelled : (w : ℕ) (text : List ℕ) → w ≤ length text → all_ascii_digits (take w text) ≡ true → fixed_digits w (number_of (take w text)) ≡ take w text
start_spelled w text inside digits = fixed_digits-number_of w (take w text) (length-take-le w text inside) digits

joined : (a b c p q r between : List ℕ) → a ≡ p → b ≡ q → c ≡ r → a ++ (between ++ (b ++ (between ++ c))) ≡ p ++ (between ++ (q ++ (between ++ r)))
joined a b c p q r between first second third = rw (first, second, third) refl

-- what reads as a day is that day's text
record_spelled : (text : List ℕ) (d : CivilDay) → record_reading text ≡ Ok d → record_text d ≡ text
record_spelled text d h =
    let ys = record_year text in
    let ms = record_month text in
    let ds = record_day text in
    let v : CivilDay = record { year = 2000 + number_of ys; month = number_of ms; day = number_of ds } in
    let digits = all_ascii_digits ys && (all_ascii_digits ms && all_ascii_digits ds) in
    let a = row_passed (not (length text == 6)) Width ((not digits, NotDigit) ∷ (not (is_day v), NotDay) ∷ []) v d h in
    let b = row_passed (not digits) NotDigit ((not (is_day v), NotDay) ∷ []) v d a.1 in
    let e = row_passed (not (is_day v)) NotDay [] v d b.1 in
    let wide : length text ≡ 6 = eqb-true (length text) 6 (not-false (length text == 6) a.0) in
    let all = and_parts (all_ascii_digits ys) (all_ascii_digits ms && all_ascii_digits ds) (not-false digits b.0) in
    let late = and_parts (all_ascii_digits ms) (all_ascii_digits ds) all.1 in
    let IsText : CivilDay → Type 0 = λ x. record_text x ≡ text in
    subst IsText (value_told {F = FieldFault} v d e.1)
    (joined (fixed_digits 2 (2000 + number_of ys)) (fixed_digits 2 (number_of ms)) (fixed_digits 2 (number_of ds)) ys ms ds []
    (without_century (number_of ys) ∙ start_spelled 2 text (omega (arith, wide)) all.0)
    (middle_spelled 2 2 text (omega (arith, wide)) late.0)
    (middle_spelled 4 2 text (omega (arith, wide)) late.1)
    ∙ parts-six text wide)

text_spelled : (text : List ℕ) (d : CivilDay) → text_reading text ≡ Ok d → day_text d ≡ text
text_spelled text d h =
    let ys = text_year text in
    let ms = text_month text in
    let ds = text_day text in
    let v : CivilDay = record { year = number_of ys; month = number_of ms; day = number_of ds } in
    let digits = all_ascii_digits ys && (all_ascii_digits ms && all_ascii_digits ds) in
    let a = row_passed (not (length text == 10)) Width ((not digits, NotDigit) ∷ (not (has_dashes text && is_day v), NotDay) ∷ []) v d h in
    let b = row_passed (not digits) NotDigit ((not (has_dashes text && is_day v), NotDay) ∷ []) v d a.1 in
    let e = row_passed (not (has_dashes text && is_day v)) NotDay [] v d b.1 in
    let wide : length text ≡ 10 = eqb-true (length text) 10 (not-false (length text == 10) a.0) in
    let all = and_parts (all_ascii_digits ys) (all_ascii_digits ms && all_ascii_digits ds) (not-false digits b.0) in
    let late = and_parts (all_ascii_digits ms) (all_ascii_digits ds) all.1 in
    let dashes = and_parts (slice_index text 4 == 45) (slice_index text 7 == 45) (and_parts (has_dashes text) (is_day v) (not-false (has_dashes text && is_day v) e.0)).0 in
    let IsText : CivilDay → Type 0 = λ x. day_text x ≡ text in
    subst IsText (value_told {F = FieldFault} v d e.1)
    (joined (fixed_digits 4 (number_of ys)) (fixed_digits 2 (number_of ms)) (fixed_digits 2 (number_of ds)) ys ms ds (45 ∷ [])
    (start_spelled 4 text (omega (arith, wide)) all.0)
    (middle_spelled 5 2 text (omega (arith, wide)) late.0)
    (middle_spelled 8 2 text (omega (arith, wide)) late.1)
    ∙ parts-ten text wide (eqb-true (slice_index text 4) 45 dashes.0) (eqb-true (slice_index text 7) 45 dashes.1))

-- the same of what a reader answers
pub record_reading-spelled : (text : List ℕ) (r : Result CivilDay FieldFault) → r ≡ record_reading text → IfOk r (λ d. record_text d ≡ text)
record_reading-spelled text (Ok d) is = record_spelled text d (sym is)
record_reading-spelled text (Err e) is = tt

pub text_reading-spelled : (text : List ℕ) (r : Result CivilDay FieldFault) → r ≡ text_reading text → IfOk r (λ d. day_text d ≡ text)
text_reading-spelled text (Ok d) is = text_spelled text d (sym is)
text_reading-spelled text (Err e) is = tt
