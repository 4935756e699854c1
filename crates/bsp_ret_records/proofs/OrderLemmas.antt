-- Documents are in order as the numbers that their digits write.
use Rattle.std.proofs.Common.{◌≡◌, ℕ, ◌+◌, ◌*◌, ◌^◌, ◌<◌, Bool, true, List, [], ◌∷◌, ◌++◌, length, take, drop, refl, ap, ◌∙◌, arith, inl, inr, eqb-true, length-take, length-drop}
use native.Mathlib.Nat.{pow-succ'}
use Rattle.std.specs.Prelude.{◌==◌, ◌&&◌, not, nat_lt}
use Rattle.std.specs.Char.{digit_value}
use Rattle.std.specs.Str.{all_ascii_digits}
use Rattle.std.specs.Str.Parse.{digits_value_after}
use Rattle.std.proofs.lemmas.Bool.{cases_Bool, and_parts, ltb-true, ltb-false, lt-ltb, eq-eqb, or_left, or_right, and_from}
use Rattle.bsp_fields.specs.Decimal.{number_of}
use Rattle.bsp_fields.specs.declared.fault.FieldFault.{FieldFault}
use Rattle.bsp_fields.specs.declared.fault.FieldFault.TheVariants.{Width, NotDigit}
use Rattle.bsp_fields.proofs.DecimalLemmas.{number_of-lt}
use Rattle.bsp_fields.proofs.FirstFaultLemmas.{row_passed, value_told}
use Rattle.bsp_fields.specs.Columns.{columns}
use Rattle.bsp_ret_records.specs.declared.transactions.ReportedDocument.{ReportedDocument}
use Rattle.bsp_ret_records.specs.Records.{related_document, order_of}
use Rattle.bsp_ret_records.specs.Values.{IsDocument, is_before}

-- ---- digits behind others

after_joined : (n : ℕ) (xs ys : List ℕ) → digits_value_after 10 n (xs ++ ys) ≡ digits_value_after 10 (digits_value_after 10 n xs) ys
after_joined n [] ys = refl
after_joined n (x ∷ xs) ys = after_joined (n * 10 + digit_value x) xs ys

after_number : (n : ℕ) (ys : List ℕ) → digits_value_after 10 n ys ≡ n * 10 ^ length ys + digits_value_after 10 0 ys
after_number n [] = omega arith
after_number n (y ∷ ys) =
    omega (arith, ap (λ x. n * x) (pow-succ' 10 (length ys)), after_number (n * 10 + digit_value y) ys, after_number (0 * 10 + digit_value y) ys)

number_joined : (xs ys : List ℕ) → number_of (xs ++ ys) ≡ number_of xs * 10 ^ length ys + number_of ys
number_joined xs ys = after_joined 0 xs ys ∙ after_number (number_of xs) ys

-- ---- documents

-- thirteen characters are three, and ten behind them
thirteen : (text : List ℕ) → take 13 text ≡ take 3 text ++ take 10 (drop 3 text)
thirteen [] = refl
thirteen (a ∷ []) = refl
thirteen (a ∷ b ∷ []) = refl
thirteen (a ∷ b ∷ d ∷ text) = refl

airline_is : (text : List ℕ) (d : ReportedDocument) → IsDocument text d → number_of (take 3 text) ≡ d.airline
airline_is text d is =
    let airline = columns 1 3 text in
    let rows : List (Bool × FieldFault) = (not (all_ascii_digits airline), NotDigit) ∷ [] in
    let a = row_passed (not (length airline == 3)) Width rows (number_of airline) d.airline is.airline in
    let b = row_passed (not (all_ascii_digits airline)) NotDigit [] (number_of airline) d.airline a.1 in
    value_told {F = FieldFault} (number_of airline) d.airline b.1

order_is : (text : List ℕ) (d : ReportedDocument) → IsDocument text d → length d.number ≡ 10 → order_of text ≡ d.airline * 10 ^ 10 + number_of d.number
order_is text d is ten =
    ap number_of (thirteen text) ∙ number_joined (take 3 text) (take 10 (drop 3 text))
    ∙ rw (← is.number, airline_is text d is, ten) refl

-- what is known of a document's number
pub record HasNumber (d : ReportedDocument) : Type 0 where
  pub ten : length d.number ≡ 10
  pub digits : all_ascii_digits d.number ≡ true

below : (d : ReportedDocument) → HasNumber d → number_of d.number < 10 ^ 10
below d has = number_of-lt d.number 10 has.digits (omega (arith, has.ten))

pub order_rises : (text other : List ℕ) (d e : ReportedDocument) → IsDocument text d → IsDocument other e → HasNumber d → HasNumber e → is_before d e ≡ true → order_of text < order_of other
order_rises text other d e is other_is has other_has before =
    let a = order_is text d is has.ten in
    let b = order_is other e other_is other_has.ten in
    elim (cases_Bool (nat_lt d.airline e.airline)) [
      | inl airline ↦ omega (arith, a, b, ltb-true d.airline e.airline airline, below d has, below e other_has)
      | inr airline ↦ (let parts = and_parts (d.airline == e.airline) (nat_lt (number_of d.number) (number_of e.number)) (rw airline at before) in
          omega (arith, a, b, eqb-true d.airline e.airline parts.0, ltb-true (number_of d.number) (number_of e.number) parts.1, below d has, below e other_has))
    ]

pub before_from : (text other : List ℕ) (d e : ReportedDocument) → IsDocument text d → IsDocument other e → HasNumber d → HasNumber e → order_of text < order_of other → is_before d e ≡ true
before_from text other d e is other_is has other_has rises =
    let a = order_is text d is has.ten in
    let b = order_is other e other_is other_has.ten in
    let lower = nat_lt d.airline e.airline in
    let same = (d.airline == e.airline) && nat_lt (number_of d.number) (number_of e.number) in
    elim (cases_Bool lower) [
      | inl airline ↦ or_left lower same airline
      | inr airline ↦ (let not_lower = ltb-false d.airline e.airline airline in
          let equal : d.airline ≡ e.airline = omega (arith, a, b, not_lower, rises, below d has, below e other_has) in
          let number : number_of d.number < number_of e.number = omega (arith, a, b, equal, rises) in
          or_right lower same (and_from _ _ (eq-eqb d.airline e.airline equal) (lt-ltb (number_of d.number) (number_of e.number) number)))
    ]

-- the number in a record 3
pub number_width : (line : List ℕ) → length line ≡ 136 → length (columns 4 13 (related_document line)) ≡ 10
number_width line wide =
    rw (length-take 10 (drop 3 (related_document line)), length-drop 3 (related_document line), length-take 14 (drop 7 line), length-drop 7 line, wide) refl
