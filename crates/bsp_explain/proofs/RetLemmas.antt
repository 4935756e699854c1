-- The fields of RET records are in their forms exactly where the records' tests hold.
use Rattle.std.proofs.Common.{◌≡◌, ℕ, Bool, true, false, ◌&&◌, List, [], ◌∷◌, ◌++◌, length, refl, sym, ap, ◌∙◌, inl, inr, arith, is_some}
use Rattle.std.specs.Prelude.{◌==◌, ◌||◌, codes}
use Rattle.std.specs.List.{list_all}
use Rattle.std.specs.Str.{bytes_eq, all_ascii_digits}
use Rattle.std.proofs.Math.Bool.{and_assoc, and-true}
use Rattle.std.proofs.lemmas.Bool.{cases_Bool}
use Rattle.bsp_fields.specs.Columns.{columns, identifier, is_letter, is_letter_or_digit, is_space}
use Rattle.bsp_fields.specs.Fields.{spells_at_most, is_amount, is_total, is_record_day}
use Rattle.bsp_ret_records.specs.Records.{profile_of, is_header, is_production, header_fits, code_of, sale_fits, related_fits, amounts_fit, form_of, form_fits, payment_amount, vendor, vendor_fits, trailer_fits}
use Rattle.bsp_explain.specs.declared.form.Form.TheVariants as form
use Rattle.bsp_explain.specs.Fields.{fits, all_fit, is_transaction_code, is_form_of_payment}
use Rattle.bsp_explain.specs.TaxFields.{tax_fields}
use Rattle.bsp_explain.specs.RetFields.{is_whole_header, header_fields, sale_fields, related_fields, fare_fields, commission_fields, amounts_fields, vendor_form, payment_fields, trailer_fields}
use Rattle.bsp_explain.proofs.Cutting.{digits-parts}
use Rattle.bsp_explain.proofs.Finding.{all_fit-append}
use Rattle.bsp_explain.proofs.TaxLemmas.{ret_taxes}

-- ---- tests in another order of brackets

and-10 : (a b c d e f g h i j : Bool) → (a && b && c && (d && e && f && g && h && i && j)) ≡ (a && (b && (c && (d && (e && (f && (g && (h && (i && (j && true))))))))))
and-10 a b c d e f g h i j = simp (and_assoc, and-true)

and-4 : (a b c d : Bool) → (a && b && c && d) ≡ (a && (b && (c && (d && true))))
and-4 a b c d = simp (and_assoc, and-true)

-- ---- record 1

-- a profile is one of the two
profile_is : (line : List ℕ) → is_some (profile_of line) ≡ (bytes_eq (columns 28 30 line) (codes "001") || bytes_eq (columns 28 30 line) (codes "002"))
unfolding profile_of
profile_is line =
    elim (cases_Bool (bytes_eq (columns 28 30 line) (codes "001"))) [
      | inl old ↦ rw old refl
      | inr other ↦ rw other (elim (cases_Bool (bytes_eq (columns 28 30 line) (codes "002"))) [
        | inl new ↦ rw new refl
        | inr none ↦ rw none refl
      ])
    ]

mark_is : (line : List ℕ) → length line ≡ 136 → (identifier line == 49) ≡ bytes_eq (columns 1 1 line) (codes "1")
mark_is [] wide = absurd (omega (arith, wide))
mark_is (c ∷ line) wide = sym (and-true (c == 49))

pub whole_header : (line : List ℕ) → length line ≡ 136 → is_whole_header line ≡ all_fit line header_fields
unfolding all_fit fits is_header is_production header_fits
whole_header line wide = rw (mark_is line wide, profile_is line) (and-10 (bytes_eq (columns 1 1 line) (codes "1")) (bytes_eq (columns 28 30 line) (codes "001") || bytes_eq (columns 28 30 line) (codes "002")) (is_production line) (list_all is_letter_or_digit (columns 2 5 line)) (is_record_day (columns 6 11 line)) (spells_at_most 23 (columns 12 13 line)) (spells_at_most 59 (columns 14 15 line)) (list_all is_letter (columns 16 17 line)) (all_ascii_digits (columns 18 23 line)) (list_all is_space (columns 31 136 line)))

-- ---- record 2

code_is : (line : List ℕ) → is_some (code_of line) ≡ is_transaction_code (columns 8 11 line)
unfolding code_of
code_is line =
    elim (cases_Bool (bytes_eq (columns 8 11 line) (codes "TKTT"))) [
      | inl sale ↦ rw sale refl
      | inr other ↦ rw other (elim (cases_Bool (bytes_eq (columns 8 11 line) (codes "RFND"))) [
        | inl refund ↦ rw refund refl
        | inr neither ↦ rw neither (elim (cases_Bool (bytes_eq (columns 8 11 line) (codes "CANX"))) [
          | inl cancelled ↦ rw cancelled refl
          | inr none ↦ rw none refl
        ])
      ])
    ]

sale-parts : (a b c d e f g : Bool) → (a && (b && (c && (d && e))) && f && g) ≡ (a && (b && (c && (d && (e && (f && (g && true)))))))
sale-parts a b c d e f g = simp (and_assoc, and-true)

pub sale_is : (line : List ℕ) → sale_fits line ≡ all_fit line sale_fields
unfolding all_fit fits sale_fits
sale_is line =
    rw (
      code_is line,
      digits-parts line 12 19 33 (omega arith) (omega arith) (omega arith),
      digits-parts line 20 22 33 (omega arith) (omega arith) (omega arith),
      digits-parts line 23 32 33 (omega arith) (omega arith) (omega arith),
    ) (sale-parts (is_transaction_code (columns 8 11 line)) (all_ascii_digits (columns 12 19 line)) (all_ascii_digits (columns 20 22 line)) (all_ascii_digits (columns 23 32 line)) (all_ascii_digits (columns 33 33 line)) (is_record_day (columns 34 39 line)) (list_all is_space (columns 89 136 line)))

-- ---- record 3

related-parts : (a b c d : Bool) → (a && (b && c) && d) ≡ (a && (b && (c && (d && true))))
related-parts a b c d = simp (and_assoc, and-true)

pub related_is : (line : List ℕ) → related_fits line ≡ all_fit line related_fields
unfolding all_fit fits related_fits
related_is line =
    rw (
      digits-parts line 8 10 21 (omega arith) (omega arith) (omega arith),
      digits-parts line 11 20 21 (omega arith) (omega arith) (omega arith),
    ) (related-parts (all_ascii_digits (columns 8 10 line)) (all_ascii_digits (columns 11 20 line)) (all_ascii_digits (columns 21 21 line)) (list_all is_space (columns 22 136 line)))

-- ---- record 5

fare_is : (line : List ℕ) (rest : Bool) → (all_fit line fare_fields && rest) ≡ (is_amount (columns 8 18 line) && rest)
unfolding all_fit fits
fare_is line rest = simp and-true

amounts-parts : (a b c d e : Bool) → (a && b && c && d && e) ≡ (a && (b && (c && (d && (e && true)))))
amounts-parts a b c d e = simp (and_assoc, and-true)

commission_is : (line : List ℕ) (a b : Bool) → a ≡ is_amount (columns 8 18 line) → b ≡ all_fit line (tax_fields 19 line) → amounts_fit line ≡ (a && (b && all_fit line commission_fields))
unfolding all_fit fits amounts_fit
commission_is line a b fare taxes = rw (← ret_taxes line, ← taxes, ← fare) (amounts-parts a b _ _ _)

pub amounts_is : (line : List ℕ) → amounts_fit line ≡ all_fit line (amounts_fields line)
amounts_is line =
    commission_is line (is_amount (columns 8 18 line)) (all_fit line (tax_fields 19 line)) refl refl
    ∙ sym (all_fit-append line fare_fields (tax_fields 19 line ++ commission_fields)
    ∙ fare_is line (all_fit line (tax_fields 19 line ++ commission_fields))
    ∙ ap (λ b. is_amount (columns 8 18 line) && b) (all_fit-append line (tax_fields 19 line) commission_fields))

-- ---- record 8

vendor_is : (line : List ℕ) → vendor_fits (form_of line) (vendor line) ≡ (is_form_of_payment (columns 8 9 line) && fits (vendor_form (form_of line)) (vendor line))
unfolding form_of fits
vendor_is line =
    elim (cases_Bool (bytes_eq (columns 8 9 line) (codes "CA"))) [
      | inl cash ↦ rw cash refl
      | inr other ↦ rw other (elim (cases_Bool (bytes_eq (columns 8 9 line) (codes "CC"))) [
        | inl credit ↦ rw credit refl
        | inr neither ↦ rw neither (elim (cases_Bool (bytes_eq (columns 8 9 line) (codes "EX"))) [
          | inl exchange ↦ rw exchange refl
          | inr none ↦ rw none refl
        ])
      ])
    ]

payment-parts : (k v a s : Bool) → (k && v && a && s) ≡ (k && (a && (v && (s && true))))
payment-parts false v a s = refl
payment-parts true true true s = sym (and-true s)
payment-parts true true false s = refl
payment-parts true false true s = refl
payment-parts true false false s = refl

-- the forms whose tests do not hang on the record
known_forms : (line : List ℕ) (vendor_test : Bool) → (fits form.FormOfPayment (columns 8 9 line) && (fits form.Amount (columns 10 20 line) && (vendor_test && (fits form.Spaces (columns 23 136 line) && true)))) ≡ (is_form_of_payment (columns 8 9 line) && (is_amount (payment_amount line) && (vendor_test && (list_all is_space (columns 23 136 line) && true))))
unfolding fits
known_forms line vendor_test = refl

pub payment_is : (line : List ℕ) → form_fits line ≡ all_fit line (payment_fields line)
unfolding all_fit form_fits
payment_is line =
    rw (vendor_is line) (payment-parts (is_form_of_payment (columns 8 9 line)) (fits (vendor_form (form_of line)) (vendor line)) (is_amount (payment_amount line)) (list_all is_space (columns 23 136 line)) ∙ sym (known_forms line (fits (vendor_form (form_of line)) (vendor line))))

-- ---- record Z

pub trailer_is : (line : List ℕ) → trailer_fits line ≡ all_fit line trailer_fields
unfolding all_fit fits trailer_fits
trailer_is line = and-4 (all_ascii_digits (columns 2 8 line)) (all_ascii_digits (columns 9 15 line)) (is_total (columns 16 30 line)) (list_all is_space (columns 31 136 line))
