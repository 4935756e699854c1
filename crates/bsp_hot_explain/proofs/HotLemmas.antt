-- The fields of HOT records are in their forms exactly where the records' tests hold.
use Rattle.std.proofs.Common.{◌≡◌, ℕ, ◌+◌, ◌≤◌, Bool, true, false, ◌&&◌, List, ◌++◌, refl, sym, ap, ◌∙◌, inl, inr, arith, is_some}
use Rattle.std.specs.Prelude.{codes}
use Rattle.std.specs.List.{list_all}
use Rattle.std.specs.Str.{bytes_eq, all_ascii_digits}
use Rattle.std.proofs.Math.Bool.{and_assoc, and-true}
use Rattle.std.proofs.lemmas.Bool.{cases_Bool}
use Rattle.bsp_fields.specs.Columns.{columns, is_letter, is_space}
use Rattle.bsp_fields.specs.Fields.{spells_at_most, is_amount, is_total, is_record_day}
use Rattle.bsp_hot_records.specs.declared.form.FileForm.{FileForm}
use Rattle.bsp_hot_records.specs.declared.form.FileForm.TheVariants.{One, Two}
use Rattle.bsp_hot_records.specs.declared.name.RecordName.{RecordName}
use Rattle.bsp_hot_records.specs.declared.name.RecordName.TheVariants.{Bfh01, Bch02, Boh03, Bkt06, Bks24, Bks30, Bks39, Bks42, Bks45, Bkp84, Bot93, Bot94, Bct95, Bft99}
use Rattle.bsp_hot_records.specs.Records.{code_of, file_form_of, form_fits, totals_fit, rest_fits, tax_places_fit, fields_fit}
use Rattle.bsp_explain.specs.declared.form.Form.TheVariants as form
use Rattle.bsp_explain.specs.Fields.{fits, all_fit, is_document_code, is_file_form, is_form_of_payment}
use Rattle.bsp_explain.specs.TaxFields.{tax_fields}
use Rattle.bsp_hot_explain.specs.HotFields.{fare_fields, fields_after_taxes, amounts_fields, card_form, payment_fields, rest_fields, hot_fields}
use Rattle.bsp_explain.proofs.Cutting.{cut}
use Rattle.bsp_explain.proofs.Finding.{all_fit-append}
use Rattle.bsp_explain.proofs.TaxLemmas.{later_taxes}

-- ---- tests in another order of brackets

and-3 : (a b c : Bool) → (a && b && c) ≡ (a && (b && (c && true)))
and-3 a b c = simp (and_assoc, and-true)

and-4 : (a b c d : Bool) → (a && b && c && d) ≡ (a && (b && (c && (d && true))))
and-4 a b c d = simp (and_assoc, and-true)

and-5 : (a b c d e : Bool) → (a && b && c && d && e) ≡ (a && (b && (c && (d && (e && true)))))
and-5 a b c d e = simp (and_assoc, and-true)

and-6 : (a b c d e f : Bool) → (a && b && c && d && e && f) ≡ (a && (b && (c && (d && (e && (f && true))))))
and-6 a b c d e f = simp (and_assoc, and-true)

and-7 : (a b c d e f g : Bool) → (a && b && c && d && e && f && g) ≡ (a && (b && (c && (d && (e && (f && (g && true)))))))
and-7 a b c d e f g = simp (and_assoc, and-true)

hot_taxes : (line : List ℕ) → all_fit line (tax_fields 33 line) ≡ tax_places_fit line
unfolding tax_places_fit
hot_taxes line = later_taxes line

-- ---- parts of records

code_is : (text : List ℕ) → is_some (code_of text) ≡ is_document_code text
unfolding code_of
code_is text =
    elim (cases_Bool (bytes_eq text (codes "TKTT"))) [
      | inl tktt ↦ rw tktt refl
      | inr no_tktt ↦ rw no_tktt (elim (cases_Bool (bytes_eq text (codes "RFND"))) [
        | inl rfnd ↦ rw rfnd refl
        | inr no_rfnd ↦ rw no_rfnd (elim (cases_Bool (bytes_eq text (codes "CANX"))) [
          | inl canx ↦ rw canx refl
          | inr no_canx ↦ rw no_canx (elim (cases_Bool (bytes_eq text (codes "ADMA"))) [
            | inl adma ↦ rw adma refl
            | inr no_adma ↦ rw no_adma (elim (cases_Bool (bytes_eq text (codes "ACMA"))) [
              | inl acma ↦ rw acma refl
              | inr none ↦ rw none refl
            ])
          ])
        ])
      ])
    ]

form_is : (text : List ℕ) → is_some (file_form_of text) ≡ is_file_form text
unfolding file_form_of
form_is text =
    elim (cases_Bool (bytes_eq text (codes "PROD001"))) [
      | inl first ↦ rw first refl
      | inr not_first ↦ rw not_first (elim (cases_Bool (bytes_eq text (codes "PROD002"))) [ inl second ↦ rw second refl | inr neither ↦ rw neither refl ])
    ]

-- what comes after the net
rest_is : (file_form : FileForm) (line : List ℕ) (first : ℕ) → rest_fits file_form first line ≡ all_fit line (rest_fields file_form first)
unfolding all_fit fits rest_fits
rest_is One line first = sym (and-true (list_all is_space (columns first 136 line)))
rest_is Two line first = ap (λ (b : Bool). is_total (columns first (first + 14) line) && b) (sym (and-true (list_all is_space (columns (first + 15) 136 line))))

totals_is : (line : List ℕ) (first : ℕ) → 1 ≤ first → totals_fit (columns first (first + 67) line) ≡ (all_ascii_digits (columns first (first + 7) line) && is_total (columns (first + 8) (first + 22) line) && is_total (columns (first + 23) (first + 37) line) && is_total (columns (first + 38) (first + 52) line) && is_total (columns (first + 53) (first + 67) line))
unfolding totals_fit
totals_is line first one =
    rw (
      cut line first (first + 67) 1 8 first (first + 7) one (omega arith) (omega arith) (omega arith) (omega arith) (omega arith),
      cut line first (first + 67) 9 23 (first + 8) (first + 22) one (omega arith) (omega arith) (omega arith) (omega arith) (omega arith),
      cut line first (first + 67) 24 38 (first + 23) (first + 37) one (omega arith) (omega arith) (omega arith) (omega arith) (omega arith),
      cut line first (first + 67) 39 53 (first + 38) (first + 52) one (omega arith) (omega arith) (omega arith) (omega arith) (omega arith),
      cut line first (first + 67) 54 68 (first + 53) (first + 67) one (omega arith) (omega arith) (omega arith) (omega arith) (omega arith),
    ) refl

totals_after-two : (a b d c r m n s : Bool) → (a && b && (d && c && r && m && n) && s) ≡ (a && (b && (d && (c && (r && (m && (n && s)))))))
totals_after-two a b d c r m n s = simp and_assoc

totals_after-one : (a d c r m n s : Bool) → (a && (d && c && r && m && n) && s) ≡ (a && (d && (c && (r && (m && (n && s))))))
totals_after-one a d c r m n s = simp and_assoc

vendor_is : (payment vendor : List ℕ) → form_fits payment vendor ≡ (is_form_of_payment payment && fits (card_form payment) vendor)
unfolding form_fits fits
vendor_is payment vendor =
    elim (cases_Bool (bytes_eq payment (codes "CC"))) [
      | inl credit ↦ rw credit (elim (cases_Bool (bytes_eq payment (codes "CA"))) [ inl cash ↦ rw cash refl | inr other ↦ rw other refl ])
      | inr neither ↦ rw neither (elim (cases_Bool (bytes_eq payment (codes "CA"))) [ inl cash ↦ rw cash refl | inr other ↦ rw other refl ])
    ]

payment-parts : (n k v a s : Bool) → (n && (k && v) && a && s) ≡ (n && (k && (a && (v && (s && true)))))
payment-parts false k v a s = refl
payment-parts true false v a s = refl
payment-parts true true true true s = sym (and-true s)
payment-parts true true true false s = refl
payment-parts true true false true s = refl
payment-parts true true false false s = refl

-- ---- BKS30

fare_is : (line : List ℕ) (rest : Bool) → (all_fit line fare_fields && rest) ≡ (all_ascii_digits (columns 14 21 line) && (is_amount (columns 22 32 line) && rest))
unfolding all_fit fits
fare_is line rest = simp (and_assoc, and-true)

after_is : (line : List ℕ) → all_fit line fields_after_taxes ≡ list_all is_space (columns 111 136 line)
unfolding all_fit fits
after_is line = and-true (list_all is_space (columns 111 136 line))

amounts_fit : (file_form : FileForm) (line : List ℕ) → fields_fit file_form Bks30 line ≡ (all_ascii_digits (columns 14 21 line) && is_amount (columns 22 32 line) && tax_places_fit line && list_all is_space (columns 111 136 line))
unfolding fields_fit
amounts_fit file_form line = refl

amounts-parts : (a b c d : Bool) → (a && b && c && d) ≡ (a && (b && (c && d)))
amounts-parts a b c d = simp and_assoc

pub amounts_is : (file_form : FileForm) (line : List ℕ) → fields_fit file_form Bks30 line ≡ all_fit line (amounts_fields line)
amounts_is file_form line =
    amounts_fit file_form line
    ∙ amounts-parts (all_ascii_digits (columns 14 21 line)) (is_amount (columns 22 32 line)) (tax_places_fit line) (list_all is_space (columns 111 136 line))
    ∙ sym (all_fit-append line fare_fields (tax_fields 33 line ++ fields_after_taxes)
    ∙ fare_is line (all_fit line (tax_fields 33 line ++ fields_after_taxes))
    ∙ rw (all_fit-append line (tax_fields 33 line) fields_after_taxes, hot_taxes line, after_is line) refl)

-- ---- each record

-- the forms of BKP84 whose tests do not hang on the record
known_forms : (line : List ℕ) (vendor_test : Bool) → (fits form.Digits (columns 14 21 line) && (fits form.FormOfPayment (columns 22 23 line) && (fits form.Amount (columns 24 34 line) && (vendor_test && (fits form.Spaces (columns 37 136 line) && true))))) ≡ (all_ascii_digits (columns 14 21 line) && (is_form_of_payment (columns 22 23 line) && (is_amount (columns 24 34 line) && (vendor_test && (list_all is_space (columns 37 136 line) && true)))))
unfolding fits
known_forms line vendor_test = refl

pub payment_is : (file_form : FileForm) (line : List ℕ) → fields_fit file_form Bkp84 line ≡ all_fit line (payment_fields line)
unfolding all_fit fields_fit
payment_is file_form line =
    rw (vendor_is (columns 22 23 line) (columns 35 36 line)) (payment-parts (all_ascii_digits (columns 14 21 line)) (is_form_of_payment (columns 22 23 line)) (fits (card_form (columns 22 23 line)) (columns 35 36 line)) (is_amount (columns 24 34 line)) (list_all is_space (columns 37 136 line)) ∙ sym (known_forms line (fits (card_form (columns 22 23 line)) (columns 35 36 line))))

pub hot_is : (file_form : FileForm) (name : RecordName) (line : List ℕ) → fields_fit file_form name line ≡ all_fit line (hot_fields file_form name line)
unfolding all_fit fits fields_fit
hot_is file_form Bfh01 line =
    rw (form_is (columns 31 37 line)) (and-6 (all_ascii_digits (columns 14 16 line)) (all_ascii_digits (columns 17 21 line)) (is_record_day (columns 22 27 line)) (list_all is_letter (columns 28 30 line)) (is_file_form (columns 31 37 line)) (list_all is_space (columns 38 136 line)))
hot_is file_form Bch02 line = and-5 (all_ascii_digits (columns 14 18 line)) (is_record_day (columns 19 24 line)) (is_record_day (columns 25 30 line)) (is_record_day (columns 31 36 line)) (list_all is_space (columns 37 136 line))
hot_is file_form Boh03 line = and-4 (all_ascii_digits (columns 14 21 line)) (all_ascii_digits (columns 22 26 line)) (list_all is_letter (columns 27 29 line)) (list_all is_space (columns 30 136 line))
hot_is file_form Bkt06 line = and-3 (all_ascii_digits (columns 14 21 line)) (all_ascii_digits (columns 22 24 line)) (list_all is_space (columns 25 136 line))
hot_is file_form Bks24 line =
    rw (code_is (columns 39 42 line)) (and-7 (all_ascii_digits (columns 14 21 line)) (is_record_day (columns 22 27 line)) (all_ascii_digits (columns 28 37 line)) (all_ascii_digits (columns 38 38 line)) (is_document_code (columns 39 42 line)) (all_ascii_digits (columns 43 50 line)) (list_all is_space (columns 100 136 line)))
hot_is file_form Bks30 line = amounts_is file_form line
hot_is file_form Bks39 line = and-4 (all_ascii_digits (columns 14 21 line)) (spells_at_most 10000 (columns 22 26 line)) (is_amount (columns 27 37 line)) (list_all is_space (columns 38 136 line))
hot_is file_form Bks42 line = and-4 (all_ascii_digits (columns 14 21 line)) (spells_at_most 10000 (columns 22 26 line)) (is_amount (columns 27 37 line)) (list_all is_space (columns 38 136 line))
hot_is file_form Bks45 line = and-5 (all_ascii_digits (columns 14 21 line)) (all_ascii_digits (columns 22 24 line)) (all_ascii_digits (columns 25 34 line)) (all_ascii_digits (columns 35 35 line)) (list_all is_space (columns 36 136 line))
hot_is file_form Bkp84 line = payment_is file_form line
hot_is file_form Bot93 line =
    rw (code_is (columns 22 25 line), totals_is line 26 (omega arith), rest_is file_form line 94) (totals_after-two (all_ascii_digits (columns 14 21 line)) (is_document_code (columns 22 25 line)) (all_ascii_digits (columns 26 33 line)) (is_total (columns 34 48 line)) (is_total (columns 49 63 line)) (is_total (columns 64 78 line)) (is_total (columns 79 93 line)) (all_fit line (rest_fields file_form 94)))
hot_is file_form Bot94 line =
    rw (totals_is line 22 (omega arith), rest_is file_form line 90) (totals_after-one (all_ascii_digits (columns 14 21 line)) (all_ascii_digits (columns 22 29 line)) (is_total (columns 30 44 line)) (is_total (columns 45 59 line)) (is_total (columns 60 74 line)) (is_total (columns 75 89 line)) (all_fit line (rest_fields file_form 90)))
hot_is file_form Bct95 line =
    rw (totals_is line 27 (omega arith), rest_is file_form line 95) (totals_after-two (all_ascii_digits (columns 14 18 line)) (all_ascii_digits (columns 19 26 line)) (all_ascii_digits (columns 27 34 line)) (is_total (columns 35 49 line)) (is_total (columns 50 64 line)) (is_total (columns 65 79 line)) (is_total (columns 80 94 line)) (all_fit line (rest_fields file_form 95)))
hot_is file_form Bft99 line =
    rw (totals_is line 25 (omega arith), rest_is file_form line 93) (totals_after-two (all_ascii_digits (columns 14 16 line)) (all_ascii_digits (columns 17 24 line)) (all_ascii_digits (columns 25 32 line)) (is_total (columns 33 47 line)) (is_total (columns 48 62 line)) (is_total (columns 63 77 line)) (is_total (columns 78 92 line)) (all_fit line (rest_fields file_form 93)))
