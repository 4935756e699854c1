-- Lemmas on the test of record 8.
use Rattle.std.proofs.Common.{◌≡◌, ℕ, false, List, Some, None, refl}
use Rattle.std.specs.Prelude.{◌&&◌}
use Rattle.std.specs.List.{list_all}
use Rattle.std.proofs.lemmas.Bool.{and_right}
use Rattle.bsp_fields.specs.Columns.{columns, is_space}
use Rattle.bsp_fields.specs.Fields.{is_amount}
use Rattle.bsp_ret_records.specs.declared.codes.FormOfPayment.{FormOfPayment}
use Rattle.bsp_ret_records.specs.Records.{form_of, payment_amount, vendor, vendor_fits, form_fits}

-- a record 8 of no known form does not fit
pub no_form : (line : List ℕ) → form_of line ≡ None → form_fits line ≡ false
unfolding form_fits
no_form line none = rw none refl

-- a record 8 with another vendor, or with a character behind its fields
pub other_vendor : (line : List ℕ) (form : FormOfPayment) → form_of line ≡ Some form → vendor_fits (Some form) (vendor line) ≡ false → form_fits line ≡ false
unfolding form_fits
other_vendor line form is other = rw (is, other) refl

pub no_spaces : (line : List ℕ) → list_all is_space (columns 23 136 line) ≡ false → form_fits line ≡ false
unfolding form_fits
no_spaces line other =
    and_right (vendor_fits (form_of line) (vendor line) && is_amount (payment_amount line)) (list_all is_space (columns 23 136 line)) other
