-- Fields by their columns, and when they fit.
use Rattle.std.specs.Prelude.{◌≡◌, ℕ, ◌-◌, ◌≤◌, nat_le, nat_lt, Bool, true, false, not, ◌&&◌, ◌||◌, List, Option, codes}
use Rattle.std.specs.List.{list_all, find}
use Rattle.std.specs.Str.{all_ascii_digits, bytes_eq}
use Rattle.bsp_fields.specs.Columns.{columns, is_letter, is_letter_or_digit, is_space}
use Rattle.bsp_fields.specs.Fields.{spells_at_most, is_amount, is_total, is_record_day}
use Rattle.bsp_fields.specs.Taxes.{tax_code}
use Rattle.bsp_explain.specs.declared.form.Form.{Form}
use Rattle.bsp_explain.specs.declared.form.Form.TheVariants.{HeaderMark, Profile, Production, ProductionProfile, Letters, LettersOrDigits, Digits, AtMost, Day, Amount, Total, TransactionCode, DocumentCode, FormOfPayment, Above, Spaces, Unused}
use Rattle.bsp_explain.specs.declared.name.Name.{Name}
use Rattle.bsp_explain.specs.declared.field.Field.{Field}

abbrev pub is_transaction_code : List ℕ → Bool
is_transaction_code text = bytes_eq text (codes "TKTT") || bytes_eq text (codes "RFND") || bytes_eq text (codes "CANX")

abbrev pub is_document_code : List ℕ → Bool
is_document_code text = is_transaction_code text || bytes_eq text (codes "ADMA") || bytes_eq text (codes "ACMA")

abbrev pub is_file_form : List ℕ → Bool
is_file_form text = bytes_eq text (codes "PROD001") || bytes_eq text (codes "PROD002")

abbrev pub is_form_of_payment : List ℕ → Bool
is_form_of_payment text = bytes_eq text (codes "CA") || bytes_eq text (codes "CC") || bytes_eq text (codes "EX")

-- a text is in the form
unfoldable pub fits : Form → List ℕ → Bool
fits HeaderMark text = bytes_eq text (codes "1")
fits Profile text = bytes_eq text (codes "001") || bytes_eq text (codes "002")
fits Production text = bytes_eq text (codes "PROD")
fits ProductionProfile text = is_file_form text
fits Letters text = list_all is_letter text
fits LettersOrDigits text = list_all is_letter_or_digit text
fits Digits text = all_ascii_digits text
fits (AtMost most) text = spells_at_most most text
fits Day text = is_record_day text
fits Amount text = is_amount text
fits Total text = is_total text
fits TransactionCode text = is_transaction_code text
fits DocumentCode text = is_document_code text
fits FormOfPayment text = is_form_of_payment text
fits (Above before) text = nat_lt before (tax_code text)
fits Spaces text = list_all is_space text
fits Unused text = list_all is_space text

-- the form is one of texts of this width
abbrev pub takes_width : Form → ℕ → Bool
takes_width (AtMost most) width = nat_le width 19
takes_width (Above before) width = nat_le 2 width
takes_width _ width = true

abbrev pub field : ℕ → ℕ → Form → Name → Field
field first last form name = record { first = first; last = last; form = form; name = name }

-- the columns are some of a record's 136
abbrev pub is_inside : Field → Bool
is_inside f =
    nat_le 1 f.first && nat_le f.first f.last && nat_le f.last 136 && takes_width f.form (f.last - (f.first - 1))

-- the field of a record is in its form
abbrev pub field_fits : List ℕ → Field → Bool
field_fits line f = fits f.form (columns f.first f.last line)

-- each of the fields is
unfoldable pub all_fit : List ℕ → List Field → Bool
all_fit line fields = list_all (field_fits line) fields

-- the first that is not
unfoldable pub first_unfit : List ℕ → List Field → Option Field
first_unfit line fields = find (λ f. not (field_fits line f)) fields

-- columns of a record that are not in the field's form
pub record IsAtFault (line : List ℕ) (f : Field) : Type 0 where
  pub from : 1 ≤ f.first
  pub to : f.last ≤ 136
  pub order : f.first ≤ f.last
  pub unfit : field_fits line f ≡ false
