-- Lemmas on records 8 that are written.
use Rattle.std.proofs.Common.{◌≡◌, ℕ, ◌<◌, ◌≤◌, ◌^◌, true, List, [], ◌∷◌, length, map, refl, sym, arith, ℤ, Some}
use Rattle.std.specs.Prelude.{codes, unsigned_abs}
use Rattle.std.specs.List.{concat, list_all}
use Rattle.bsp_fields.specs.Decimal.{fixed_digits}
use Rattle.bsp_fields.specs.Zoned.{spelling}
use Rattle.bsp_fields.proofs.DecimalLemmas.{length-fixed_digits, digits-fixed_digits}
use Rattle.bsp_ret_records.specs.declared.codes.FormOfPayment.{FormOfPayment}
use Rattle.bsp_ret_records.specs.declared.codes.FormOfPayment.TheVariants.{Cash, Credit, Exchange}
use Rattle.bsp_fields.specs.Columns.{columns, identifier, is_wide, is_printable, is_space, is_letter_or_digit}
use Rattle.bsp_fields.specs.Fields.{is_amount}
use Rattle.bsp_ret_records.specs.Records.{transaction_number, payment_amount, vendor as vendor_of, vendor_fits, form_of, form_fits}
use Rattle.bsp_ret.specs.Ret.{IsForm}
use Rattle.bsp_ret_records.specs.Values.{IsPayment}
use Rattle.bsp_ret_writer.specs.Writing.{form_line, spaces}
use Rattle.bsp_fields.proofs.FieldLemmas.{field_at, wide_fields}
use Rattle.bsp_fields.proofs.TextLemmas.{spells-digits, is_amount-spelling, amount_reads}
use Rattle.bsp_fields.proofs.CharacterLemmas.{printable-digits, printable-letters, printable-spelling, length-spelling, list_all-replicate}

-- the columns of a record 8
pub record FormColumns (line number form amount vendor rest : List ℕ) : Type 0 where
  pub wide : is_wide line ≡ true
  pub name : identifier line ≡ 56
  pub number_at : transaction_number line ≡ number
  pub form_at : columns 8 9 line ≡ form
  pub amount_at : payment_amount line ≡ amount
  pub vendor_at : vendor_of line ≡ vendor
  pub rest_at : columns 23 136 line ≡ rest

widths_are : (name number form amount vendor rest : List ℕ) → length name ≡ 1 → length number ≡ 6 → length form ≡ 2 → length amount ≡ 11 → length vendor ≡ 2 → length rest ≡ 114 → map length (name ∷ number ∷ form ∷ amount ∷ vendor ∷ rest ∷ []) ≡ 1 ∷ 6 ∷ 2 ∷ 11 ∷ 2 ∷ 114 ∷ []
widths_are name number form amount vendor rest a b d e f g = rw (a, b, d, e, f, g) refl

printable_are : (number form amount vendor rest : List ℕ) → list_all is_printable number ≡ true → list_all is_printable form ≡ true → list_all is_printable amount ≡ true → list_all is_printable vendor ≡ true → list_all is_printable rest ≡ true → list_all (list_all is_printable) (codes "8" ∷ number ∷ form ∷ amount ∷ vendor ∷ rest ∷ []) ≡ true
printable_are number form amount vendor rest a b d e f = rw (a, b, d, e, f) refl

form_columns : (number form amount vendor rest : List ℕ) → map length (codes "8" ∷ number ∷ form ∷ amount ∷ vendor ∷ rest ∷ []) ≡ 1 ∷ 6 ∷ 2 ∷ 11 ∷ 2 ∷ 114 ∷ [] → list_all (list_all is_printable) (codes "8" ∷ number ∷ form ∷ amount ∷ vendor ∷ rest ∷ []) ≡ true → FormColumns (concat (codes "8" ∷ number ∷ form ∷ amount ∷ vendor ∷ rest ∷ [])) number form amount vendor rest
form_columns number form amount vendor rest wide printable =
    let widths : List ℕ = 1 ∷ 6 ∷ 2 ∷ 11 ∷ 2 ∷ 114 ∷ [] in
    let fields : List (List ℕ) = codes "8" ∷ number ∷ form ∷ amount ∷ vendor ∷ rest ∷ [] in
    record {
      wide = wide_fields widths fields wide refl printable;
      name = refl;
      number_at = field_at 1 widths fields wide;
      form_at = field_at 2 widths fields wide;
      amount_at = field_at 3 widths fields wide;
      vendor_at = field_at 4 widths fields wide;
      rest_at = field_at 5 widths fields wide;
    }

-- what a form's field and its vendor have to be
pub record FormFields (kind : FormOfPayment) (form vendor : List ℕ) : Type 0 where
  pub form_length : length form ≡ 2
  pub form_printable : list_all is_printable form ≡ true
  pub form_is : (line : List ℕ) → columns 8 9 line ≡ form → form_of line ≡ Some kind
  pub vendor_length : length vendor ≡ 2
  pub vendor_printable : list_all is_printable vendor ≡ true
  pub vendor_is : vendor_fits (Some kind) vendor ≡ true

-- the columns of a record 8 that is written
pub form_line-columns : (n : ℕ) (kind : FormOfPayment) (form : List ℕ) (amount : ℤ) (vendor : List ℕ) → FormFields kind form vendor → FormColumns (form_line n form amount vendor) (fixed_digits 6 n) form (spelling 11 amount) vendor (spaces 114)
unfolding form_line
form_line-columns n kind form amount vendor fields =
    form_columns (fixed_digits 6 n) form (spelling 11 amount) vendor (spaces 114)
    (widths_are (codes "8") (fixed_digits 6 n) form (spelling 11 amount) vendor (spaces 114) refl (length-fixed_digits 6 n) fields.form_length (length-spelling 11 amount (omega arith)) fields.vendor_length refl)
    (printable_are (fixed_digits 6 n) form (spelling 11 amount) vendor (spaces 114) (printable-digits (fixed_digits 6 n) (digits-fixed_digits 6 n)) fields.form_printable (printable-spelling 11 amount) fields.vendor_printable (list_all-replicate is_printable 114 32 refl))

form_fits-columns : (line number form amount vendor rest : List ℕ) (kind : FormOfPayment) → FormColumns line number form amount vendor rest → form_of line ≡ Some kind → vendor_fits (Some kind) vendor ≡ true → is_amount amount ≡ true → list_all is_space rest ≡ true → form_fits line ≡ true
unfolding form_fits
form_fits-columns line number form amount vendor rest kind c is card amount_is blank =
    rw (is, c.vendor_at, card, c.amount_at, amount_is, c.rest_at, blank) refl

-- a record 8 that is written is one
pub form_line-stands : (n : ℕ) (kind : FormOfPayment) (form : List ℕ) (amount : ℤ) (vendor : List ℕ) → FormFields kind form vendor → n < 10 ^ 6 → unsigned_abs amount ≤ 99_999_999_999 → IsForm n kind (form_line n form amount vendor)
form_line-stands n kind form amount vendor fields few small =
    let line = form_line n form amount vendor in
    let c = form_line-columns n kind form amount vendor fields in
    let is : form_of line ≡ Some kind = fields.form_is line c.form_at in
    record {
      stands = record {
        wide = c.wide;
        name = c.name;
        number = rw c.number_at (spells-digits 6 n few);
        fields = form_fits-columns line (fixed_digits 6 n) form (spelling 11 amount) vendor (spaces 114) kind c is fields.vendor_is (is_amount-spelling amount small) (list_all-replicate is_space 114 32 refl);
      };
      form = is;
    }

-- the amount of a record 8 that is written reads back
pub form_line-reads : (n : ℕ) (kind : FormOfPayment) (form : List ℕ) (amount : ℤ) (vendor : List ℕ) → FormFields kind form vendor → unsigned_abs amount ≤ 99_999_999_999 → IsPayment (form_line n form amount vendor) amount
form_line-reads n kind form amount vendor fields small =
    rw ((form_line-columns n kind form amount vendor fields).amount_at) (amount_reads amount small)

pub form_line-vendor : (n : ℕ) (kind : FormOfPayment) (form : List ℕ) (amount : ℤ) (vendor : List ℕ) → FormFields kind form vendor → vendor ≡ vendor_of (form_line n form amount vendor)
form_line-vendor n kind form amount vendor fields = sym ((form_line-columns n kind form amount vendor fields).vendor_at)

-- ---- the three forms

is_cash : (line : List ℕ) → columns 8 9 line ≡ codes "CA" → form_of line ≡ Some Cash
unfolding form_of
is_cash line h = rw h refl

is_credit : (line : List ℕ) → columns 8 9 line ≡ codes "CC" → form_of line ≡ Some Credit
unfolding form_of
is_credit line h = rw h refl

is_exchange : (line : List ℕ) → columns 8 9 line ≡ codes "EX" → form_of line ≡ Some Exchange
unfolding form_of
is_exchange line h = rw h refl

pub cash_fields : FormFields Cash (codes "CA") (spaces 2)
cash_fields = record {
  form_length = refl;
  form_printable = refl;
  form_is = is_cash;
  vendor_length = refl;
  vendor_printable = refl;
  vendor_is = refl;
}

pub credit_fields : (vendor : List ℕ) → length vendor ≡ 2 → list_all is_letter_or_digit vendor ≡ true → FormFields Credit (codes "CC") vendor
credit_fields vendor wide letters = record {
  form_length = refl;
  form_printable = refl;
  form_is = is_credit;
  vendor_length = wide;
  vendor_printable = printable-letters vendor letters;
  vendor_is = letters;
}

pub exchange_fields : FormFields Exchange (codes "EX") (spaces 2)
exchange_fields = record {
  form_length = refl;
  form_printable = refl;
  form_is = is_exchange;
  vendor_length = refl;
  vendor_printable = refl;
  vendor_is = refl;
}
