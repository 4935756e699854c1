-- What the tests of records say of the values that their columns have.
use Rattle.std.proofs.Common.{◌≡◌, ℕ, ◌<◌, ◌≤◌, ◌^◌, ◌&&◌, true, false, List, [], ◌∷◌, length, drop, refl, sym, ap, ◌∙◌, subst, arith, Option, None, Some, is_none, length-take}
use Rattle.std.specs.Prelude.{nat_lt}
use Rattle.std.specs.List.{list_all}
use Rattle.std.specs.Char.{is_ascii_digit}
use Rattle.std.specs.Str.{all_ascii_digits}
use Rattle.std.proofs.lemmas.Bool.{and_parts, false_from_ne_true, le-leb}
use Rattle.std.proofs.lemmas.List.{get_or-take}
use Rattle.bsp_fields.specs.Decimal.{number_of}
use Rattle.bsp_fields.proofs.DecimalLemmas.{number_of-lt}
use Rattle.bsp_ret_records.specs.declared.transactions.ReportedDocument.{ReportedDocument}
use Rattle.bsp_ret_records.specs.declared.transactions.Tax.{Tax}
use Rattle.bsp_fields.specs.Columns.{columns, is_letter_or_digit, is_space}
use Rattle.bsp_fields.specs.Fields.{is_amount}
use Rattle.bsp_fields.specs.Taxes.{tax_code, tax_fits, taxes_fit}
use Rattle.bsp_ret_records.specs.Values.{IsDocument, AreTaxes}
use Rattle.bsp_ret_writer.specs.GroupValues.{is_document, are_taxes}
use Rattle.bsp_ret_records.proofs.ReadLemmas.{no_tax, blank_rest, used_rest}
use Rattle.bsp_fields.proofs.CharacterLemmas.{digits_are, list_all-take, list_all-drop}

-- ---- documents

one_column : (text : List ℕ) → length (columns 14 14 text) ≤ 1
one_column text = rw (length-take 1 (drop 13 text)) (omega arith)

-- a document in fourteen digits
pub document_fits : (text : List ℕ) (d : ReportedDocument) → IsDocument text d → all_ascii_digits text ≡ true → is_document d ≡ true
unfolding is_document
document_fits text d is all =
    let digits : list_all is_ascii_digit text ≡ true = sym (digits_are text) ∙ all in
    let number : all_ascii_digits (columns 4 13 text) ≡ true = digits_are (columns 4 13 text) ∙ list_all-take is_ascii_digit 10 (drop 3 text) (list_all-drop is_ascii_digit 3 text digits) in
    let check : all_ascii_digits (columns 14 14 text) ≡ true = digits_are (columns 14 14 text) ∙ list_all-take is_ascii_digit 1 (drop 13 text) (list_all-drop is_ascii_digit 13 text digits) in
    let small : number_of (columns 14 14 text) < 10 ^ 1 = number_of-lt (columns 14 14 text) 1 check (one_column text) in
    rw (is.number, number, le-leb d.check_digit 9 (omega (arith, small, is.check_digit))) refl

-- ---- taxes

no_taxes : (places : List (List ℕ)) (taxes : List (Option Tax)) → AreTaxes places taxes → list_all (list_all is_space) places ≡ true → list_all is_none taxes ≡ true
no_taxes [] [] are all = refl
no_taxes (place ∷ places) (None ∷ taxes) are all =
    no_taxes places taxes are.1 ((and_parts (list_all is_space place) (list_all (list_all is_space) places) all).1)
no_taxes (place ∷ places) (Some tax ∷ taxes) are all =
    absurd (no_tax place tax ((and_parts (list_all is_space place) (list_all (list_all is_space) places) all).0) are.0)
no_taxes [] (tax ∷ taxes) are all = absurd are
no_taxes (place ∷ places) [] are all = absurd are

-- the code of a place is that of its tax
same_code : (place : List ℕ) (tax : Tax) → tax.code ≡ columns 1 2 place → tax_code place ≡ tax_code tax.code
same_code place tax is =
    let P : List ℕ → Type 0 = λ code. tax_code place ≡ tax_code code in
    subst P (sym is) (rw (get_or-take 2 place 0 0 (omega arith), get_or-take 2 place 1 0 (omega arith)) refl)

-- taxes in places that fit
pub taxes_from : (lowest : ℕ) (places : List (List ℕ)) (taxes : List (Option Tax)) → AreTaxes places taxes → taxes_fit lowest places ≡ true → are_taxes lowest taxes ≡ true
taxes_from lowest [] [] are fit = refl
taxes_from lowest (place ∷ places) (None ∷ taxes) are fit = no_taxes places taxes are.1 (blank_rest lowest place places are.0 fit)
taxes_from lowest (place ∷ places) (Some tax ∷ taxes) are fit =
    let used : list_all is_space place ≡ false = false_from_ne_true (list_all is_space place) (λ all. no_tax place tax all are.0) in
    let parts = and_parts (tax_fits place && nat_lt lowest (tax_code place)) (taxes_fit (tax_code place) places) (used_rest lowest place places used fit) in
    let front = and_parts (tax_fits place) (nat_lt lowest (tax_code place)) parts.0 in
    let letters = and_parts (list_all is_letter_or_digit (columns 1 2 place)) (is_amount (columns 3 13 place)) front.0 in
    let same = same_code place tax are.0.0 in
    let P : ℕ → Type 0 = λ code. taxes_fit code places ≡ true in
    let first : list_all is_letter_or_digit tax.code ≡ true = ap (list_all is_letter_or_digit) are.0.0 ∙ letters.0 in
    let second : nat_lt lowest (tax_code tax.code) ≡ true = ap (nat_lt lowest) (sym same) ∙ front.1 in
    rw (first, second) (taxes_from (tax_code tax.code) places taxes are.1 (subst P same parts.1))
taxes_from lowest [] (tax ∷ taxes) are fit = absurd are
taxes_from lowest (place ∷ places) [] are fit = absurd are
