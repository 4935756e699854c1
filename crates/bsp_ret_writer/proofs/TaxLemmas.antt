-- Lemmas on tax places that are written.
use Rattle.std.proofs.Common.{◌≡◌, ℕ, ◌&&◌, true, false, List, [], ◌∷◌, ◌++◌, length, map, replicate, refl, sym, ap, arith, length-append, Option, None, Some, is_none}
use Rattle.std.specs.Prelude.{nat_lt}
use Rattle.std.specs.List.{list_all}
use Rattle.std.proofs.lemmas.Grind.{common_steps}
use Rattle.std.proofs.lemmas.Bool.{and_parts}
use Rattle.std.proofs.lemmas.List.{take_at, drop_at, take_all, get_or_append_left}
use Rattle.std.proofs.lemmas.List.Folds.{list_all-append}
use Rattle.bsp_fields.specs.Zoned.{spelling}
use Rattle.bsp_ret_records.specs.declared.transactions.Tax.{Tax}
use Rattle.bsp_fields.specs.Columns.{columns, is_letter_or_digit, is_printable, is_space}
use Rattle.bsp_fields.specs.Taxes.{tax_code, tax_fits, taxes_fit}
use Rattle.bsp_ret_records.specs.Values.{AreTaxes}
use Rattle.bsp_ret_writer.specs.GroupValues.{are_taxes}
use Rattle.bsp_ret_writer.specs.Writing.{tax_text}
use Rattle.bsp_fields.proofs.CharacterLemmas.{printable-letters, printable-spelling, length-spelling}
use Rattle.bsp_fields.proofs.TextLemmas.{amount_reads}
use Rattle.bsp_ret_writer.specs.Stored.{InEach, IsStoredTax}

letter_or_digit-no_space : (c : ℕ) → is_letter_or_digit c ≡ true → is_space c ≡ false
letter_or_digit-no_space c h = grind (arith, common_steps)

-- ---- one used place

code_at : (code rest : List ℕ) → length code ≡ 2 → columns 1 2 (code ++ rest) ≡ code
code_at code rest wide = take_at code rest 2 wide

amount_at : (code amount : List ℕ) → length code ≡ 2 → length amount ≡ 11 → columns 3 13 (code ++ amount) ≡ amount
amount_at code amount wide long = rw (drop_at code amount 2 wide) (take_all 11 amount (omega arith))

tax_code_at : (code rest : List ℕ) → length code ≡ 2 → tax_code (code ++ rest) ≡ tax_code code
tax_code_at code rest wide =
    rw (get_or_append_left code rest 0 0 (omega arith), get_or_append_left code rest 0 1 (omega arith)) refl

no_space : (code rest : List ℕ) → length code ≡ 2 → list_all is_letter_or_digit code ≡ true → list_all is_space (code ++ rest) ≡ false
no_space [] rest wide letters = absurd (omega (arith, wide))
no_space (c ∷ code) rest wide letters =
    rw (letter_or_digit-no_space c ((and_parts (is_letter_or_digit c) (list_all is_letter_or_digit code) letters).0)) refl

tax_fits-text : (tax : Tax) → IsStoredTax tax → list_all is_letter_or_digit tax.code ≡ true → tax_fits (tax.code ++ spelling 11 tax.amount) ≡ true
tax_fits-text tax stored letters =
    let long = length-spelling 11 tax.amount (omega arith) in
    rw (
      code_at tax.code (spelling 11 tax.amount) stored.code,
      letters,
      amount_at tax.code (spelling 11 tax.amount) stored.code long,
      amount_reads tax.amount stored.amount.size,
    ) refl

-- ---- all places

blank_places : (taxes : List (Option Tax)) → list_all is_none taxes ≡ true → list_all (list_all is_space) (map tax_text taxes) ≡ true
blank_places [] all = refl
blank_places (None ∷ taxes) all = blank_places taxes all
blank_places (Some tax ∷ taxes) all = absurd (cc all)

pub taxes_fit-texts : (lowest : ℕ) (taxes : List (Option Tax)) → InEach IsStoredTax taxes → are_taxes lowest taxes ≡ true → taxes_fit lowest (map tax_text taxes) ≡ true
taxes_fit-texts lowest [] stored fit = refl
taxes_fit-texts lowest (None ∷ taxes) stored fit = blank_places taxes fit
taxes_fit-texts lowest (Some tax ∷ taxes) stored fit =
    let number = tax_code tax.code in
    let parts = and_parts (list_all is_letter_or_digit tax.code && nat_lt lowest number) (are_taxes number taxes) fit in
    let front = and_parts (list_all is_letter_or_digit tax.code) (nat_lt lowest number) parts.0 in
    rw (
      no_space tax.code (spelling 11 tax.amount) stored.0.code front.0,
      tax_fits-text tax stored.0 front.0,
      tax_code_at tax.code (spelling 11 tax.amount) stored.0.code,
      front.1,
    ) (taxes_fit-texts number taxes stored.1 parts.1)

-- each place has 13 columns
pub length-texts : (taxes : List (Option Tax)) → InEach IsStoredTax taxes → map length (map tax_text taxes) ≡ replicate (length taxes) 13
length-texts [] stored = refl
length-texts (None ∷ taxes) stored = ap (λ widths. 13 ∷ widths) (length-texts taxes stored.1)
length-texts (Some tax ∷ taxes) stored =
    rw (
      length-append tax.code (spelling 11 tax.amount),
      stored.0.code,
      length-texts taxes stored.1,
    ) refl

printable_blanks : (taxes : List (Option Tax)) → list_all is_none taxes ≡ true → list_all (list_all is_printable) (map tax_text taxes) ≡ true
printable_blanks [] all = refl
printable_blanks (None ∷ taxes) all = printable_blanks taxes all
printable_blanks (Some tax ∷ taxes) all = absurd (cc all)

pub printable-texts : (lowest : ℕ) (taxes : List (Option Tax)) → are_taxes lowest taxes ≡ true → list_all (list_all is_printable) (map tax_text taxes) ≡ true
printable-texts lowest [] fit = refl
printable-texts lowest (None ∷ taxes) fit = printable_blanks taxes fit
printable-texts lowest (Some tax ∷ taxes) fit =
    let number = tax_code tax.code in
    let parts = and_parts (list_all is_letter_or_digit tax.code && nat_lt lowest number) (are_taxes number taxes) fit in
    let front = and_parts (list_all is_letter_or_digit tax.code) (nat_lt lowest number) parts.0 in
    rw (
      list_all-append is_printable tax.code (spelling 11 tax.amount),
      printable-letters tax.code front.0,
      printable-spelling 11 tax.amount,
      printable-texts number taxes parts.1,
    ) refl

-- the places read back to the taxes
pub texts-read : (taxes : List (Option Tax)) → InEach IsStoredTax taxes → AreTaxes (map tax_text taxes) taxes
texts-read [] stored = tt
texts-read (None ∷ taxes) stored = (refl, texts-read taxes stored.1)
texts-read (Some tax ∷ taxes) stored =
    let long = length-spelling 11 tax.amount (omega arith) in
    ((sym (code_at tax.code (spelling 11 tax.amount) stored.0.code), rw (amount_at tax.code (spelling 11 tax.amount) stored.0.code long) (amount_reads tax.amount stored.0.amount.size)), texts-read taxes stored.1)
