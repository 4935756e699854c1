-- What is read of six places of taxes is what was written.
use Rattle.std.proofs.Common.{[], ◌*◌, ◌++◌, ◌∙◌, ◌∷◌, ◌≡◌, ap, arith, false, length, length-append, List, map, None, Ok, Option, refl, Some, true, ℕ, ℤ}
use Rattle.std.proofs.lemmas.Bool.{and_parts}
use Rattle.std.proofs.lemmas.Grind.{common_steps}
use Rattle.std.proofs.lemmas.List.{drop_at, take_all, take_at}
use Rattle.std.specs.List.{concat, list_all}
use Rattle.std.specs.Prelude.{◌&&◌, ◌==◌, IfSome, is_none, nat_lt, slice_index}
use Rattle.bsp_fields.specs.Zoned.{spelling, zoned_reading}
use Rattle.bsp_ret_writer.specs.Columns.{columns, is_letter_or_digit}
use Rattle.bsp_ret_writer.specs.Taxes.{tax_code}
use Rattle.bsp_ret_writer.proofs.CharacterLemmas.{length-spelling}
use Rattle.bsp_ret_writer.proofs.TextLemmas.{amount_reads}
use Rattle.bsp_rows.specs.GroupValues.{are_taxes}
use Rattle.bsp_rows.specs.Stored.{InEach, IsStoredTax}
use Rattle.bsp_rows.specs.Tax.{Tax}
use Rattle.bsp_rows.specs.Writing.{tax_text}
use Rattle.bsp_store_columns.specs.TaxPlaces.{tax_in, taxes_in}

abbrev places_text : List (Option Tax) → List ℕ
places_text taxes = concat (map tax_text taxes)

first_letter : (code rest : List ℕ) → length code ≡ 2 → list_all is_letter_or_digit code ≡ true → (slice_index (code ++ rest) 0 == 32) ≡ false
first_letter [] rest wide letters = absurd (omega (arith, wide))
first_letter (c ∷ code) rest wide letters = let letter = (and_parts (is_letter_or_digit c) (list_all is_letter_or_digit code) letters).0 in grind (arith, common_steps)

code_at : (code rest : List ℕ) → length code ≡ 2 → columns 1 2 (code ++ rest) ≡ code
code_at code rest wide = take_at code rest 2 wide

amount_at : (code amount : List ℕ) → length code ≡ 2 → length amount ≡ 11 → columns 3 13 (code ++ amount) ≡ amount
amount_at code amount wide long = rw (drop_at code amount 2 wide) (take_all 11 amount (omega arith))

tax_from : (place code : List ℕ) (amount : ℤ) → (slice_index place 0 == 32) ≡ false → columns 1 2 place ≡ code → zoned_reading 11 (columns 3 13 place) ≡ Ok amount → tax_in place ≡ Some (Some (record { code = code; amount = amount }))
tax_from place code amount letter is reads = rw (letter, is, reads) refl

tax_back : (tax : Tax) → IsStoredTax tax → list_all is_letter_or_digit tax.code ≡ true → tax_in (tax_text (Some tax)) ≡ Some (Some tax)
tax_back tax stored letters =
    let long = length-spelling 11 tax.amount (omega arith) in
    tax_from _ tax.code tax.amount (first_letter tax.code (spelling 11 tax.amount) stored.code letters) (code_at tax.code (spelling 11 tax.amount) stored.code)
    (ap (zoned_reading 11) (amount_at tax.code (spelling 11 tax.amount) stored.code long) ∙ amount_reads tax.amount stored.amount.size)

length-tax_text : (tax : Option Tax) → IfSome tax IsStoredTax → length (tax_text tax) ≡ 13
length-tax_text None is = refl
length-tax_text (Some tax) is = length-append tax.code (spelling 11 tax.amount) ∙ (let long = length-spelling 11 tax.amount (omega arith) in omega (arith, long, is.code))

-- a place and those behind it
step_back : (tax : Option Tax) (taxes : List (Option Tax)) → length (tax_text tax) ≡ 13 → tax_in (tax_text tax) ≡ Some tax → taxes_in (length taxes) (places_text taxes) ≡ Some taxes → taxes_in (length (tax ∷ taxes)) (places_text (tax ∷ taxes)) ≡ Some (tax ∷ taxes)
step_back tax taxes wide one more = rw (take_at (tax_text tax) (places_text taxes) 13 wide, drop_at (tax_text tax) (places_text taxes) 13 wide, one, more) refl

blank_back : (taxes : List (Option Tax)) → list_all is_none taxes ≡ true → taxes_in (length taxes) (places_text taxes) ≡ Some taxes
blank_back [] none = refl
blank_back (None ∷ taxes) none = step_back None taxes refl refl (blank_back taxes none)
blank_back (Some tax ∷ taxes) none = absurd (cc none)

taxes_back : (before : ℕ) (taxes : List (Option Tax)) → InEach IsStoredTax taxes → are_taxes before taxes ≡ true → taxes_in (length taxes) (places_text taxes) ≡ Some taxes
taxes_back before [] stored fit = refl
taxes_back before (None ∷ taxes) stored fit = step_back None taxes refl refl (blank_back taxes fit)
taxes_back before (Some tax ∷ taxes) stored fit =
    let number = tax_code tax.code in
    let parts = and_parts (list_all is_letter_or_digit tax.code && nat_lt before number) (are_taxes number taxes) fit in
    let front = and_parts (list_all is_letter_or_digit tax.code) (nat_lt before number) parts.0 in
    step_back (Some tax) taxes (length-tax_text (Some tax) stored.0) (tax_back tax stored.0 front.0) (taxes_back number taxes stored.1 parts.1)

length-taxes : (taxes : List (Option Tax)) → InEach IsStoredTax taxes → length (places_text taxes) ≡ 13 * length taxes
length-taxes [] stored = refl
length-taxes (tax ∷ taxes) stored = length-append (tax_text tax) (places_text taxes) ∙ (let one = length-tax_text tax stored.0 in let more = length-taxes taxes stored.1 in omega (arith, one, more))

-- the six of an item
pub six_places : (taxes : List (Option Tax)) → length taxes ≡ 6 → InEach IsStoredTax taxes → are_taxes 0 taxes ≡ true → (length (places_text taxes) ≡ 78) × (taxes_in 6 (places_text taxes) ≡ Some taxes)
six_places taxes six stored fit = (length-taxes taxes stored ∙ ap (λ n. 13 * n) six, rw six at (taxes_back 0 taxes stored fit))
