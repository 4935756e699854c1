-- Lemmas on records 5 that are written.
use Rattle.std.proofs.Common.{◌≡◌, ℕ, ◌<◌, ◌≤◌, ◌^◌, true, List, [], ◌∷◌, ◌++◌, length, map, get_or, refl, sym, ap, ◌∙◌, arith, ◌+◌, subst, replicate}
use Rattle.std.specs.Prelude.{codes, nat_le}
use Rattle.std.specs.List.{concat, list_all}
use Rattle.std.proofs.lemmas.Bool.{and_parts, leb-true}
use Rattle.std.proofs.lemmas.List.{map-append, length-map, get_or-append-add}
use Rattle.std.proofs.lemmas.List.Folds.{list_all-append}
use Rattle.bsp_fields.specs.Decimal.{fixed_digits}
use Rattle.bsp_fields.specs.Zoned.{spelling}
use Rattle.bsp_fields.proofs.DecimalLemmas.{length-fixed_digits, digits-fixed_digits, number_of-fixed_digits}
use Rattle.bsp_ret_records.specs.declared.transactions.Amounts.{Amounts}
use Rattle.bsp_fields.specs.Columns.{columns, identifier, is_wide, is_printable, is_space}
use Rattle.bsp_fields.specs.Fields.{is_amount, spells_at_most}
use Rattle.bsp_fields.specs.Taxes.{tax_places, taxes_fit}
use Rattle.bsp_ret_records.specs.Records.{transaction_number, fare as fare_of, rate as rate_of, commission as commission_of, amounts_fit}
use Rattle.bsp_ret.specs.Ret.{IsRecord}
use Rattle.bsp_ret_records.specs.Values.{AreAmounts, AreTaxes}
use Rattle.bsp_ret_writer.specs.GroupValues.{are_taxes, are_amounts}
use Rattle.bsp_ret_writer.specs.Writing.{amounts_line, tax_text, spaces}
use Rattle.bsp_fields.proofs.FieldLemmas.{field_at, wide_fields}
use Rattle.bsp_fields.proofs.CharacterLemmas.{printable-digits, printable-spelling, length-spelling, list_all-replicate}
use Rattle.bsp_fields.proofs.TextLemmas.{spells-digits, spells_at_most-digits, is_amount-spelling, amount_reads}
use Rattle.bsp_ret_writer.proofs.TaxLemmas.{taxes_fit-texts, length-texts, printable-texts, texts-read}
use Rattle.bsp_ret_writer.specs.Stored.{IsStoredAmounts}

-- the columns of a record 5
record AmountsColumns (line number fare : List ℕ) (places : List (List ℕ)) (rate commission rest : List ℕ) : Type 0 where
  wide : is_wide line ≡ true
  name : identifier line ≡ 53
  number_at : transaction_number line ≡ number
  fare_at : fare_of line ≡ fare
  places_at : tax_places line ≡ places
  rate_at : rate_of line ≡ rate
  commission_at : commission_of line ≡ commission
  rest_at : columns 113 136 line ≡ rest

widths_are : (name number fare : List ℕ) (places : List (List ℕ)) (rate commission rest : List ℕ) → length name ≡ 1 → length number ≡ 6 → length fare ≡ 11 → map length places ≡ replicate 6 13 → length rate ≡ 5 → length commission ≡ 11 → length rest ≡ 24 → map length (name ∷ number ∷ fare ∷ (places ++ (rate ∷ commission ∷ rest ∷ []))) ≡ 1 ∷ 6 ∷ 11 ∷ 13 ∷ 13 ∷ 13 ∷ 13 ∷ 13 ∷ 13 ∷ 5 ∷ 11 ∷ 24 ∷ []
widths_are name number fare places rate commission rest a b d e f g h =
    rw (map-append (length {A = ℕ}) places (rate ∷ commission ∷ rest ∷ []), a, b, d, e, f, g, h) refl

printable_are : (number fare : List ℕ) (places : List (List ℕ)) (rate commission rest : List ℕ) → list_all is_printable number ≡ true → list_all is_printable fare ≡ true → list_all (list_all is_printable) places ≡ true → list_all is_printable rate ≡ true → list_all is_printable commission ≡ true → list_all is_printable rest ≡ true → list_all (list_all is_printable) (codes "5" ∷ number ∷ fare ∷ (places ++ (rate ∷ commission ∷ rest ∷ []))) ≡ true
printable_are number fare places rate commission rest a b d e f g =
    rw (list_all-append (list_all is_printable) places (rate ∷ commission ∷ rest ∷ []), a, b, d, e, f, g) refl

-- six lists in front of others
pub six_of : (places others : List (List ℕ)) → map length places ≡ replicate 6 13 → get_or (places ++ others) 0 [] ∷ get_or (places ++ others) 1 [] ∷ get_or (places ++ others) 2 [] ∷ get_or (places ++ others) 3 [] ∷ get_or (places ++ others) 4 [] ∷ get_or (places ++ others) 5 [] ∷ [] ≡ places
six_of (a ∷ b ∷ d ∷ e ∷ f ∷ g ∷ []) others wide = refl
six_of (a ∷ b ∷ d ∷ e ∷ f ∷ g ∷ h ∷ places) others wide = absurd (cc wide)
six_of (a ∷ b ∷ d ∷ e ∷ f ∷ []) others wide = absurd (cc wide)
six_of (a ∷ b ∷ d ∷ e ∷ []) others wide = absurd (cc wide)
six_of (a ∷ b ∷ d ∷ []) others wide = absurd (cc wide)
six_of (a ∷ b ∷ []) others wide = absurd (cc wide)
six_of (a ∷ []) others wide = absurd (cc wide)
six_of [] others wide = absurd (cc wide)

length_six : (places : List (List ℕ)) → map length places ≡ replicate 6 13 → length places ≡ 6
length_six places wide = sym (length-map places (length {A = ℕ})) ∙ ap length wide

-- what stands behind six lists
behind_six : (places others : List (List ℕ)) (n : ℕ) → map length places ≡ replicate 6 13 → get_or (places ++ others) (6 + n) [] ≡ get_or others n []
behind_six places others n wide =
    let P : ℕ → Type 0 = λ k. get_or (places ++ others) (k + n) [] ≡ get_or others n [] in
    subst P (length_six places wide) (get_or-append-add places others n [])

amounts_columns : (number fare : List ℕ) (places : List (List ℕ)) (rate commission rest : List ℕ) → map length places ≡ replicate 6 13 → map length (codes "5" ∷ number ∷ fare ∷ (places ++ (rate ∷ commission ∷ rest ∷ []))) ≡ 1 ∷ 6 ∷ 11 ∷ 13 ∷ 13 ∷ 13 ∷ 13 ∷ 13 ∷ 13 ∷ 5 ∷ 11 ∷ 24 ∷ [] → list_all (list_all is_printable) (codes "5" ∷ number ∷ fare ∷ (places ++ (rate ∷ commission ∷ rest ∷ []))) ≡ true → AmountsColumns (concat (codes "5" ∷ number ∷ fare ∷ (places ++ (rate ∷ commission ∷ rest ∷ [])))) number fare places rate commission rest
amounts_columns number fare places rate commission rest six wide printable =
    let widths : List ℕ = 1 ∷ 6 ∷ 11 ∷ 13 ∷ 13 ∷ 13 ∷ 13 ∷ 13 ∷ 13 ∷ 5 ∷ 11 ∷ 24 ∷ [] in
    let others : List (List ℕ) = rate ∷ commission ∷ rest ∷ [] in
    let fields : List (List ℕ) = codes "5" ∷ number ∷ fare ∷ (places ++ others) in
    record {
      wide = wide_fields widths fields wide refl printable;
      name = refl;
      number_at = field_at 1 widths fields wide;
      fare_at = field_at 2 widths fields wide;
      places_at =
          rw (
            field_at 3 widths fields wide,
            field_at 4 widths fields wide,
            field_at 5 widths fields wide,
            field_at 6 widths fields wide,
            field_at 7 widths fields wide,
            field_at 8 widths fields wide,
          ) (six_of places others six);
      rate_at = field_at 9 widths fields wide ∙ behind_six places others 0 six;
      commission_at = field_at 10 widths fields wide ∙ behind_six places others 1 six;
      rest_at = field_at 11 widths fields wide ∙ behind_six places others 2 six;
    }

-- what the test of a record 5's values says
pub record AmountsFacts (a : Amounts) : Type 0 where
  pub taxes : are_taxes 0 a.taxes ≡ true
  pub rate : a.rate ≤ 10000

pub amounts_facts : (a : Amounts) → are_amounts a ≡ true → AmountsFacts a
unfolding are_amounts
amounts_facts a h =
    let parts = and_parts (are_taxes 0 a.taxes) (nat_le a.rate 10000) h in
    record { taxes = parts.0; rate = leb-true a.rate 10000 parts.1 }

six_places : (a : Amounts) → IsStoredAmounts a → map length (map tax_text a.taxes) ≡ replicate 6 13
six_places a stored = length-texts a.taxes stored.taxes ∙ ap (λ n. replicate n 13) stored.places

amounts_line-columns : (n : ℕ) (a : Amounts) → IsStoredAmounts a → are_amounts a ≡ true → AmountsColumns (amounts_line n a) (fixed_digits 6 n) (spelling 11 a.fare) (map tax_text a.taxes) (fixed_digits 5 a.rate) (spelling 11 a.commission) (spaces 24)
unfolding amounts_line
amounts_line-columns n a stored fits =
    let six = six_places a stored in
    amounts_columns (fixed_digits 6 n) (spelling 11 a.fare) (map tax_text a.taxes) (fixed_digits 5 a.rate) (spelling 11 a.commission) (spaces 24) six
    (widths_are (codes "5") (fixed_digits 6 n) (spelling 11 a.fare) (map tax_text a.taxes) (fixed_digits 5 a.rate) (spelling 11 a.commission) (spaces 24) refl (length-fixed_digits 6 n) (length-spelling 11 a.fare (omega arith)) six (length-fixed_digits 5 a.rate) (length-spelling 11 a.commission (omega arith)) refl)
    (printable_are (fixed_digits 6 n) (spelling 11 a.fare) (map tax_text a.taxes) (fixed_digits 5 a.rate) (spelling 11 a.commission) (spaces 24) (printable-digits (fixed_digits 6 n) (digits-fixed_digits 6 n)) (printable-spelling 11 a.fare) (printable-texts 0 a.taxes ((amounts_facts a fits).taxes)) (printable-digits (fixed_digits 5 a.rate) (digits-fixed_digits 5 a.rate)) (printable-spelling 11 a.commission) (list_all-replicate is_printable 24 32 refl))

amounts_fit-columns : (line number fare : List ℕ) (places : List (List ℕ)) (rate commission rest : List ℕ) → AmountsColumns line number fare places rate commission rest → is_amount fare ≡ true → taxes_fit 0 places ≡ true → spells_at_most 10000 rate ≡ true → is_amount commission ≡ true → list_all is_space rest ≡ true → amounts_fit line ≡ true
unfolding amounts_fit
amounts_fit-columns line number fare places rate commission rest c a b d e blank =
    let first : is_amount (fare_of line) ≡ true = rw c.fare_at a in
    let second : taxes_fit 0 (tax_places line) ≡ true = ap (taxes_fit 0) c.places_at ∙ b in
    let third : spells_at_most 10000 (rate_of line) ≡ true = rw c.rate_at d in
    let fourth : is_amount (commission_of line) ≡ true = rw c.commission_at e in
    rw (first, second, third, fourth, c.rest_at, blank) refl

-- a record 5 that is written is one
pub amounts_line-stands : (n : ℕ) (a : Amounts) → IsStoredAmounts a → are_amounts a ≡ true → n < 10 ^ 6 → IsRecord 53 n amounts_fit (amounts_line n a)
amounts_line-stands n a stored fits few =
    let c = amounts_line-columns n a stored fits in
    let facts = amounts_facts a fits in
    record {
      wide = c.wide;
      name = c.name;
      number = rw c.number_at (spells-digits 6 n few);
      fields = amounts_fit-columns (amounts_line n a) (fixed_digits 6 n) (spelling 11 a.fare) (map tax_text a.taxes) (fixed_digits 5 a.rate) (spelling 11 a.commission) (spaces 24) c (is_amount-spelling a.fare stored.fare.size) (taxes_fit-texts 0 a.taxes stored.taxes facts.taxes) (spells_at_most-digits 5 a.rate 10000 (omega (arith, facts.rate)) facts.rate) (is_amount-spelling a.commission stored.commission.size) (list_all-replicate is_space 24 32 refl);
    }

-- and reads back
pub amounts_line-reads : (n : ℕ) (a : Amounts) → IsStoredAmounts a → are_amounts a ≡ true → AreAmounts (amounts_line n a) a
amounts_line-reads n a stored fits =
    let c = amounts_line-columns n a stored fits in
    let P : List (List ℕ) → Type 0 = λ places. AreTaxes places a.taxes in
    record {
      fare = rw c.fare_at (amount_reads a.fare stored.fare.size);
      taxes = subst P (sym c.places_at) (texts-read a.taxes stored.taxes);
      rate = rw c.rate_at (number_of-fixed_digits 5 a.rate (omega (arith, (amounts_facts a fits).rate)));
      commission = rw c.commission_at (amount_reads a.commission stored.commission.size);
    }
