-- What the tests of records 5, 8 and Z say of their fields.
use Rattle.std.proofs.Common.{◌≡◌, ℕ, zero, suc, ◌<◌, ◌≤◌, ◌&&◌, ◌||◌, Bool, true, List, [], ◌∷◌, length, get_or, refl, arith, inl, inr}
use Rattle.std.specs.Prelude.{nat_lt, nat_le}
use Rattle.std.specs.List.{list_all}
use Rattle.std.specs.Str.{all_ascii_digits}
use Rattle.std.proofs.lemmas.Bool.{and_parts, cases_Bool, or_right, leb-true}
use Rattle.bsp_fields.specs.Decimal.{number_of}
use Rattle.bsp_fields.specs.Columns.{columns, is_space}
use Rattle.bsp_fields.specs.Fields.{is_amount, is_total, spells_at_most}
use Rattle.bsp_fields.specs.Taxes.{tax_places, tax_code, tax_fits, taxes_fit}
use Rattle.bsp_ret_records.specs.Records.{fare, rate, commission, amounts_fit, payment_amount, vendor, vendor_fits, form_of, form_fits, record_count, transaction_count, total, trailer_fits}
use Rattle.bsp_ret_records.proofs.ReadLemmas.{blank_rest, used_rest}

-- ---- record 5

-- an unused tax place or one that fits
abbrev pub place_fits : List ℕ → Bool
place_fits place = list_all is_space place || tax_fits place

blank_places : (places : List (List ℕ)) → list_all (list_all is_space) places ≡ true → list_all place_fits places ≡ true
blank_places [] all = refl
blank_places (place ∷ places) all =
    let parts = and_parts (list_all is_space place) (list_all (list_all is_space) places) all in
    rw (parts.0, blank_places places parts.1) refl

-- each place of places that fit
pub each_place : (lowest : ℕ) (places : List (List ℕ)) → taxes_fit lowest places ≡ true → list_all place_fits places ≡ true
each_place lowest [] fit = refl
each_place lowest (place ∷ places) fit =
    elim (cases_Bool (list_all is_space place)) [
      | inl blank ↦ rw (blank, blank_places places (blank_rest lowest place places blank fit)) refl
      | inr used ↦ (let parts = and_parts (tax_fits place && nat_lt lowest (tax_code place)) (taxes_fit (tax_code place) places) (used_rest lowest place places used fit) in
          let front = and_parts (tax_fits place) (nat_lt lowest (tax_code place)) parts.0 in
          let here : place_fits place ≡ true = or_right (list_all is_space place) (tax_fits place) front.0 in
          rw (here, each_place (tax_code place) places parts.1) refl)
    ]

pub place_at : (places : List (List ℕ)) (i : ℕ) → i < length places → list_all place_fits places ≡ true → place_fits (get_or places i []) ≡ true
place_at [] i inside fit = absurd (omega arith)
place_at (place ∷ places) zero inside fit = (and_parts (place_fits place) (list_all place_fits places) fit).0
place_at (place ∷ places) (suc i) inside fit =
    place_at places i (omega arith) ((and_parts (place_fits place) (list_all place_fits places) fit).1)

pub record AmountsFields (line : List ℕ) : Type 0 where
  pub fare : is_amount (fare line) ≡ true
  pub taxes : taxes_fit 0 (tax_places line) ≡ true
  pub places : list_all place_fits (tax_places line) ≡ true
  pub digits : all_ascii_digits (rate line) ≡ true
  pub few : nat_le (number_of (rate line)) 10000 ≡ true
  pub rate : number_of (rate line) ≤ 10000
  pub commission : is_amount (commission line) ≡ true

pub amounts_fields : (line : List ℕ) → amounts_fit line ≡ true → AmountsFields line
unfolding amounts_fit
amounts_fields line fits =
    let fare_is = is_amount (fare line) in
    let taxes_are = taxes_fit 0 (tax_places line) in
    let rate_is = spells_at_most 10000 (rate line) in
    let commission_is = is_amount (commission line) in
    let fourth = and_parts (fare_is && taxes_are && rate_is && commission_is) (list_all is_space (columns 113 136 line)) fits in
    let third = and_parts (fare_is && taxes_are && rate_is) commission_is fourth.0 in
    let second = and_parts (fare_is && taxes_are) rate_is third.0 in
    let first = and_parts fare_is taxes_are second.0 in
    let few = and_parts (all_ascii_digits (rate line)) (nat_le (number_of (rate line)) 10000) second.1 in
    record {
      fare = first.0;
      taxes = first.1;
      places = each_place 0 (tax_places line) first.1;
      digits = few.0;
      few = few.1;
      rate = leb-true (number_of (rate line)) 10000 few.1;
      commission = third.1;
    }

-- ---- record 8

pub form_amount_is : (line : List ℕ) → form_fits line ≡ true → is_amount (payment_amount line) ≡ true
unfolding form_fits
form_amount_is line fits =
    let vendor_is = vendor_fits (form_of line) (vendor line) in
    let amount_is = is_amount (payment_amount line) in
    (and_parts vendor_is amount_is ((and_parts (vendor_is && amount_is) (list_all is_space (columns 23 136 line)) fits).0)).1

-- ---- record Z

pub record TrailerFields (line : List ℕ) : Type 0 where
  pub records : all_ascii_digits (record_count line) ≡ true
  pub transactions : all_ascii_digits (transaction_count line) ≡ true
  pub sum : is_total (total line) ≡ true

pub trailer_fields : (line : List ℕ) → trailer_fits line ≡ true → TrailerFields line
unfolding trailer_fits
trailer_fields line fits =
    let records_are = all_ascii_digits (record_count line) in
    let transactions_are = all_ascii_digits (transaction_count line) in
    let sum_is = is_total (total line) in
    let third = and_parts (records_are && transactions_are && sum_is) (list_all is_space (columns 31 136 line)) fits in
    let second = and_parts (records_are && transactions_are) sum_is third.0 in
    let first = and_parts records_are transactions_are second.0 in
    record { records = first.0; transactions = first.1; sum = second.1 }
