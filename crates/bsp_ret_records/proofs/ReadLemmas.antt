-- What the tests of records say of their columns.
use Rattle.std.proofs.Common.{◌≡◌, ℕ, ◌-◌, ◌&&◌, ◌||◌, not, Bool, true, false, List, [], ◌∷◌, length, take, drop, get_or, sym, ◌∙◌, subst, arith, Some, is_some, Ok, ℤ}
use Rattle.std.specs.Prelude.{◌==◌, nat_lt}
use Rattle.std.specs.List.{list_all}
use Rattle.std.specs.Char.{is_ascii_digit}
use Rattle.std.specs.Str.{all_ascii_digits}
use Rattle.std.proofs.lemmas.Grind.{common_steps}
use Rattle.std.proofs.lemmas.Bool.{and_parts, eqb-true, not-false}
use Rattle.bsp_fields.specs.Zoned.{zoned_reading, zoned_value, all_but_last, last_character, is_plus, is_minus}
use Rattle.bsp_fields.specs.declared.fault.FieldFault.{FieldFault}
use Rattle.bsp_fields.specs.declared.fault.FieldFault.TheVariants.{Width, NotDigit, NotSign}
use Rattle.bsp_fields.proofs.FirstFaultLemmas.{row_passed}
use Rattle.bsp_ret_records.specs.declared.transactions.Tax.{Tax}
use Rattle.bsp_fields.specs.Columns.{columns, is_space, is_wide, is_printable}
use Rattle.bsp_ret_records.specs.Records.{code_of, agent_and_document, agent, document, issued, sale_fits, related_document, related_fits}
use Rattle.bsp_fields.specs.Fields.{is_record_day}
use Rattle.bsp_fields.specs.Taxes.{tax_code, tax_fits, taxes_fit}
use Rattle.bsp_ret_records.specs.Values.{IsTax}
use Rattle.bsp_fields.proofs.CharacterLemmas.{digits_are, list_all-take, list_all-drop}

-- columns of a record are printable
pub printable_columns : (line : List ℕ) (from to : ℕ) → is_wide line ≡ true → list_all is_printable (columns from to line) ≡ true
unfolding is_wide
printable_columns line from to wide =
    let all = (and_parts (length line == 136) (list_all is_printable line) wide).1 in
    list_all-take is_printable (to - (from - 1)) (drop (from - 1) line) (list_all-drop is_printable (from - 1) line all)

-- the fields of a record 2, and the digits of a record 3
pub record SaleFields (line : List ℕ) : Type 0 where
  pub code : is_some (code_of line) ≡ true
  pub agent : all_ascii_digits (agent line) ≡ true
  pub document : all_ascii_digits (document line) ≡ true
  pub day : is_record_day (issued line) ≡ true

digits_inside : (text : List ℕ) (skipped inner : ℕ) → all_ascii_digits text ≡ true → all_ascii_digits (take inner (drop skipped text)) ≡ true
digits_inside text skipped inner all =
    digits_are (take inner (drop skipped text)) ∙ list_all-take is_ascii_digit inner (drop skipped text) (list_all-drop is_ascii_digit skipped text (sym (digits_are text) ∙ all))

pub sale_fields : (line : List ℕ) → sale_fits line ≡ true → SaleFields line
unfolding sale_fits
sale_fields line fits =
    let code_is = is_some (code_of line) in
    let digits_are = all_ascii_digits (agent_and_document line) in
    let day_is = is_record_day (issued line) in
    let third = and_parts (code_is && digits_are && day_is) (list_all is_space (columns 89 136 line)) fits in
    let second = and_parts (code_is && digits_are) day_is third.0 in
    let first = and_parts code_is digits_are second.0 in
    record {
      code = first.0;
      agent = digits_inside (agent_and_document line) 0 8 first.1;
      document = digits_inside (agent_and_document line) 8 14 first.1;
      day = second.1;
    }

pub related_digits : (line : List ℕ) → related_fits line ≡ true → all_ascii_digits (related_document line) ≡ true
unfolding related_fits
related_digits line fits =
    (and_parts (all_ascii_digits (related_document line)) (list_all is_space (columns 22 136 line)) fits).0

pub order_digits : (line : List ℕ) → related_fits line ≡ true → all_ascii_digits (columns 1 13 (related_document line)) ≡ true
order_digits line fits = digits_inside (related_document line) 0 13 (related_digits line fits)

-- ---- tax places

first_digit : (text : List ℕ) → length text ≡ 11 → all_ascii_digits (take 10 text) ≡ true → is_ascii_digit (get_or text 0 0) ≡ true
first_digit [] wide all = absurd (omega (arith, wide))
first_digit (c ∷ text) wide all = (and_parts (is_ascii_digit c) (all_ascii_digits (take 9 text)) all).0

-- a text that reads as an amount begins with a digit
amount_begins : (text : List ℕ) (value : ℤ) → zoned_reading 11 text ≡ Ok value → is_ascii_digit (get_or text 0 0) ≡ true
amount_begins text value reads =
    let sign : List (Bool × FieldFault) = (not (is_plus (last_character text) || is_minus (last_character text)), NotSign) ∷ [] in
    let a = row_passed (not (length text == 11)) Width ((not (all_ascii_digits (all_but_last text)), NotDigit) ∷ sign) (zoned_value text) value reads in
    let b = row_passed (not (all_ascii_digits (all_but_last text))) NotDigit sign (zoned_value text) value a.1 in
    let wide : length text ≡ 11 = eqb-true (length text) 11 (not-false (length text == 11) a.0) in
    let digits : all_ascii_digits (all_but_last text) ≡ true = not-false (all_ascii_digits (all_but_last text)) b.0 in
    let P : ℕ → Type 0 = λ n. all_ascii_digits (take (n - 1) text) ≡ true in
    first_digit text wide (subst P wide digits)

digit-no_space : (c : ℕ) → is_ascii_digit c ≡ true → is_space c ≡ true → ⊥
digit-no_space c digit space = grind (arith, common_steps)

first_space : (text : List ℕ) → list_all is_space text ≡ true → is_ascii_digit (get_or text 0 0) ≡ true → ⊥
first_space [] all digit = cc digit
first_space (c ∷ text) all digit = digit-no_space c digit ((and_parts (is_space c) (list_all is_space text) all).0)

-- a place of spaces has no tax
pub no_tax : (place : List ℕ) (tax : Tax) → list_all is_space place ≡ true → IsTax place (Some tax) → ⊥
no_tax place tax all is =
    first_space (columns 3 13 place) (list_all-take is_space 11 (drop 2 place) (list_all-drop is_space 2 place all)) (amount_begins (columns 3 13 place) tax.amount is.1)

-- what stands behind an unused place, and a used place with what stands behind it
pub blank_rest : (lowest : ℕ) (place : List ℕ) (places : List (List ℕ)) → list_all is_space place ≡ true → taxes_fit lowest (place ∷ places) ≡ true → list_all (list_all is_space) places ≡ true
blank_rest lowest place places blank fit = rw blank at fit

pub used_rest : (lowest : ℕ) (place : List ℕ) (places : List (List ℕ)) → list_all is_space place ≡ false → taxes_fit lowest (place ∷ places) ≡ true → (tax_fits place && nat_lt lowest (tax_code place) && taxes_fit (tax_code place) places) ≡ true
used_rest lowest place places used fit = rw used at fit
