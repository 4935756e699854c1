-- What a plan text says: the entries of its TOML document, where each key is known and each value in its form.
use Rattle.std.specs.Prelude.{◌≡◌, ⊤, ℕ, ℤ, pos, ◌&&◌, Bool, nat_le, List, [], ◌∷◌, codes, if◌then◌else◌, Option, Some, None, option_map, option_and_then, Result, Ok, Err}
use Rattle.std.specs.List.{list_all, list_any}
use Rattle.std.specs.Option.{ok_or}
use Rattle.std.specs.Result.{result_ok}
use Rattle.std.specs.Str.{bytes_eq, is_utf8}
use Rattle.toml.specs.Data.{Data, Items, no_items, item, Members, no_members, member, as_array, as_integer, as_str, as_table, get_member}
use Rattle.toml.specs.Parse.{parse_document}
use Rattle.bsp_fields.specs.CivilDay.{CivilDay}
use Rattle.bsp_fields.specs.Codes.{code_reading}
use Rattle.bsp_fields.specs.Days.{text_reading}
use Rattle.bsp_fields.specs.declared.fault.FieldFault.{FieldFault}
use Rattle.bsp_calendar.specs.Letters.{currency_reading}
use Rattle.bsp_calendar.specs.declared.entries.CommissionTax.{CommissionTax}
use Rattle.bsp_calendar.specs.declared.entries.Period.{Period}
use Rattle.bsp_calendar.specs.declared.entries.PlanText.{PlanText}
use Rattle.bsp_calendar.specs.declared.entries.Rate.{Rate}
use Rattle.bsp_calendar.specs.declared.entries.Terms.{Terms}
use Rattle.bsp_calendar.specs.declared.fault.PlanFault.{PlanFault}
use Rattle.bsp_calendar.specs.declared.fault.PlanFault.TheVariants.{NotToml, WrongKey, NoMemory}

-- ---- the forms of values

-- a text that is read as a field
abbrev pub field_of : {A : Type 0} → (List ℕ → Result A FieldFault) → Data → Option A
field_of reading value = option_and_then (λ text. result_ok (reading text)) (as_str value)

abbrev pub airline_of : Data → Option ℕ
airline_of value = field_of (code_reading 3) value

abbrev pub code_of : Data → Option ℕ
code_of value = field_of (code_reading 5) value

abbrev pub day_of : Data → Option CivilDay
day_of value = field_of text_reading value

abbrev pub currency_of : Data → Option (List ℕ)
currency_of value = option_and_then currency_reading (as_str value)

abbrev pub within : ℕ → ℕ → ℤ → Option ℕ
within low high (pos n) = if nat_le low n && nat_le n high then Some n else None
within low high _ = None

-- a whole number from `low` to `high`
abbrev pub number_of : ℕ → ℕ → Data → Option ℕ
number_of low high value = option_and_then (within low high) (as_integer value)

-- ---- keys and lists

abbrev pub keys_in : Members → List (List ℕ)
keys_in no_members = []
keys_in (member key value members) = key ∷ keys_in members

abbrev pub is_known : List (List ℕ) → List ℕ → Bool
is_known known key = list_any (λ name. bytes_eq name key) known

-- each key is one of the known
abbrev pub has_only : List (List ℕ) → Members → Bool
has_only known members = list_all (is_known known) (keys_in members)

-- the value at a key, in its form
abbrev pub at : {A : Type 0} → List ℕ → (Data → Option A) → Members → Option A
at key form members = option_and_then form (get_member key members)

-- each item in the form
abbrev pub each : {A : Type 0} → (Data → Option A) → Items → Option (List A)
each form no_items = Some []
each form (item value items) = option_and_then (λ x. option_map (λ xs. x ∷ xs) (each form items)) (form value)

-- a list whose items are in the form; none is the empty list
abbrev pub listed : {A : Type 0} → (Data → Option A) → Option Data → Option (List A)
listed form None = Some []
listed form (Some value) = option_and_then (each form) (as_array value)

-- what is made of a value that is there
abbrev pub using : {A B : Type 0} → Option A → (A → Option B) → Option B
using value make = option_and_then make value

-- ---- entries

abbrev pub rate_keys : List (List ℕ)
rate_keys = codes "airline" ∷ codes "from" ∷ codes "hundredths" ∷ []

abbrev pub rate_in : Members → Option Rate
rate_in members =
    if has_only rate_keys members
    then using (at (codes "airline") airline_of members) (λ airline.
    using (at (codes "from") day_of members) (λ from.
    using (at (codes "hundredths") (number_of 0 10_000) members) (λ hundredths.
    Some (record { airline = airline; from = from; hundredths = hundredths }))))
    else None

abbrev pub rate_of : Data → Option Rate
rate_of value = option_and_then rate_in (as_table value)

abbrev pub period_keys : List (List ℕ)
period_keys = codes "code" ∷ codes "first" ∷ codes "last" ∷ codes "remit" ∷ []

abbrev pub period_in : Members → Option Period
period_in members =
    if has_only period_keys members
    then using (at (codes "code") code_of members) (λ code.
    using (at (codes "first") day_of members) (λ first.
    using (at (codes "last") day_of members) (λ last.
    using (at (codes "remit") day_of members) (λ remittance.
    Some (record { code = code; first = first; last = last; remittance = remittance })))))
    else None

abbrev pub period_of : Data → Option Period
period_of value = option_and_then period_in (as_table value)

abbrev pub tax_keys : List (List ℕ)
tax_keys = codes "from" ∷ codes "hundredths" ∷ []

abbrev pub tax_in : Members → Option CommissionTax
tax_in members =
    if has_only tax_keys members
    then using (at (codes "from") day_of members) (λ from.
    using (at (codes "hundredths") (number_of 0 10_000) members) (λ hundredths.
    Some (record { from = from; hundredths = hundredths })))
    else None

abbrev pub tax_of : Data → Option CommissionTax
tax_of value = option_and_then tax_in (as_table value)

abbrev pub terms_in : Members → Option Terms
terms_in members =
    using (at (codes "currency") currency_of members) (λ currency.
    using (at (codes "review_days") (number_of 1 60) members) (λ review_days.
    using (at (codes "documents_limit") (number_of 1 1_000_000) members) (λ documents_limit.
    Some (record { currency = currency; review_days = review_days; documents_limit = documents_limit }))))

-- ---- the plan

-- the entries of a plan text
pub record PlanData : Type 0 where
  pub terms : Terms
  pub airlines : List ℕ
  pub rates : List Rate
  pub periods : List Period
  pub commission_taxes : List CommissionTax

abbrev pub plan_keys : List (List ℕ)
plan_keys =
    codes "currency" ∷ codes "review_days" ∷ codes "documents_limit" ∷ codes "airline" ∷ codes "rate" ∷ codes "period"
    ∷ codes "commission_tax" ∷ []

abbrev pub plan_in : Members → Option PlanData
plan_in members =
    if has_only plan_keys members
    then using (terms_in members) (λ terms.
    using (listed airline_of (get_member (codes "airline") members)) (λ airlines.
    using (listed rate_of (get_member (codes "rate") members)) (λ rates.
    using (listed period_of (get_member (codes "period") members)) (λ periods.
    using (listed tax_of (get_member (codes "commission_tax") members)) (λ taxes.
    Some (record { terms = terms; airlines = airlines; rates = rates; periods = periods; commission_taxes = taxes }))))))
    else None

-- the document of bytes that are one TOML text, which is UTF-8
abbrev pub document_of : List ℕ → Option Members
document_of text = if is_utf8 text then parse_document text else None

-- what a document says, or the fault of one that is none
abbrev pub plan_of : Option Members → Result PlanData PlanFault
plan_of None = Err NotToml
plan_of (Some members) = ok_or (plan_in members) WrongKey

-- what a text says, or its first fault
abbrev pub plan_reading : List ℕ → Result PlanData PlanFault
plan_reading text = plan_of (document_of text)

abbrev pub plan_data : PlanText → PlanData
plan_data plan = record {
  terms = plan.terms;
  airlines = plan.airlines.items;
  rates = plan.rates.items;
  periods = plan.periods.items;
  commission_taxes = plan.commission_taxes.items;
}

-- ---- the contracts

-- the answer is what is wanted, or want of memory
abbrev pub Reads : {A R : Type 0} → Result A PlanFault → (R → A) → Result R PlanFault → Type 0
Reads wanted value (Ok r) = wanted ≡ Ok (value r)
Reads wanted value (Err NoMemory) = ⊤
Reads wanted value (Err fault) = wanted ≡ Err fault
