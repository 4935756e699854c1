-- What no row of the fault table applies to, by the record.
use Rattle.std.proofs.Common.{◌≡◌, ℕ, ℤ, ◌+◌, ◌==◌, Bool, true, false, ◌&&◌, not, List, [], ◌∷◌, Option, Result, Ok, Err, refl, inl, inr, eqb-true}
use Rattle.std.proofs.lemmas.Bool.{cases_Bool, and_parts, not-false}
use Rattle.std.proofs.lemmas.Bool.Decides.{Decides-int_eq}
use Rattle.bsp_fields.specs.FirstFault.{first_fault_or}
use Rattle.bsp_fields.specs.Zoned.{zoned_reading}
use Rattle.bsp_fields.specs.declared.fault.FieldFault.{FieldFault}
use Rattle.bsp_fields.proofs.FirstFaultLemmas.{row_passed}
use Rattle.bsp_ret_records.specs.declared.codes.FormOfPayment.{FormOfPayment}
use Rattle.bsp_ret_records.specs.declared.codes.Profile.{Profile}
use Rattle.bsp_ret_records.specs.declared.codes.TransactionCode.{TransactionCode}
use Rattle.bsp_ret.specs.declared.model.LastRecord.{LastRecord}
use Rattle.bsp_ret.specs.declared.model.LastRecord.TheVariants as last
use Rattle.bsp_ret.specs.declared.model.Standing.{Standing}
use Rattle.bsp_ret.specs.declared.model.FaultCode.{FaultCode}
use Rattle.bsp_ret.specs.declared.model.FaultCode.TheVariants.{F01, F02, F03, F04, F05, F06, F07, F09}
use Rattle.bsp_fields.specs.Columns.{identifier, is_wide}
use Rattle.bsp_fields.specs.Fields.{spells}
use Rattle.bsp_ret_records.specs.Records.{transaction_number, record_count, transaction_count, total, is_header, is_production, header_fits, sale_fits, related_order, related_fits, amounts_fit, form_of, form_fits, trailer_fits}
use Rattle.bsp_ret.specs.Table.{has_ended, is_start, is_complete, takes_related, comes_behind, takes_amounts, takes_form, has_value, has_counts, has_sum, header_table, trailer_table, later_table, record_table, row_fault}
use Rattle.bsp_ret.specs.Ret.{IsHeader, IsRecord, IsTrailer}

-- a record without fault behind lines that stand so
pub data Clean (at : Standing) (line : List ℕ) : Type 0 where
  clean_header : is_start at.last ≡ true → IsHeader line → Clean at line
  clean_sale : is_complete at.last at.code at.related ≡ true → IsRecord 50 (at.transactions + 1) sale_fits line → Clean at line
  clean_related : takes_related at.last at.code at.profile at.only ≡ true → IsRecord 51 at.transactions related_fits line → comes_behind at.only (related_order line) ≡ true → Clean at line
  clean_amounts : takes_amounts at.last at.code ≡ true → IsRecord 53 at.transactions amounts_fit line → Clean at line
  clean_form : takes_form at.last at.code at.related (form_of line) ≡ true → IsRecord 56 at.transactions form_fits line → Clean at line
  clean_trailer : is_complete at.last at.code at.related ≡ true → IsTrailer (at.records + 1) at.transactions at.sum line → Clean at line

-- ---- a place where a later record may stand is neither the start nor the end

abbrev IsLater : LastRecord → Type 0
IsLater l = (has_ended l ≡ false) × (is_start l ≡ false)

start_goes_on : (l : LastRecord) → is_start l ≡ true → has_ended l ≡ false
start_goes_on last.Trailer h = absurd cc
start_goes_on last.Start h = refl
start_goes_on _ h = refl

complete_later : (l : LastRecord) (code : TransactionCode) (related : Bool) → is_complete l code related ≡ true → IsLater l
complete_later last.Trailer code related h = absurd cc
complete_later last.Start code related h = absurd cc
complete_later _ code related h = (refl, refl)

related_later : (l : LastRecord) (code : TransactionCode) (profile : Profile) (only : Option ℕ) → takes_related l code profile only ≡ true → IsLater l
related_later last.Trailer code profile only h = absurd cc
related_later last.Start code profile only h = absurd cc
related_later _ code profile only h = (refl, refl)

amounts_later : (l : LastRecord) (code : TransactionCode) → takes_amounts l code ≡ true → IsLater l
amounts_later last.Trailer code h = absurd cc
amounts_later last.Start code h = absurd cc
amounts_later _ code h = (refl, refl)

form_later : (l : LastRecord) (code : TransactionCode) (related : Bool) (form : Option FormOfPayment) → takes_form l code related form ≡ true → IsLater l
form_later last.Trailer code related form h = absurd cc
form_later last.Start code related form h = absurd cc
form_later _ code related form h = (refl, refl)

-- ---- no row applies

has_value_of : (v : ℤ) (r : Result ℤ FieldFault) → r ≡ Ok v → has_value v r ≡ true
has_value_of v r h = rw h ((Decides-int_eq v v).1 refl)

value_of : (v : ℤ) (r : Result ℤ FieldFault) → has_value v r ≡ true → r ≡ Ok v
value_of v (Ok w) h = let e = (Decides-int_eq w v).0 h in cc
value_of v (Err fault) h = absurd cc

pub no_row : (at : Standing) (line : List ℕ) → Clean at line → row_fault at line ≡ Ok tt
unfolding row_fault
no_row at line (clean_header p h) = rw (start_goes_on at.last p, h.wide, p, h.begins, h.production, h.fields) refl
no_row at line (clean_sale p h) =
    let q = complete_later at.last at.code at.related p in
    rw (q.0, h.wide, q.1, h.name, p, h.number, h.fields) refl
no_row at line (clean_related p h behind) =
    let q = related_later at.last at.code at.profile at.only p in
    rw (q.0, h.wide, q.1, h.name, p, h.number, h.fields, behind) refl
no_row at line (clean_amounts p h) =
    let q = amounts_later at.last at.code p in
    rw (q.0, h.wide, q.1, h.name, p, h.number, h.fields) refl
no_row at line (clean_form p h) =
    let q = form_later at.last at.code at.related (form_of line) p in
    rw (q.0, h.wide, q.1, h.name, p, h.number, h.fields) refl
no_row at line (clean_trailer p h) =
    let q = complete_later at.last at.code at.related p in
    let s = has_value_of at.sum (zoned_reading 15 (total line)) h.sum_is in
    rw (q.0, h.wide, q.1, h.name, p, h.fields, h.records_are, h.transactions_are, s) refl

-- ---- and where no row applies

-- no row of these applies
abbrev Pass : List (Bool × FaultCode) → Type 0
Pass rows = first_fault_or {V = Unit {0}} rows tt ≡ Ok tt

-- a row that says what must hold
kept : (test : Bool) (code : FaultCode) (rows : List (Bool × FaultCode)) → Pass ((not test, code) ∷ rows) → (test ≡ true) × Pass rows
kept test code rows h = let a = row_passed (not test) code rows tt tt h in (not-false test a.0, a.1)

by_header_table : (at : Standing) (line : List ℕ) → is_start at.last ≡ true → is_wide line ≡ true → Pass (header_table line) → Clean at line
by_header_table at line p wide e =
    let a = kept (is_header line) F02 ((not (is_production line), F04) ∷ (not (header_fits line), F05) ∷ []) e in
    let b = kept (is_production line) F04 ((not (header_fits line), F05) ∷ []) a.1 in
    let c = kept (header_fits line) F05 [] b.1 in
    clean_header p (record { wide = wide; begins = a.0; production = b.0; fields = c.0 })

by_trailer : (at : Standing) (line : List ℕ) → is_wide line ≡ true → Pass (trailer_table at line) → Clean at line
by_trailer at line wide e =
    let rows = (not (has_counts at line), F06) ∷ (not (has_sum at line), F07) ∷ [] in
    let a = kept ((identifier line == 90) && is_complete at.last at.code at.related) F03 ((not (trailer_fits line), F05) ∷ rows) e in
    let b = kept (trailer_fits line) F05 rows a.1 in
    let c = kept (has_counts at line) F06 ((not (has_sum at line), F07) ∷ []) b.1 in
    let d = kept (has_sum at line) F07 [] c.1 in
    let name = and_parts (identifier line == 90) (is_complete at.last at.code at.related) a.0 in
    let counts = and_parts (spells (at.records + 1) (record_count line)) (spells at.transactions (transaction_count line)) c.0 in
    let sum = value_of at.sum (zoned_reading 15 (total line)) d.0 in
    clean_trailer name.1 (record { wide = wide; name = eqb-true _ _ name.0; fields = b.0; records_are = counts.0; transactions_are = counts.1; sum_is = sum })

-- a record whose place and number are allowed, and whose fields fit
passed : (place number fits : Bool) → Pass ((not (place && number), F03) ∷ (not fits, F05) ∷ []) → (place ≡ true) × (number ≡ true) × (fits ≡ true)
passed place number fits e =
    let a = kept (place && number) F03 ((not fits, F05) ∷ []) e in
    let b = kept fits F05 [] a.1 in
    let c = and_parts place number a.0 in
    (c.0, c.1, b.0)

by_later_table : (at : Standing) (line : List ℕ) → is_wide line ≡ true → Pass (later_table at line) → Clean at line
by_later_table at line wide e =
    elim (cases_Bool (identifier line == 50)) [
      | inl k ↦
          let a = passed (is_complete at.last at.code at.related) (spells (at.transactions + 1) (transaction_number line)) (sale_fits line) (rw k at e) in
          clean_sale a.0 (record { wide = wide; name = eqb-true _ _ k; number = a.1; fields = a.2 })
      | inr k ↦ elim (cases_Bool (identifier line == 51)) [
        | inl r ↦
            let a = passed (takes_related at.last at.code at.profile at.only) (spells at.transactions (transaction_number line)) (related_fits line && comes_behind at.only (related_order line)) (rw (k, r) at e) in
            let b = and_parts (related_fits line) (comes_behind at.only (related_order line)) a.2 in
            clean_related a.0 (record { wide = wide; name = eqb-true _ _ r; number = a.1; fields = b.0 }) b.1
        | inr r ↦ elim (cases_Bool (identifier line == 53)) [
          | inl m ↦
              let a = passed (takes_amounts at.last at.code) (spells at.transactions (transaction_number line)) (amounts_fit line) (rw (k, r, m) at e) in
              clean_amounts a.0 (record { wide = wide; name = eqb-true _ _ m; number = a.1; fields = a.2 })
          | inr m ↦ elim (cases_Bool (identifier line == 56)) [
            | inl n ↦
                let a = passed (takes_form at.last at.code at.related (form_of line)) (spells at.transactions (transaction_number line)) (form_fits line) (rw (k, r, m, n) at e) in
                clean_form a.0 (record { wide = wide; name = eqb-true _ _ n; number = a.1; fields = a.2 })
            | inr n ↦ by_trailer at line wide (rw (k, r, m, n) at e)
          ]
        ]
      ]
    ]

pub clean : (at : Standing) (line : List ℕ) → row_fault at line ≡ Ok tt → Clean at line
unfolding row_fault
clean at line e =
    let a = row_passed (has_ended at.last) F09 ((not (is_wide line), F01) ∷ record_table at line) tt tt e in
    let b = kept (is_wide line) F01 (record_table at line) a.1 in
    elim (cases_Bool (is_start at.last)) [
      | inl p ↦ by_header_table at line p b.0 (rw p at b.1)
      | inr p ↦ by_later_table at line b.0 (rw p at b.1)
    ]
