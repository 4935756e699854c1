-- What a row of the fault table says of its record.
use Rattle.std.proofs.Common.{◌≡◌, ◌≢◌, ℕ, ◌+◌, Bool, true, false, not, ◌&&◌, ◌||◌, List, [], ◌∷◌, Option, Some, None, IfNone, Err, length, refl, ap, subst, ◌∙◌, inl, inr, arith}
use Rattle.std.specs.Prelude.{◌==◌}
use Rattle.std.proofs.lemmas.Bool.{cases_Bool, and_parts, and_right, not-false, eqb-true}
use Rattle.bsp_fields.specs.FirstFault.{first_fault_or}
use Rattle.bsp_fields.specs.Columns.{identifier, is_wide}
use Rattle.bsp_fields.specs.Fields.{spells}
use Rattle.bsp_ret_records.specs.Records.{transaction_number, is_header, is_production, header_fits, sale_fits, related_order, related_fits, amounts_fit, form_of, form_fits, trailer_fits}
use Rattle.bsp_ret.specs.declared.model.FaultCode.{FaultCode}
use Rattle.bsp_ret.specs.declared.model.FaultCode.TheVariants.{F01, F02, F03, F04, F05, F06, F07, F09}
use Rattle.bsp_ret.specs.declared.model.Standing.{Standing}
use Rattle.bsp_ret.specs.Table.{has_ended, is_start, is_complete, takes_related, comes_behind, takes_amounts, takes_form, has_counts, has_sum, header_table, transaction_table, trailer_table, later_table, record_table, row_fault}
use Rattle.bsp_ret.proofs.SaidLemmas.{ended_row, narrow_row}
use Rattle.bsp_explain.specs.declared.reason.Reason.{Reason}
use Rattle.bsp_explain.specs.RetReasons.{record_fits, may_be_second, is_reason_of, is_without}

-- a fault of a table is that of its first row, or of the others where the first does not apply
row_or : (test : Bool) (fault code : FaultCode) (rows : List (Bool × FaultCode)) (P : FaultCode → Bool) → (test ≡ true → P fault ≡ false) → (test ≡ false → first_fault_or {V = Unit {0}} rows tt ≡ Err code → P code ≡ false) → first_fault_or {V = Unit {0}} ((test, fault) ∷ rows) tt ≡ Err code → P code ≡ false
row_or true fault code rows P here others h = let e : code ≡ fault = cc in ap P e ∙ here refl
row_or false fault code rows P here others h = others refl h

no_row : (code : FaultCode) (P : FaultCode → Bool) → first_fault_or {V = Unit {0}} {F = FaultCode} [] tt ≡ Err code → P code ≡ false
no_row code P h = absurd (cc h)

-- what a row needs of what it is asked: that the record is wide, and what else it knows
abbrev Row : FaultCode → Standing → List ℕ → List (Bool × FaultCode) → Type 0
Row code at line rows =
    first_fault_or {V = Unit {0}} rows tt ≡ Err code → is_without code at line ≡ false

unset : (b : Bool) → not b ≡ true → b ≡ false
unset true h = absurd (cc h)
unset false h = refl

set : (b : Bool) → not b ≡ false → b ≡ true
set b h = not-false b h

-- of a field's row, in the tables of the header and of the other records
not_fit : (at : Standing) (line : List ℕ) (first : Bool) → is_wide line ≡ true → is_start at.last ≡ first → record_fits first line ≡ false → (not (is_wide line) || record_fits (is_start at.last) line) ≡ false
not_fit at line first wide is unfit = rw (wide, is, unfit) refl

not_form : (at : Standing) (line : List ℕ) (first : Bool) → is_wide line ≡ true → is_start at.last ≡ first → record_fits first line ≡ false → is_without F05 at line ≡ false
not_form at line first wide is unfit = rw (wide, is, unfit) refl

-- of a record 3, which may be the second of its group
not_behind : (at : Standing) (line : List ℕ) → is_wide line ≡ true → is_start at.last ≡ false → (identifier line == 51) ≡ true → is_without F05 at line ≡ false
not_behind at line wide later name = rw (wide, later, name) (and_right _ false refl)

not_header : (line : List ℕ) → is_header line ≡ false → record_fits true line ≡ false
not_header line h = rw h refl

not_production : (line : List ℕ) → is_production line ≡ false → record_fits true line ≡ false
not_production line h = elim (cases_Bool (is_header line)) [ inl a ↦ rw (a, h) refl | inr a ↦ rw a refl ]

not_header_fits : (line : List ℕ) → header_fits line ≡ false → record_fits true line ≡ false
not_header_fits line h = elim (cases_Bool (is_header line && is_production line)) [ inl a ↦ rw (a, h) refl | inr a ↦ rw a refl ]

header_row : (code : FaultCode) (at : Standing) (line : List ℕ) → is_wide line ≡ true → is_start at.last ≡ true → Row code at line (header_table line)
header_row code at line wide first =
    let P : FaultCode → Bool = λ k. is_without k at line in
    row_or (not (is_header line)) F02 code ((not (is_production line), F04) ∷ (not (header_fits line), F05) ∷ []) P
    (λ t. not_fit at line true wide first (not_header line (unset (is_header line) t)))
    (λ f. row_or (not (is_production line)) F04 code ((not (header_fits line), F05) ∷ []) P
    (λ t. not_fit at line true wide first (not_production line (unset (is_production line) t)))
    (λ g. row_or (not (header_fits line)) F05 code [] P
    (λ t. not_form at line true wide first (not_header_fits line (unset (header_fits line) t)))
    (λ k. no_row code P)))

transaction_row : (code : FaultCode) (at : Standing) (line : List ℕ) (allowed fits : Bool) (number : ℕ) → is_wide line ≡ true → (fits ≡ false → is_without F05 at line ≡ false) → Row code at line (transaction_table allowed number fits line)
transaction_row code at line allowed fits number wide unfit =
    let P : FaultCode → Bool = λ k. is_without k at line in
    row_or (not (allowed && spells number (transaction_number line))) F03 code ((not fits, F05) ∷ []) P
    (λ t. ap not wide)
    (λ f. row_or (not fits) F05 code [] P
    (λ t. unfit (unset fits t))
    (λ k. no_row code P))

-- a record of that test
tested : (at : Standing) (line : List ℕ) (fits : Bool) → is_wide line ≡ true → is_start at.last ≡ false → record_fits false line ≡ fits → fits ≡ false → is_without F05 at line ≡ false
tested at line fits wide later is unfit = not_form at line false wide later (is ∙ unfit)

no_counts : (at : Standing) (line : List ℕ) → is_wide line ≡ true → trailer_fits line ≡ true → has_counts at line ≡ false → is_without F06 at line ≡ false
no_counts at line wide fits other = rw (wide, fits) other

no_sum : (at : Standing) (line : List ℕ) → is_wide line ≡ true → trailer_fits line ≡ true → has_sum at line ≡ false → is_without F07 at line ≡ false
no_sum at line wide fits other = rw (wide, fits) other

trailer_row : (code : FaultCode) (at : Standing) (line : List ℕ) → is_wide line ≡ true → is_start at.last ≡ false → ((identifier line == 90) ≡ true → record_fits false line ≡ trailer_fits line) → Row code at line (trailer_table at line)
trailer_row code at line wide later is =
    let P : FaultCode → Bool = λ k. is_without k at line in
    let complete = is_complete at.last at.code at.related in
    row_or (not ((identifier line == 90) && complete)) F03 code ((not (trailer_fits line), F05) ∷ (not (has_counts at line), F06) ∷ (not (has_sum at line), F07) ∷ []) P
    (λ t. ap not wide)
    (λ f. let named = (and_parts (identifier line == 90) complete (set ((identifier line == 90) && complete) f)).0 in
    row_or (not (trailer_fits line)) F05 code ((not (has_counts at line), F06) ∷ (not (has_sum at line), F07) ∷ []) P
    (λ t. not_form at line false wide later (is named ∙ unset (trailer_fits line) t))
    (λ g. row_or (not (has_counts at line)) F06 code ((not (has_sum at line), F07) ∷ []) P
    (λ t. no_counts at line wide (set (trailer_fits line) g) (unset (has_counts at line) t))
    (λ k. row_or (not (has_sum at line)) F07 code [] P
    (λ t. no_sum at line wide (set (trailer_fits line) g) (unset (has_sum at line) t))
    (λ j. no_row code P))))

later_row : (code : FaultCode) (at : Standing) (line : List ℕ) → is_wide line ≡ true → is_start at.last ≡ false → Row code at line (later_table at line)
later_row code at line wide later =
    elim (cases_Bool (identifier line == 50)) [
      | inl a ↦ rw a (transaction_row code at line (is_complete at.last at.code at.related) (sale_fits line) (at.transactions + 1) wide (tested at line (sale_fits line) wide later (rw a refl)))
      | inr a ↦ elim (cases_Bool (identifier line == 51)) [
        | inl b ↦ rw (a, b) (transaction_row code at line (takes_related at.last at.code at.profile at.only) (related_fits line && comes_behind at.only (related_order line)) at.transactions wide (λ unfit. not_behind at line wide later b))
        | inr b ↦ elim (cases_Bool (identifier line == 53)) [
          | inl d ↦ rw (a, b, d) (transaction_row code at line (takes_amounts at.last at.code) (amounts_fit line) at.transactions wide (tested at line (amounts_fit line) wide later (rw (a, b, d) refl)))
          | inr d ↦ elim (cases_Bool (identifier line == 56)) [
            | inl e ↦ rw (a, b, d, e) (transaction_row code at line (takes_form at.last at.code at.related (form_of line)) (form_fits line) at.transactions wide (tested at line (form_fits line) wide later (rw (a, b, d, e) refl)))
            | inr e ↦ rw (a, b, d, e) (trailer_row code at line wide later (λ z. rw (a, b, d, e, z) refl))
          ]
        ]
      ]
    ]

table_row : (code : FaultCode) (at : Standing) (line : List ℕ) → is_wide line ≡ true → Row code at line (record_table at line)
table_row code at line wide =
    elim (cases_Bool (is_start at.last)) [
      | inl start ↦ rw start (header_row code at line wide start)
      | inr later ↦ rw later (later_row code at line wide later)
    ]

-- a line to which a row applies is at fault in that row
pub row_is : (code : FaultCode) (at : Standing) (line : List ℕ) → row_fault at line ≡ Err code → is_without code at line ≡ false
unfolding row_fault
row_is code at line =
    let P : FaultCode → Bool = λ k. is_without k at line in
    row_or (has_ended at.last) F09 code ((not (is_wide line), F01) ∷ record_table at line) P
    (λ t. refl)
    (λ f. row_or (not (is_wide line)) F01 code (record_table at line) P
    (λ t. unset (is_wide line) t)
    (λ g. table_row code at line (set (is_wide line) g)))

-- ---- a line of another width

not_wide : (line : List ℕ) → length line ≢ 136 → is_wide line ≡ false
unfolding is_wide
not_wide line other = let narrow : (length line == 136) ≡ false = grind arith in rw narrow refl

-- is at fault in the row of its width, or else after a trailer
pub narrow_row_is : (at : Standing) (line : List ℕ) (code : FaultCode) (r : Reason) → length line ≢ 136 → row_fault at line ≡ Err code → code ≢ F09 → is_reason_of F01 r ≡ true → is_reason_of code r ≡ true
narrow_row_is at line code r other fault goes_on reason =
    elim (cases_Bool (has_ended at.last)) [
      | inl ended ↦ let row = ended_row at line ended in absurd (goes_on (cc (row, fault)))
      | inr open_end ↦ let row = narrow_row at line open_end (not_wide line other) in let is : F01 ≡ code = cc (row, fault) in subst (λ (k : FaultCode). is_reason_of k r ≡ true) is reason
    ]

-- has no fault of a record of the right width
pub narrow_or : (line : List ℕ) (x : Bool) → length line ≢ 136 → (not (is_wide line) || x) ≡ true
narrow_or line x other = rw (not_wide line other) refl

pub narrow_or-two : (line : List ℕ) (x y : Bool) → length line ≢ 136 → (not (is_wide line) || x || y) ≡ true
narrow_or-two line x y other = rw (not_wide line other) refl

pub narrow_not : (line : List ℕ) → length line ≢ 136 → not (is_wide line) ≡ true
narrow_not line other = rw (not_wide line other) refl

or_second : (a b : Bool) → b ≡ true → (a || b) ≡ true
or_second true b h = refl
or_second false b h = h

-- a trailer whose fields do not fit has no other fault
pub unfit_or : (a b line_fits : Bool) → line_fits ≡ false → (a || not line_fits || b) ≡ true
unfit_or true b line_fits h = refl
unfit_or false b line_fits h = rw h refl

-- a record 3 whose fields fit
pub second_fits : (first : Bool) (line : List ℕ) → record_fits first line ≡ true → may_be_second first line ≡ true → (identifier line ≡ 51) × (related_fits line ≡ true)
second_fits true line fit second = absurd (cc second)
second_fits false line fit second = let name = eqb-true (identifier line) 51 second in (name, rw name at fit)

-- a record whose fields fit, and that is no record 3
pub form_passed : (narrow fit second : Bool) → fit ≡ true → second ≡ false → (narrow || (fit && not second)) ≡ true
form_passed narrow fit second passes other = or_second narrow (fit && not second) (rw (passes, other) refl)

-- where nothing is found, a test holds, and so with another test before it
pub none_or : (found : Option Reason) (a b : Bool) → IfNone found (b ≡ true) → IfNone found ((a || b) ≡ true)
none_or None a b h = or_second a b h
none_or (Some r) a b h = tt
