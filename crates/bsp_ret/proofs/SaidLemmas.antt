-- What a record says, by its identifier, and what the fault table says of it.
use Rattle.std.proofs.Common.{◌≡◌, ℕ, ℤ, pos, Bool, true, false, List, [], ◌∷◌, Result, Ok, Err, refl, sym, ap, ◌∙◌, inl, inr, eqb-true}
use Rattle.std.specs.Prelude.{◌==◌, not, is_some, unwrap_or, IfOk, IfErr}
use Rattle.std.proofs.lemmas.Bool.{cases_Bool, and_parts, not-false}
use Rattle.bsp_fields.proofs.FirstFaultLemmas.{row_passed}
use Rattle.bsp_fields.specs.FirstFault.{first_fault_or}
use Rattle.bsp_fields.specs.Columns.{identifier, is_wide}
use Rattle.bsp_ret_records.specs.declared.codes.Profile.TheVariants.{P001}
use Rattle.bsp_ret.specs.declared.model.FaultCode.{FaultCode}
use Rattle.bsp_ret.specs.declared.model.FaultCode.TheVariants.{F01, F02, F04, F05, F09}
use Rattle.bsp_ret.specs.declared.model.Record.{Record}
use Rattle.bsp_ret.specs.declared.model.Record.TheVariants as said
use Rattle.bsp_ret.specs.declared.model.Standing.{Standing}
use Rattle.bsp_ret_records.specs.Records.{profile_of, is_header, is_production, header_fits}
use Rattle.bsp_ret.specs.Said.{record_in}
use Rattle.bsp_ret.specs.Table.{paid, has_ended, header_table, trailer_table, later_table, record_table, row_fault}

-- what a record adds to the sum of the forms, from what it says
abbrev pub paid_by : Record → ℤ
paid_by (said.Form form amount) = amount
paid_by other = pos 0

pub paid_said : (line : List ℕ) → paid line ≡ paid_by (record_in line)
unfolding record_in
paid_said line =
    elim (cases_Bool (identifier line == 50)) [
      | inl k ↦ let name = eqb-true _ _ k in rw name refl
      | inr k ↦ elim (cases_Bool (identifier line == 51)) [
        | inl r ↦ let name = eqb-true _ _ r in rw name refl
        | inr r ↦ elim (cases_Bool (identifier line == 53)) [
          | inl m ↦ let name = eqb-true _ _ m in rw name refl
          | inr m ↦ elim (cases_Bool (identifier line == 56)) [
            | inl n ↦ let name = eqb-true _ _ n in rw name refl
            | inr n ↦ elim (cases_Bool (identifier line == 90)) [
              | inl z ↦ rw (k, r, m, n, z) refl
              | inr z ↦ rw (k, r, m, n, z) refl
            ]
          ]
        ]
      ]
    ]

-- a record of no kind is at fault as a trailer
pub trailer_says : (at : Standing) (line : List ℕ) → (identifier line == 50) ≡ false → (identifier line == 51) ≡ false → (identifier line == 53) ≡ false → (identifier line == 56) ≡ false
    → first_fault_or (trailer_table at line) said.Trailer ≡ first_fault_or (later_table at line) (record_in line)
unfolding record_in
trailer_says at line k r m n =
    elim (cases_Bool (identifier line == 90)) [
      | inl z ↦ rw (k, r, m, n, z) refl
      | inr z ↦ rw (k, r, m, n, z) refl
    ]

pub ended_row : (at : Standing) (line : List ℕ) → has_ended at.last ≡ true → row_fault at line ≡ Err F09
unfolding row_fault
ended_row at line ended = rw ended refl

pub narrow_row : (at : Standing) (line : List ℕ) → has_ended at.last ≡ false → is_wide line ≡ false → row_fault at line ≡ Err F01
unfolding row_fault
narrow_row at line goes_on narrow = rw (goes_on, narrow) refl

-- ---- a table gives a value or its first fault, whatever the value is

pub table_passed : {V W F : Type 0} (rows : List (Bool × F)) (value found : V) (other : W) → first_fault_or rows value ≡ Ok found → (first_fault_or rows other ≡ Ok other) × (found ≡ value)
table_passed [] value found other is = (refl, sym (cc is))
table_passed ((true, fault) ∷ rows) value found other is = absurd (cc is)
table_passed ((false, fault) ∷ rows) value found other is = table_passed rows value found other is

pub table_failed : {V W F : Type 0} (rows : List (Bool × F)) (value : V) (other : W) (fault : F) → first_fault_or rows value ≡ Err fault → first_fault_or rows other ≡ Err fault
table_failed [] value other fault is = absurd (cc is)
table_failed ((true, first) ∷ rows) value other fault is = cc is
table_failed ((false, first) ∷ rows) value other fault is = table_failed rows value other fault is

-- the rows of a record that has its width, where a file goes on
pub wide_row : (at : Standing) (line : List ℕ) → has_ended at.last ≡ false → is_wide line ≡ true → row_fault at line ≡ first_fault_or (record_table at line) tt
unfolding row_fault
wide_row at line goes_on wide = rw (goes_on, wide) refl

-- ---- the answer of a table says the row, and what the record says

pub row_ok : (at : Standing) (line : List ℕ) (rows : List (Bool × FaultCode)) (says : Record) (r : Result Record FaultCode) → has_ended at.last ≡ false → is_wide line ≡ true → record_table at line ≡ rows → r ≡ first_fault_or rows says → IfOk r (λ x. row_fault at line ≡ Ok tt)
row_ok at line rows says (Ok found) goes_on wide table is =
    wide_row at line goes_on wide ∙ ap (λ (xs : List (Bool × FaultCode)). first_fault_or xs tt) table ∙ (table_passed rows says found tt (sym is)).0
row_ok at line rows says (Err fault) goes_on wide table is = tt

pub row_err : (at : Standing) (line : List ℕ) (rows : List (Bool × FaultCode)) (says : Record) (r : Result Record FaultCode) → has_ended at.last ≡ false → is_wide line ≡ true → record_table at line ≡ rows → r ≡ first_fault_or rows says → IfErr r (λ code. row_fault at line ≡ Err code)
row_err at line rows says (Ok found) goes_on wide table is = tt
row_err at line rows says (Err fault) goes_on wide table is =
    wide_row at line goes_on wide ∙ ap (λ (xs : List (Bool × FaultCode)). first_fault_or xs tt) table ∙ table_failed rows says tt fault (sym is)

pub row_says : (line : List ℕ) (rows : List (Bool × FaultCode)) (says : Record) (r : Result Record FaultCode) → (first_fault_or {V = Unit {0}} rows tt ≡ Ok tt → says ≡ record_in line) → r ≡ first_fault_or rows says → IfOk r (λ x. x ≡ record_in line)
row_says line rows says (Ok found) so is = let passed = table_passed rows says found tt (sym is) in passed.1 ∙ so passed.0
row_says line rows says (Err fault) so is = tt

-- a header says that it is one
pub header_says : (line : List ℕ) → first_fault_or {V = Unit {0}} (header_table line) tt ≡ Ok tt → said.Header (unwrap_or (profile_of line) P001) ≡ record_in line
unfolding record_in is_header
header_says line e =
    let rest = (not (is_production line), F04) ∷ (not (header_fits line), F05) ∷ [] in
    let first = row_passed (not (is_header line)) F02 rest tt tt e in
    let name = eqb-true _ _ (and_parts (identifier line == 49) (is_some (profile_of line)) (not-false (is_header line) first.0)).0 in
    rw name refl
