-- What is judged of a line.
use Rattle.std.proofs.Common.{◌≡◌, ℕ, true, List, Some, refl, inl, inr}
use Rattle.std.specs.Str.{bytes_eq}
use Rattle.std.proofs.lemmas.Bool.{cases_Bool}
use Rattle.bsp_fields.specs.Columns.{columns, is_wide}
use Rattle.bsp_fields.specs.Fields.{spells}
use Rattle.bsp_hot_records.specs.declared.form.FileForm.{FileForm}
use Rattle.bsp_hot_records.specs.declared.name.RecordName.{RecordName}
use Rattle.bsp_hot_records.specs.Records.{letters, name_of, fields_fit}
use Rattle.bsp_hot_records.specs.Reading.{record_at, judged_at, judged_if}

-- what is judged of a line with the name
pub read_as_named : (form : FileForm) (n : ℕ) (line : List ℕ) (name : RecordName) → is_wide line ≡ true → spells n (columns 4 11 line) ≡ true → name_of (columns 12 13 line) ≡ Some name → bytes_eq (columns 1 3 line) (letters name) ≡ true → judged_if form name line ≡ judged_at form n line
unfolding record_at
read_as_named form n line name wide sequence digits letters_are =
    elim (cases_Bool (fields_fit form name line)) [
      | inl k ↦ rw (wide, sequence, digits, letters_are, k) refl
      | inr k ↦ rw (wide, sequence, digits, letters_are, k) refl
    ]
