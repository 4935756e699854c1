-- What makes a line a record of a HOT file, or none.
use Rattle.std.proofs.Common.{◌≡◌, ℕ, true, false, List, Some, None, refl, IsSome}
use Rattle.bsp_fields.specs.Columns.{columns, is_wide}
use Rattle.bsp_fields.specs.Fields.{spells}
use Rattle.bsp_hot_records.specs.declared.form.FileForm.{FileForm}
use Rattle.bsp_hot_records.specs.declared.name.RecordName.{RecordName}
use Rattle.bsp_hot_records.specs.Records.{name_of}
use Rattle.bsp_hot_records.specs.Reading.{record_at}
use Rattle.bsp_hot_explain.specs.HotReasons.{named_fits}

pub narrow_record : (form : FileForm) (n : ℕ) (line : List ℕ) → is_wide line ≡ false → record_at form n line ≡ None
unfolding record_at
narrow_record form n line narrow = rw narrow refl

pub other_number : (form : FileForm) (n : ℕ) (line : List ℕ) → is_wide line ≡ true → spells n (columns 4 11 line) ≡ false → record_at form n line ≡ None
unfolding record_at
other_number form n line wide other = rw (wide, other) refl

pub no_name : (form : FileForm) (n : ℕ) (line : List ℕ) → is_wide line ≡ true → spells n (columns 4 11 line) ≡ true → name_of (columns 12 13 line) ≡ None → record_at form n line ≡ None
unfolding record_at
no_name form n line wide number none = rw (wide, number, none) refl

pub unfit_record : (form : FileForm) (n : ℕ) (line : List ℕ) (name : RecordName) → is_wide line ≡ true → spells n (columns 4 11 line) ≡ true → name_of (columns 12 13 line) ≡ Some name → named_fits form name line ≡ false → record_at form n line ≡ None
unfolding record_at
unfit_record form n line name wide number named unfit = rw (wide, number, named, unfit) refl

pub fit_record : (form : FileForm) (n : ℕ) (line : List ℕ) (name : RecordName) → is_wide line ≡ true → spells n (columns 4 11 line) ≡ true → name_of (columns 12 13 line) ≡ Some name → named_fits form name line ≡ true → IsSome (record_at form n line)
unfolding record_at
fit_record form n line name wide number named fits = rw (wide, number, named, fits) refl
