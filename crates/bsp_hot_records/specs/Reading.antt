-- What a line says, as record number n of a file.
use Rattle.std.specs.Prelude.{ℕ, ◌&&◌, List, Option, Some, None, if◌then◌else◌}
use Rattle.std.specs.Option.{option_map}
use Rattle.std.specs.Str.{bytes_eq}
use Rattle.bsp_fields.specs.Columns.{columns, is_wide}
use Rattle.bsp_fields.specs.Fields.{spells}
use Rattle.bsp_hot_records.specs.declared.form.FileForm.{FileForm}
use Rattle.bsp_hot_records.specs.declared.name.RecordName.{RecordName}
use Rattle.bsp_hot_records.specs.declared.model.Record.{Record as JudgedRecord}
use Rattle.bsp_hot_records.specs.Records.{Record, letters, name_of, fields_fit, record_of}
use Rattle.bsp_hot_records.specs.Judged.{judged}

abbrev pub named_record : FileForm → Option RecordName → List ℕ → Option Record
named_record form None line = None
named_record form (Some name) line =
    if bytes_eq (columns 1 3 line) (letters name) && fields_fit form name line then Some (record_of form name line) else None

-- the record of a file of this form
unfoldable pub record_at : FileForm → ℕ → List ℕ → Option Record
record_at form n line =
    if is_wide line && spells n (columns 4 11 line) then named_record form (name_of (columns 12 13 line)) line else None

abbrev pub judged_at : FileForm → ℕ → List ℕ → Option JudgedRecord
judged_at form n line = option_map judged (record_at form n line)

-- what a record with the name says that is judged, where its fields are in their form
abbrev pub judged_if : FileForm → RecordName → List ℕ → Option JudgedRecord
judged_if form name line = if fields_fit form name line then Some (judged (record_of form name line)) else None
