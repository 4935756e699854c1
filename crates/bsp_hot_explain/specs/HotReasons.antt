-- What a reason says of a record of a HOT file.
use Rattle.std.specs.Prelude.{◌≡◌, ◌≢◌, ℕ, ◌+◌, ◌&&◌, Bool, true, false, List, [], ◌∷◌, length, codes, nat_lt, Option, Some, None, IsSome, if◌then◌else◌}
use Rattle.std.specs.Str.{bytes_eq}
use Rattle.bsp_fields.specs.Columns.{columns}
use Rattle.bsp_fields.specs.Fields.{spells}
use Rattle.bsp_hot_records.specs.declared.form.FileForm.{FileForm}
use Rattle.bsp_hot_records.specs.declared.name.RecordName.{RecordName}
use Rattle.bsp_hot_records.specs.declared.model.Record.{Record}
use Rattle.bsp_hot_records.specs.Records.{letters, name_of, fields_fit}
use Rattle.bsp_hot_records.specs.Reading.{judged_at}
use Rattle.bsp_hot_check.specs.declared.model.Standing.{Standing}
use Rattle.bsp_hot_check.specs.Standings.{form_at}
use Rattle.bsp_hot_check.specs.Judging.{step_line}
use Rattle.bsp_explain.specs.declared.reason.Reason.{Reason}
use Rattle.bsp_explain.specs.declared.reason.Reason.TheVariants as form_reason
use Rattle.bsp_explain.specs.Fields.{first_unfit, IsAtFault}
use Rattle.bsp_explain.specs.Reasons.{SaysOfWidth}
use Rattle.bsp_hot_explain.specs.declared.reason.HotReason.{HotReason}
use Rattle.bsp_hot_explain.specs.declared.reason.HotReason.TheVariants as reason
use Rattle.bsp_hot_explain.specs.HotFields.{hot_fields}
use Rattle.bsp_hot_explain.specs.Comparisons.{comparisons, first_differing, is_in_place, is_in_order}

-- a record of a file of this form whose digits are those of the name has its letters, and its fields fit
abbrev pub named_fits : FileForm → RecordName → List ℕ → Bool
named_fits form name line = bytes_eq (columns 1 3 line) (letters name) && fields_fit form name line

abbrev pub SaysOfNamed : FileForm → RecordName → List ℕ → HotReason → Type 0
SaysOfNamed form name line reason.NameLetters = bytes_eq (columns 1 3 line) (letters name) ≡ false
SaysOfNamed form name line (reason.Form (form_reason.Unfit f)) = IsAtFault line f × (first_unfit line (hot_fields form name line) ≡ Some f)
SaysOfNamed form name line _ = ⊥

-- the same, of a record with some name
abbrev pub SaysOfNameable : FileForm → Option RecordName → List ℕ → HotReason → Type 0
SaysOfNameable form None line reason = ⊥
SaysOfNameable form (Some name) line reason = SaysOfNamed form name line reason

-- of the form of a line of a file of this form
abbrev pub SaysOfForm : FileForm → List ℕ → Reason → Type 0
SaysOfForm form line (form_reason.Width width cause) = SaysOfWidth line (form_reason.Width width cause)
SaysOfForm form line (form_reason.Character column c cause) = SaysOfWidth line (form_reason.Character column c cause)
SaysOfForm form line (form_reason.Unfit f) = SaysOfNameable form (name_of (columns 12 13 line)) line (reason.Form (form_reason.Unfit f))
SaysOfForm form line _ = ⊥

-- what a reason says of record number n of a file of this form, whatever the lines before it
abbrev pub SaysOfRecord : FileForm → ℕ → List ℕ → HotReason → Type 0
SaysOfRecord form n line (reason.Form r) = SaysOfForm form line r
SaysOfRecord form n line (reason.Sequence stated next) =
    (next ≡ n) × (stated ≡ columns 4 11 line) × (spells n (columns 4 11 line) ≡ false)
SaysOfRecord form n line reason.NameDigits = name_of (columns 12 13 line) ≡ None
SaysOfRecord form n line reason.NameLetters = SaysOfNameable form (name_of (columns 12 13 line)) line reason.NameLetters
SaysOfRecord form n line _ = ⊥

-- what a reason says of a record after those before it
abbrev pub SaysOfStep : Standing → Record → HotReason → Type 0
SaysOfStep at r (reason.Place expected) = is_in_place at r ≡ false
SaysOfStep at r (reason.Differs c) = (is_in_place at r ≡ true) × (first_differing (comparisons at r) ≡ Some c)
SaysOfStep at r (reason.Order disorder) = (is_in_place at r ≡ true) × (first_differing (comparisons at r) ≡ None) × (is_in_order at r ≡ false)
SaysOfStep at r _ = ⊥

-- the line is a record of which the reason is true
abbrev pub SaysOfRead : Standing → List ℕ → HotReason → Type 0
SaysOfRead at line why = (r : Record) × (judged_at (form_at at.heading) (at.records + 1) line ≡ Some r) × SaysOfStep at r why

-- what a reason says of a line after the records before it
abbrev pub SaysOfHot : Standing → List ℕ → HotReason → Type 0
SaysOfHot at line (reason.Place expected) = SaysOfRead at line (reason.Place expected)
SaysOfHot at line (reason.Differs c) = SaysOfRead at line (reason.Differs c)
SaysOfHot at line (reason.Order disorder) = SaysOfRead at line (reason.Order disorder)
SaysOfHot at line (reason.Short width shortness) = (length line ≡ width) × (width ≢ 136)
SaysOfHot at line (reason.Foreign kind) = (at.records ≡ 0) × (bytes_eq (columns 1 3 line) (codes "BFH") ≡ false) × (step_line at line ≡ None)
SaysOfHot at line reason.NotFound = IsSome (step_line at line)
SaysOfHot at line why = SaysOfRecord (form_at at.heading) (at.records + 1) line why

-- the name whose digits and letters a line has
abbrev pub with_letters : Option RecordName → List ℕ → Option RecordName
with_letters None line = None
with_letters (Some name) line = if bytes_eq (columns 1 3 line) (letters name) then Some name else None

unfoldable pub record_name : List ℕ → Option RecordName
record_name line = if nat_lt (length line) 13 then None else with_letters (name_of (columns 12 13 line)) line
