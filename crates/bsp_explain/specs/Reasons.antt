-- What a reason says of a record.
use Rattle.std.specs.Prelude.{◌≡◌, ◌≢◌, ℕ, ◌-◌, ◌≤◌, true, false, List, length, take, slice_index, Option, Some, None}
use Rattle.std.specs.List.{list_all}
use Rattle.bsp_fields.specs.Columns.{is_printable}
use Rattle.bsp_explain.specs.declared.reason.Reason.{Reason}
use Rattle.bsp_explain.specs.declared.reason.Reason.TheVariants as reason

-- the first character that is not printable is in this column
pub record IsUnprintable (line : List ℕ) (column character : ℕ) : Type 0 where
  pub wide : length line ≡ 136
  pub from : 1 ≤ column
  pub to : column ≤ 136
  pub is : slice_index line (column - 1) ≡ character
  pub unprintable : is_printable character ≡ false
  pub before : list_all is_printable (take (column - 1) line) ≡ true

abbrev pub SaysOfWidth : List ℕ → Reason → Type 0
SaysOfWidth line (reason.Width width cause) = (length line ≡ width) × (width ≢ 136)
SaysOfWidth line (reason.Character column character cause) = IsUnprintable line column character
SaysOfWidth line _ = ⊥

-- the first and the last column at fault
abbrev pub columns_of : Reason → Option (ℕ × ℕ)
columns_of (reason.Character column character cause) = Some (column, column)
columns_of (reason.Unfit f) = Some (f.first, f.last)
columns_of (reason.Identifier c) = Some (1, 1)
columns_of (reason.TransactionNumber n) = Some (2, 7)
columns_of (reason.Place c at) = Some (1, 1)
columns_of reason.RelatedOrder = Some (8, 20)
columns_of (reason.Payment form at) = Some (1, 9)
columns_of (reason.RecordCount stated counted) = Some (2, 8)
columns_of (reason.TransactionCount stated counted) = Some (9, 15)
columns_of (reason.Sum stated summed) = Some (16, 30)
columns_of _ = None
