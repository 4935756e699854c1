-- The values that are written for each entry.
use Rattle.std.specs.Prelude.{flat_map, List, map, ℕ}
use Rattle.sqlite_value.specs.declared.value.Value.TheVariants.{Int, Null, Text}
use Rattle.sqlite_value.specs.Order.{Row}
use Rattle.sqlite_value.specs.declared.value.Value.{Value}
use Rattle.bsp_rows.specs.Texts.{kind_text, state_text}
use Rattle.bsp_store_columns.specs.declared.cells.Cell.{Cell}
use Rattle.bsp_store_columns.specs.declared.cells.Cell.TheVariants.{Eight, Five, Four, Int as IntCell, Kind, Name, Null as NullCell, Reason, State, Taxes, Ten, Three, Token, Two}

abbrev pub cell : Cell → Value
cell NullCell = Null
cell (IntCell number) = Int number
cell (Two text) = Text text
cell (Three digits) = Text digits
cell (Four text) = Text text
cell (Five digits) = Text digits
cell (Eight digits) = Text digits
cell (Ten digits) = Text digits
cell (Name name) = Text name
cell (Taxes places) = Text (flat_map (λ x. x) places)
cell (Token token) = Text token
cell (Kind kind) = Text (kind_text kind)
cell (Reason reason) = Text reason
cell (State state) = Text (state_text state)

-- no table has more columns
abbrev pub widest : ℕ
widest = 32

-- a value for each column
abbrev pub written : List Cell → Row
written = map cell
