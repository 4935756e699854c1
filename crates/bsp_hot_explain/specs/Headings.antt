-- What the first record of a HOT file says of it.
use Rattle.std.specs.Prelude.{ℕ, List, [], ◌∷◌, Option, Some, None}
use Rattle.bsp_hot_records.specs.declared.form.FileForm.TheVariants.{One}
use Rattle.bsp_hot_records.specs.declared.model.Heading.{Heading}
use Rattle.bsp_hot_records.specs.declared.model.Record.{Record}
use Rattle.bsp_hot_records.specs.declared.model.Record.TheVariants.{FileHeader}
use Rattle.bsp_hot_records.specs.Reading.{judged_at}

-- what a record says where it is BFH01
abbrev pub heading_said : Option Record → Option Heading
heading_said (Some (FileHeader h)) = Some h
heading_said _ = None

unfoldable pub heading_in : List (List ℕ) → Option Heading
heading_in [] = None
heading_in (line ∷ lines) = heading_said (judged_at One 1 line)
