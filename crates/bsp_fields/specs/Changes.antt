-- What an accepted request did.
use Rattle.std.specs.Prelude.{Bool, if◌then◌else◌}
use Rattle.bsp_fields.specs.declared.change.Change.{Change}
use Rattle.bsp_fields.specs.declared.change.Change.TheVariants.{Done, Held}

abbrev pub change_of : Bool → Change
change_of held = if held then Held else Done
