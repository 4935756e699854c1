-- How a connection ends.
use Rattle.std.specs.Prelude.{◌≡◌, ◌⊎◌}
use Rattle.bsp_connection.specs.declared.serving.End.{End}
use Rattle.bsp_connection.specs.declared.serving.End.TheVariants.{Clean, Cut}

-- the input ended
abbrev pub IsInputEnd : End → Type 0
IsInputEnd end = (end ≡ Clean) ⊎ (end ≡ Cut)
