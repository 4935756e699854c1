-- The line of a body.
use Rattle.std.specs.Prelude.{ℕ, List, ◌++◌, codes, Option, Some, None}
use Rattle.std.specs.Fmt.{decimal}
use Rattle.bsp_ret.specs.Texts.{fault_text}
use Rattle.bsp_ret.specs.declared.model.RetFault.{RetFault}
use Rattle.bsp_calendar.specs.Faults.{code_text}
use Rattle.bsp_body_faults.specs.declared.fault.BodyFault.{BodyFault}
use Rattle.bsp_body_faults.specs.declared.fault.BodyFault.TheVariants as fault

-- the line of a RET file's fault
abbrev pub ret_line : RetFault → List ℕ
ret_line first = fault_text first.code ++ codes " record " ++ decimal first.at ++ codes "\n"

-- a text and the end of its line
abbrev pub ended : List ℕ → List ℕ
ended text = text ++ codes "\n"

-- the line of a body with this fault, or with none
abbrev pub line_text : Option BodyFault → List ℕ
line_text None = ended (codes "OK")
line_text (Some (fault.Json cause)) = ended (codes "N04")
line_text (Some (fault.Ret first)) = ret_line first
line_text (Some (fault.Plan first)) = ended (code_text first)
