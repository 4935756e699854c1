-- Fault codes as text.
use Rattle.std.specs.Prelude.{ℕ, List, codes}
use Rattle.bsp_ret.specs.declared.model.FaultCode.{FaultCode}
use Rattle.bsp_ret.specs.declared.model.FaultCode.TheVariants.{F01, F02, F03, F04, F05, F06, F07, F08, F09, F10}

abbrev pub fault_text : FaultCode → List ℕ
fault_text F01 = codes "F01"
fault_text F02 = codes "F02"
fault_text F03 = codes "F03"
fault_text F04 = codes "F04"
fault_text F05 = codes "F05"
fault_text F06 = codes "F06"
fault_text F07 = codes "F07"
fault_text F08 = codes "F08"
fault_text F09 = codes "F09"
fault_text F10 = codes "F10"
