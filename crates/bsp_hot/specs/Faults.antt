-- The codes of faults.
use Rattle.std.specs.Prelude.{ℕ, List, codes}
use Rattle.bsp_hot.specs.declared.fault.HotFault.{HotFault}
use Rattle.bsp_hot.specs.declared.fault.HotFault.TheVariants.{TooWide, NotClosed, NoMemory}

abbrev pub code_text : HotFault → List ℕ
code_text TooWide = codes "H01"
code_text NotClosed = codes "H02"
code_text NoMemory = codes "H03"
