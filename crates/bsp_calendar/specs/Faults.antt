-- The codes of the plan's faults.
use Rattle.std.specs.Prelude.{ℕ, List, codes}
use Rattle.bsp_calendar.specs.declared.fault.PlanFault.{PlanFault}
use Rattle.bsp_calendar.specs.declared.fault.PlanFault.TheVariants.{NotToml, WrongKey, Differs, OutOfOrder, LateRate, DayBackwards, NotEarliest, NotOver, NoMemory}

abbrev pub code_text : PlanFault → List ℕ
code_text NotToml = codes "P01"
code_text WrongKey = codes "P02"
code_text OutOfOrder = codes "P03"
code_text DayBackwards = codes "P04"
code_text LateRate = codes "P05"
code_text NotEarliest = codes "P06"
code_text NotOver = codes "P07"
code_text Differs = codes "P08"
code_text NoMemory = codes "P09"
