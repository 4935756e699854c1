-- Lemmas on plan texts that are refused.
use Rattle.std.proofs.Common.{◌≡◌, refl}
use Rattle.std.specs.Prelude.{◌≢◌, Result, Err}
use Rattle.bsp_calendar.specs.PlanDocument.{PlanData, Reads, plan_data}
use Rattle.bsp_calendar.specs.declared.fault.PlanFault.{PlanFault}
use Rattle.bsp_calendar.specs.declared.fault.PlanFault.TheVariants.{NotToml, WrongKey, Differs, OutOfOrder, LateRate, DayBackwards, NotEarliest, NotOver, NoMemory}

-- a fault other than the want of memory is the text's own
pub own_fault : (wanted : Result PlanData PlanFault) (fault : PlanFault) → Reads wanted plan_data (Err fault) → fault ≢ NoMemory → wanted ≡ Err fault
own_fault wanted NoMemory reads differs = absurd (differs refl)
own_fault wanted NotToml reads differs = reads
own_fault wanted WrongKey reads differs = reads
own_fault wanted Differs reads differs = reads
own_fault wanted OutOfOrder reads differs = reads
own_fault wanted LateRate reads differs = reads
own_fault wanted DayBackwards reads differs = reads
own_fault wanted NotEarliest reads differs = reads
own_fault wanted NotOver reads differs = reads
