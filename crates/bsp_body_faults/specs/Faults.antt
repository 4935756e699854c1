-- Which fault a body has.
use Rattle.std.specs.Prelude.{◌≡◌, ℕ, List, Bool, true, false, Option, Some, None, Result, Ok, Err}
use Rattle.bsp_fields.specs.Lines.{lines}
use Rattle.bsp_ret.specs.Ret.{File, Ret}
use Rattle.bsp_ret.specs.Table.{first_fault}
use Rattle.bsp_calendar.specs.PlanDocument.{PlanData, plan_reading}
use Rattle.bsp_fields.specs.declared.money.NoRoom.{NoRoom}
use Rattle.bsp_messages.specs.declared.fault.BodyFault.{BodyFault as ReadFault}
use Rattle.bsp_messages.specs.declared.fault.BodyFault.TheVariants.{Malformed, NoRoom as Unread}
use Rattle.bsp_body_faults.specs.declared.fault.BodyFault.{BodyFault}
use Rattle.bsp_body_faults.specs.declared.fault.BodyFault.TheVariants as fault
use Rattle.bsp_body_faults.specs.declared.form.JsonForm.{JsonForm}
use Rattle.bsp_body_faults.specs.declared.form.BodyForm.{BodyForm}
use Rattle.bsp_body_faults.specs.declared.form.BodyForm.TheVariants as form
use Rattle.bsp_body_faults.specs.Forms.{is_json_body}

-- a RET file has no fault; else it is the first
abbrev pub IsRetFault : List ℕ → Option BodyFault → Type 0
IsRetFault body None = (file : File) × Ret (lines body) file
IsRetFault body (Some (fault.Ret first)) = first_fault (lines body) ≡ Some first
IsRetFault body (Some other) = ⊥

-- a plan text says a plan, by itself; else it is the first fault
abbrev pub IsPlanFault : List ℕ → Option BodyFault → Type 0
IsPlanFault body None = (said : PlanData) × (plan_reading body ≡ Ok said)
IsPlanFault body (Some (fault.Plan first)) = plan_reading body ≡ Err first
IsPlanFault body (Some other) = ⊥

-- a JSON body has no fault if and only if it is one of the form
abbrev pub IsJsonFault : JsonForm → List ℕ → Option BodyFault → Type 0
IsJsonFault json body None = is_json_body json body ≡ true
IsJsonFault json body (Some (fault.Json cause)) = is_json_body json body ≡ false
IsJsonFault json body (Some other) = ⊥

-- the fault of a body of this form; a call without a body ignores what comes
abbrev pub IsFaultOf : BodyForm → List ℕ → Option BodyFault → Type 0
IsFaultOf form.NoBody body found = found ≡ None
IsFaultOf form.Ret body found = IsRetFault body found
IsFaultOf form.PlanText body found = IsPlanFault body found
IsFaultOf (form.Json json) body found = IsJsonFault json body found

-- what a reader answers, by whether it reads
abbrev pub Reads : {A : Type 0} → Result A ReadFault → Result Bool NoRoom → Type 0
Reads (Ok value) found = found ≡ Ok true
Reads (Err Malformed) found = found ≡ Ok false
Reads (Err Unread) found = (room : NoRoom) × (found ≡ Err room)
