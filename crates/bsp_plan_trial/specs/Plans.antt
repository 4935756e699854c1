-- What plan texts make of a plan.
use Rattle.std.specs.Prelude.{◌≡◌, ◌⊎◌, ℕ, List, length, map, Option, Some, None, Result, Ok, Err}
use Rattle.std.specs.Global.{Vec}
use Rattle.std.specs.List.{FoldsTo}
use Rattle.bsp_fields.specs.Changes.{change_of}
use Rattle.bsp_fields.specs.CivilDay.{CivilDay}
use Rattle.bsp_fields.specs.declared.change.Change.{Change}
use Rattle.bsp_calendar.specs.Faults.{code_text}
use Rattle.bsp_calendar.specs.PlanDocument.{plan_data, plan_reading}
use Rattle.bsp_calendar.specs.Published.{Published, opening}
use Rattle.bsp_calendar.specs.Requests.{extended, holds_already, on_day}
use Rattle.bsp_calendar.specs.declared.entries.PlanText.{PlanText}
use Rattle.bsp_calendar.specs.declared.fault.PlanFault.{PlanFault}
use Rattle.bsp_calendar.specs.declared.fault.PlanFault.TheVariants.{NoMemory}
use Rattle.bsp_plan_trial.specs.PlanLines.{plan_lines}
use Rattle.bsp_plan_trial.specs.Turns.{StopsAt}
use Rattle.bsp_plan_trial.specs.declared.plan_trial.PlanRefused.{PlanRefused}

abbrev pub text_of : Vec ℕ → List ℕ
text_of text = text.items

abbrev pub texts_of : List (Vec ℕ) → List (List ℕ)
texts_of = map text_of

-- the text says these entries, which the plan takes; and whether it had them all
pub record Takes (old : Published) (text : List ℕ) (new : Published) (change : Change) : Type 0 where
  pub entries : PlanText
  pub says : plan_reading text ≡ Ok (plan_data entries)
  pub takes : extended old entries ≡ Ok new
  pub change_is : change ≡ change_of (holds_already old entries)

-- this is the first fault of the text, by itself or over the plan
abbrev pub HasFault : Published → List ℕ → PlanFault → Type 0
HasFault old text fault =
    (plan_reading text ≡ Err fault) ⊎ ((entries : PlanText) × (plan_reading text ≡ Ok (plan_data entries)) × (extended old entries ≡ Err fault))

-- there was no memory, or this is the first fault
abbrev pub IsStopped : Published → List ℕ → PlanFault → Type 0
IsStopped old text NoMemory = Unit {0}
IsStopped old text fault = HasFault old text fault

-- the text is published, or it is not and the plan stays
abbrev pub IsTried : Published → List ℕ → Published → Result Change PlanFault → Type 0
IsTried old text new (Ok change) = Takes old text new change
IsTried old text new (Err fault) = IsStopped old text fault × (new ≡ old)

-- the text is published
abbrev pub IsPublished : Published → List ℕ → Published → Type 0
IsPublished old text new = (change : Change) × Takes old text new change

-- the code of a fault; none where there was no memory
abbrev pub code_of : PlanFault → Option (List ℕ)
code_of NoMemory = None
code_of fault = Some (code_text fault)

-- the plan on the business day, if one is given
abbrev pub IsOnDay : Option CivilDay → Published → Published → Type 0
IsOnDay None old new = new ≡ old
IsOnDay (Some day) old new = on_day old day ≡ Ok new

-- the texts are published on the opening day, and then the business day is set
pub record IsReady (texts : List (List ℕ)) (day : Option CivilDay) (plan : Published) : Type 0 where
  pub opened : Published
  pub published : FoldsTo IsPublished opening texts opened
  pub on_day : IsOnDay day opened plan

-- the texts before the place are published, and the one there is refused
abbrev pub IsRefusedBefore : List (List ℕ) → PlanRefused → Type 0
IsRefusedBefore texts refused = StopsAt IsPublished (λ plan text. IsStopped plan text refused.fault) opening texts refused.place

-- the text after them is refused on the business day
pub record IsRefusedThere (texts : List (List ℕ)) (day : Option CivilDay) (text : List ℕ) (refused : PlanRefused) : Type 0 where
  pub plan : Published
  pub ready : IsReady texts day plan
  pub place : refused.place ≡ length texts
  pub stopped : IsStopped plan text refused.fault

-- one of the texts published before is refused, or the text that is tried
abbrev pub IsRefused : List (List ℕ) → Option CivilDay → List ℕ → PlanRefused → Type 0
IsRefused texts day text refused = IsRefusedBefore texts refused ⊎ IsRefusedThere texts day text refused

-- the lines say what the text publishes
pub record IsReported (old : Published) (text lines : List ℕ) : Type 0 where
  pub new : Published
  pub change : Change
  pub takes : Takes old text new change
  pub lines_are : lines ≡ plan_lines change old new
