-- Lemmas on plan texts that are published.
use Rattle.std.proofs.Common.{◌≡◌, ℕ, List, [], ◌∷◌, inr, ap, refl, subst, sym, ◌∙◌, ℤ}
use Rattle.std.specs.Prelude.{Result, Ok, Err, false, pos, ◌≤ℤ◌}
use Rattle.std.specs.List.{FoldsTo}
use Rattle.jiff_core.specs.Calendar.{days_from_civil, day_count, days_of_years, days_of_months}
use Rattle.bsp_fields.specs.CivilDay.{CivilDay}
use Rattle.bsp_fields.specs.Days.{day_number}
use Rattle.bsp_fields.specs.declared.change.Change.{Change}
use Rattle.bsp_calendar.specs.PlanDocument.{plan_data, plan_reading}
use Rattle.bsp_calendar.specs.Published.{Published, opening}
use Rattle.bsp_calendar.specs.DayOrder.{is_before}
use Rattle.bsp_calendar.proofs.DayLemmas.{not_before_from}
use Rattle.bsp_calendar.proofs.OutcomeLemmas.{published}
use Rattle.bsp_calendar.specs.Requests.{AnswersOrLacksMemory, extended, holds_already, on_day}
use Rattle.bsp_calendar.specs.declared.entries.PlanText.{PlanText}
use Rattle.bsp_calendar.specs.declared.fault.PlanFault.{PlanFault}
use Rattle.bsp_calendar.specs.declared.fault.PlanFault.TheVariants.{NotToml, WrongKey, Differs, OutOfOrder, LateRate, DayBackwards, NotEarliest, NotOver, NoMemory}
use Rattle.bsp_plan_trial.specs.Plans.{IsPublished, IsTried}

-- a text that was read is tried over a plan
pub tried : (old : Published) (text : List ℕ) (entries : PlanText) (new : Published) (r : Result Change PlanFault) → plan_reading text ≡ Ok (plan_data entries) → AnswersOrLacksMemory (extended old entries) (holds_already old entries) old r new → IsTried old text new r
tried old text entries new (Ok change) says answers = record { entries = entries; says = says; takes = answers.0; change_is = answers.1 }
tried old text entries new (Err NoMemory) says answers = (tt, answers)
tried old text entries new (Err NotToml) says answers = (inr (entries, says, answers.0), answers.1)
tried old text entries new (Err WrongKey) says answers = (inr (entries, says, answers.0), answers.1)
tried old text entries new (Err Differs) says answers = (inr (entries, says, answers.0), answers.1)
tried old text entries new (Err OutOfOrder) says answers = (inr (entries, says, answers.0), answers.1)
tried old text entries new (Err LateRate) says answers = (inr (entries, says, answers.0), answers.1)
tried old text entries new (Err DayBackwards) says answers = (inr (entries, says, answers.0), answers.1)
tried old text entries new (Err NotEarliest) says answers = (inr (entries, says, answers.0), answers.1)
tried old text entries new (Err NotOver) says answers = (inr (entries, says, answers.0), answers.1)

-- texts that are published leave the business day
pub same_day_after : (start : Published) (texts : List (List ℕ)) (plan : Published) → FoldsTo IsPublished start texts plan → plan.day ≡ start.day
same_day_after start [] plan same = ap (λ (p : Published). p.day) (sym same)
same_day_after start (text ∷ texts) plan (next, (change, takes), rest) =
    same_day_after next texts plan rest ∙ ap (λ (p : Published). p.day) (sym (published start takes.entries next takes.takes).is)

-- no day is before the opening day
first_number : day_number opening.day ≡ pos 10_957
unfolding days_from_civil day_count days_of_years days_of_months
first_number = refl

pub never_backwards : (p : Published) (day : CivilDay) (fault : PlanFault) → pos 10_957 ≤ℤ day_number day → p.day ≡ opening.day → on_day p day ≡ Err fault → ⊥
never_backwards p day fault from at is =
    let first : day_number p.day ≡ pos 10_957 = ap day_number at ∙ first_number in
    let least : day_number p.day ≤ℤ day_number day = subst (λ (n : ℤ). n ≤ℤ day_number day) (sym first) from in
    let forwards : is_before day p.day ≡ false = not_before_from (day_number p.day) (day_number day) least in
    let taken : on_day p day ≡ Ok (record p { day = day }) = rw forwards refl in
    cc
