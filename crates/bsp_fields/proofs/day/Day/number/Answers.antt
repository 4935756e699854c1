use Rattle.std.proofs.Common.{ℤ, pos, ◌≤ℤ◌, subst, sym, rules}
use Rattle.std.specs.Prelude.{IsTrue}
use Rattle.bsp_fields.specs.CivilDay.{CivilDay, is_day}
use Rattle.bsp_fields.specs.Days.{day_number}
use Rattle.bsp_fields.proofs.DayLemmas.{number_bounds}
use Rattle.bsp_fields.proofs.day.Day.number.Goals as goal

pub returns-clause-value : goal.returns-clause-value
returns-clause-value c = search rules

bounds : (c : goal.After-to_unix_epoch_day) → (pos 10_957 ≤ℤ day_number c.args.self) × (day_number c.args.self ≤ℤ pos 47_481)
bounds c =
    let IsDay : CivilDay → Type 0 = λ d. IsTrue (is_day d) in
    number_bounds c.args.self (subst IsDay c.self.view_is c.self.invariant)

pub returns-clause-from : goal.returns-clause-from
returns-clause-from c =
    let IsAbove : ℤ → Type 0 = λ z. pos 10_957 ≤ℤ z in subst IsAbove (sym (returns-clause-value c)) (bounds c).0

pub returns-clause-to : goal.returns-clause-to
returns-clause-to c =
    let IsBelow : ℤ → Type 0 = λ z. z ≤ℤ pos 47_481 in subst IsBelow (sym (returns-clause-value c)) (bounds c).1

pub returns-clause-civil : goal.returns-clause-civil
returns-clause-civil c = let IsDay : CivilDay → Type 0 = λ d. IsTrue (is_day d) in subst IsDay c.self.view_is c.self.invariant
