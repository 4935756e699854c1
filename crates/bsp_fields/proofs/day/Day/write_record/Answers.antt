use Rattle.std.proofs.Common.{◌≡◌, ℕ, List, Ok, sym, subst, rules}
use Rattle.std.specs.Prelude.{IsTrue}
use Rattle.bsp_fields.specs.CivilDay.{CivilDay, is_day}
use Rattle.bsp_fields.specs.Days.{record_reading}
use Rattle.bsp_fields.proofs.DayTextLemmas.{record_reading-text}
use Rattle.bsp_fields.proofs.day.Day.write_record.Goals as goal

pub returns-clause-text : goal.returns-clause-text
returns-clause-text c = search rules

pub returns-clause-reads_back : goal.returns-clause-reads_back
returns-clause-reads_back c =
    let IsDay : CivilDay → Type 0 = λ d. IsTrue (is_day d) in
    let ReadsBack : List ℕ → Type 0 = λ t. record_reading t ≡ Ok c.args.self in
    subst ReadsBack (sym (returns-clause-text c)) (record_reading-text c.args.self (subst IsDay c.self.view_is c.self.invariant))
