use Rattle.std.proofs.Common.{None, subst, sym}
use Rattle.bsp_rows.specs.Rows.{Rows}
use Rattle.bsp_rows.specs.Sound.{Sound}
use Rattle.bsp_rows.proofs.KeptLemmas.{no_rows_sound}
use Rattle.bsp_book.specs.Listed.{meaning}
use Rattle.bsp_judge.specs.Steps.{IsSettled}
use Rattle.bsp_judge.proofs.judging.new_desk.Goals as goal

pub returns-clause-settled : goal.returns-clause-settled
returns-clause-settled c =
    let book = c.new.result in
    let rows = c.new.ensures.rows in
    let settled : IsSettled book = record { sound = subst Sound rows no_rows_sound; holds = subst (λ (r : Rows). meaning.holds book r None) rows c.new.ensures } in
    subst IsSettled (sym c.in-Ok.ensures.opened.0) settled
