use Rattle.std.proofs.Common.{None, subst, sym}
use Rattle.bsp_rows.specs.Rows.{Rows}
use Rattle.bsp_rows.specs.Sound.{Sound}
use Rattle.bsp_book.specs.Listed.{meaning}
use Rattle.bsp_judge.specs.Steps.{rows_in}
use Rattle.bsp_judge.proofs.asking.post.Goals as goal

pub returns-in-Ok-clause-answered : goal.returns-in-Ok-clause-answered
returns-in-Ok-clause-answered c = λ own is.
    let rows = rows_in c.args.desk.now.book in
    let new = c.report.new.self.book in
    let kept = c.in-Ok.ensures.outcome.kept own is tt rows c.requires.sound c.requires.holds in
    record {
      says = c.in-Ok.ensures.outcome.answered own is tt rows c.requires.sound c.requires.holds;
      after = sym kept.1.rows;
      settled = record { sound = subst Sound kept.1.rows kept.0; holds = subst (λ (r : Rows). meaning.holds new r None) kept.1.rows kept.1 };
    }
