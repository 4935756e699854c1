use Rattle.std.proofs.Common.{List, Some, ap, map, sym, subst, ◌∙◌}
use Rattle.std.specs.Result.{result_ok}
use Rattle.bsp_statement.specs.Sides.{AreOnce}
use Rattle.bsp_statement.specs.declared.tally.Tally.{Tally}
use Rattle.bsp_rows.specs.Rows.{Rows}
use Rattle.bsp_desk.proofs.FewTallies.{airlines_once}
use Rattle.bsp_desk.proofs.PeriodSums.{period_says}
use Rattle.bsp_desk.proofs.Shown.{same_rows}
use Rattle.bsp_desk.proofs.periods.period.Goals as goal

pub returns-clause-served : goal.returns-clause-served
returns-clause-served g c = λ trust now last sound h.
    let code = c.in-Ok.code in
    let kept = c.in_ok-tallies.ensures.ok now (Some last) h in
    let tallies = c.deref.ensures.value ∙ c.in_ok-tallies.ensures.found trust now (Some last) h in
    let once = subst (λ (ts : List Tally). AreOnce (map (λ t. t.airline) ts)) (sym tallies) (airlines_once c.args.agent code now) in
    let plan = c.plan.ensures (c.in_ok-tallies.ensures.fault.trust trust) now (Some last) h in (
      period_says now c.args.period.now code (ap result_ok c.in-Ok.ensures.value) c.plan.result.now plan c.in-Some.field-0-0 c.in-Some.closed c.in-Some.ensures c.args.agent sound c.deref.result.now c.shown_over.result tallies (c.shown_over.ensures once),
      subst (λ (rows : Rows). g.B.Book.means.holds c.tallies.new.self rows (Some last)) (sym (same_rows _ now)) kept,
    )
