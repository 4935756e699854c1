use Rattle.std.proofs.Common.{◌++◌}
use Rattle.bsp_check.proofs.RetReports.{refused_line}
use Rattle.bsp_check.proofs.ret_judging.RetJudgeJudge.explain_long.Goals as goal

pub returns : goal.returns
returns c = λ more long row ls has after.
    let at = c.state-at.ensures.value in
    refused_line ls after c.args.self.now (c.args.head.now ++ more) c.args.code c.fault.result c.explain_long.result has row (rw (← at) c.fault.ensures)
    (rw (← at) c.explain_long.ensures.number) (rw (← at) (c.explain_long.ensures.says more long)) (c.explain_long.ensures.row more long (rw at row))
