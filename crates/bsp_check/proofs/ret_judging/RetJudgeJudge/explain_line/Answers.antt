use Rattle.bsp_check.proofs.RetReports.{refused_line}
use Rattle.bsp_check.proofs.ret_judging.RetJudgeJudge.explain_line.Goals as goal

pub returns : goal.returns
returns c = λ line first row ls has after.
    let at = c.state-at.ensures.value in
    refused_line ls after c.args.self.now line c.args.code c.fault.result c.explain_line.result has row (rw (← at) c.fault.ensures)
    (rw (← at) c.explain_line.ensures.number) (rw (← at) (c.explain_line.ensures.says line first)) (c.explain_line.ensures.row line first (rw at row))
