use Rattle.bsp_hot_check.proofs.Judging.{narrow_line}
use Rattle.bsp_check.proofs.hot_judging.StandingJudge.no_record.Goals as goal

pub returns : goal.returns
returns c = λ line narrow. narrow_line c.args.self.now line narrow
