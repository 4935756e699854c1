use Rattle.std.proofs.Common.{refl, ap}
use Rattle.bsp_ret.specs.declared.model.Standing.{Standing}
use Rattle.bsp_check.proofs.RetReports.{taken_none, taken_one}
use Rattle.bsp_check.proofs.ret_judging.RetJudgeJudge.take.Goals as goal

pub returns-in-Ok-clause-taken : goal.returns-in-Ok-clause-taken
returns-in-Ok-clause-taken c = λ ls has.
    taken_one c.args.self.now (record { judging = c.step.new.self; text = c.push_transaction.new.out }) c.args.line.now c.in-Ok-Some.field-0 _ c.in-Ok-Some.paid ls c.in-Ok-Some.field-0-is
    (c.in-Ok-Some.ensures.taken ls) c.in-Ok-Some.ensures.ended (ap (λ (at : Standing). at.transactions) c.state-number.ensures.value) c.in-Ok.ensures has

pub returns-in-Ok-None-clause-taken : goal.returns-in-Ok-None-clause-taken
returns-in-Ok-None-clause-taken c = λ ls has.
    taken_none c.args.self.now (record { judging = c.step.new.self; text = c.args.self.now.text }) c.args.line.now c.in-Ok-None.field-0 ls c.in-Ok-None.field-0-is (c.in-Ok-None.ensures.taken ls) refl has
