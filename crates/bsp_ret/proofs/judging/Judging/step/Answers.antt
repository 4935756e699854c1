use Rattle.bsp_ret.proofs.JudgingLemmas.{fits_sale, small_more, taken_by}
use Rattle.bsp_ret.proofs.judging.Judging.step.Goals as goal

pub go_on-self-inside-requires-clause-fits : goal.go_on-self-inside-requires-clause-fits
go_on-self-inside-requires-clause-fits c = fits_sale c.self.inside.at c.args.line.now c.in-Ok.next c.in-Ok.ensures.row c.in-Ok.ensures.says

pub invariant_of-self : goal.invariant_of-self
invariant_of-self c =
    small_more c.self.inside.at c.step_record.new.self c.args.line.now c.in-Ok.next c.self.inside.begun c.go_on-self-inside.result _ c.in-Ok.ensures.row c.in-Ok.ensures.says c.in-Ok.ensures.state c.in-Ok.ensures.fits c.self.invariant c.go_on-self-inside.ensures.goes_on c.go_on-self-inside.ensures.near

pub returns-in-Ok-clause-taken : goal.returns-in-Ok-clause-taken
returns-in-Ok-clause-taken c = λ ls sales t.
    taken_by ls sales c.args.self.now c.self.inside.at c.step_record.new.self c.args.line.now c.in-Ok.next c.self.inside.begun c.go_on-self-inside.result c.completed-ended.result
    c.self.view_is t c.in-Ok.ensures.row c.in-Ok.ensures.says c.in-Ok.ensures.state c.self.invariant.some c.go_on-self-inside.ensures.goes_on c.completed-ended.ensures
