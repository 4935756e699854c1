use Rattle.std.proofs.Common.{◌∙◌, sym, ap}
use Rattle.bsp_ret.specs.declared.model.Standing.{Standing}
use Rattle.bsp_ret.specs.Table.{has_ended}
use Rattle.bsp_ret.proofs.SaidLemmas.{ended_row, narrow_row}
use Rattle.bsp_check.proofs.ret_judging.RetJudgeJudge.no_record.Goals as goal

pub returns-then-has_ended : goal.returns-then-has_ended
returns-then-has_ended c = λ line narrow.
    ended_row c.args.self.now.judging.at line (ap (λ (at : Standing). has_ended at.last) (sym c.state.ensures.value) ∙ sym c.has_ended.ensures ∙ c.if-has_ended.true)

pub returns-else-has_ended : goal.returns-else-has_ended
returns-else-has_ended c = λ line narrow.
    narrow_row c.args.self.now.judging.at line (ap (λ (at : Standing). has_ended at.last) (sym c.state.ensures.value) ∙ sym c.has_ended.ensures ∙ c.if-has_ended.false) narrow
