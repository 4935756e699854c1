use Rattle.std.proofs.Common.{◌∙◌, Err, ap}
use Rattle.std.proofs.lemmas.Result.{err_from_is_err_and}
use Rattle.bsp_fields.proofs.CodeLemmas.{agent_passed, agent_told, agent_unchecked}
use Rattle.bsp_fields.proofs.codes.AgentCode.read.Goals as goal

pub returns-clause-value : goal.returns-clause-value
returns-clause-value c = agent_passed c.args.text.now c.in_ok-number.field-0 c.in_ok-number.ensures.value c.if-number.false

pub returns-then-number-clause-value : goal.returns-then-number-clause-value
returns-then-number-clause-value c = agent_unchecked c.args.text.now c.in_ok-number.field-0 c.in_ok-number.ensures.value c.if-number.true

pub returns-in_err-number-clause-value : goal.returns-in_err-number-clause-value
returns-in_err-number-clause-value c =
    let q = err_from_is_err_and c.from_residual.result c.from_residual.ensures.1 in
    q.1 ∙ agent_told c.args.text.now _ (ap Err q.2 ∙ c.in_err-number.ensures.value)
