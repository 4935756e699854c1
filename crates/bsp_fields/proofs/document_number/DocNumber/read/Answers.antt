use Rattle.std.proofs.Common.{◌∙◌, Err, ap}
use Rattle.std.proofs.lemmas.Result.{err_from_is_err_and}
use Rattle.bsp_fields.proofs.CodeLemmas.{document_passed, document_told, document_unchecked}
use Rattle.bsp_fields.proofs.document_number.DocNumber.read.Goals as goal

pub returns-clause-value : goal.returns-clause-value
returns-clause-value c = document_passed c.args.text.now c.args.check c.in_ok-number.number c.in_ok-number.ensures.value c.if-check-number.false

pub returns-then-check-number-clause-value : goal.returns-then-check-number-clause-value
returns-then-check-number-clause-value c = document_unchecked c.args.text.now c.args.check c.in_ok-number.number c.in_ok-number.ensures.value c.if-check-number.true

pub returns-in_err-number-clause-value : goal.returns-in_err-number-clause-value
returns-in_err-number-clause-value c =
    let q = err_from_is_err_and c.from_residual.result c.from_residual.ensures.1 in
    q.1 ∙ document_told c.args.text.now c.args.check _ (ap Err q.2 ∙ c.in_err-number.ensures.value)
