use Rattle.std.proofs.Common.{Err, ap, inl, inr}
use Rattle.bsp_fields.specs.Lines.{lines}
use Rattle.bsp_ret.proofs.AnswerLemmas.{answer_found, answer_only, answer_fault, faulty}
use Rattle.bsp_ret.proofs.reading.read_ret.Goals as goal

pub returns-in-Ok-clause-found : goal.returns-in-Ok-clause-found
returns-in-Ok-clause-found c = answer_found (lines c.args.bytes.now) c.noted_file.result c.noted_file.ensures.file

pub returns-in-Ok-clause-only : goal.returns-in-Ok-clause-only
returns-in-Ok-clause-only c = λ file ret. answer_only (lines c.args.bytes.now) c.noted_file.result c.noted_file.ensures.file c.noted_file.ensures.fault file ret

pub returns-clause-only : goal.returns-clause-only
returns-clause-only c = λ file ret.
    inr (elim c.in-Err.ensures.err [
      | inl none ↦ ap Err none
      | inr is ↦ absurd (faulty (lines c.args.bytes.now) c.in-Err.fault is file ret)
    ])

pub returns-in-Ok-clause-fault : goal.returns-in-Ok-clause-fault
returns-in-Ok-clause-fault c = answer_fault (lines c.args.bytes.now) c.noted_file.result c.noted_file.ensures.fault
