use Rattle.std.proofs.Common.{List, ℕ, refl, subst, ◌≡◌, ◌∙◌, [], inr, sym, ap}
use Rattle.std.proofs.lemmas.List.{append-nil}
use Rattle.bsp_fields.specs.Lines.{lines}
use Rattle.bsp_ret.specs.Table.{first_fault}
use Rattle.bsp_ret.proofs.AnswerLemmas.{read_fault}
use Rattle.bsp_ret.proofs.FeedLemmas.{noted_on}
use Rattle.bsp_ret.proofs.PieceLemmas.{noted_nothing}
use Rattle.bsp_ret.specs.Notes.{no_notes}
use Rattle.bsp_ret.specs.declared.model.RetFault.{RetFault}
use Rattle.bsp_ret.specs.declared.pieces.Stop.{Stop}
use Rattle.bsp_ret.specs.declared.pieces.Stop.TheVariants.{Memory, Fault}
use Rattle.bsp_ret.specs.Pieces.{IsFinal, IsStop}
use Rattle.bsp_ret.proofs.reading.noted.Goals as goal

final_fault : (bytes : List ℕ) (stop : Stop) (fault : RetFault) → stop ≡ Fault fault → IsStop bytes stop → IsFinal bytes fault
final_fault bytes Memory fault is final = absurd (cc is)
final_fault bytes (Fault f) fault is final = let same : f ≡ fault = cc in subst (IsFinal bytes) same final

pub judge_lines-requires : goal.judge_lines-requires
judge_lines-requires c = rw c.new.ensures (noted_on no_notes c.args.closed.now.items [] c.args.bytes.now (noted_nothing [] c.args.closed.now.items refl c.requires).noted)

pub returns-in-Ok-clause-ok : goal.returns-in-Ok-clause-ok
returns-in-Ok-clause-ok c = c.judge_rest.ensures.ok c.judge_lines.new.closed.items c.in-Ok.ensures.ok

pub returns-in-Ok-clause-err : goal.returns-in-Ok-clause-err
returns-in-Ok-clause-err c = read_fault (lines c.args.bytes.now) c.judge_rest.result (c.judge_rest.ensures.fault c.judge_lines.new.closed.items c.in-Ok.ensures.ok)

pub returns-in-Err-Fault-clause-err : goal.returns-in-Err-Fault-clause-err
returns-in-Err-Fault-clause-err c =
    let final = final_fault c.args.bytes.now c.in-Err-Fault.field-0 c.in-Err-Fault.fault c.in-Err-Fault.field-0-is c.in-Err-Fault.ensures.stop in
    inr (ap (λ bytes. first_fault (lines bytes)) (sym (append-nil c.args.bytes.now)) ∙ final [])
