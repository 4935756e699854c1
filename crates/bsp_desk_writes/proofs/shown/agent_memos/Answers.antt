use Rattle.std.proofs.Common.{ap}
use Rattle.std.specs.FinMap.{values}
use Rattle.bsp_rows.specs.Part.{agent_part}
use Rattle.bsp_rows.specs.declared.questions.Memos.TheVariants.{OfAgent}
use Rattle.bsp_office_spec.specs.Answers.Answer.{Memos}
use Rattle.bsp_desk_writes.specs.Answered.{listed}
use Rattle.bsp_desk_writes.proofs.MemoLemmas.{shown_to}
use Rattle.bsp_desk_writes.proofs.ServeLemmas.{shown_alike}
use Rattle.bsp_desk_writes.proofs.shown.agent_memos.Goals as goal

pub returns-clause-served : goal.returns-clause-served
returns-clause-served g c =
    shown_alike g.B.Book.means c.args.book.now c.show.new.book c.show.result (listed (OfAgent c.args.agent)) (λ rows. Memos (values (agent_part c.args.agent rows).memos)) (λ rows. ap Memos (shown_to c.args.agent rows)) c.show.ensures.served
