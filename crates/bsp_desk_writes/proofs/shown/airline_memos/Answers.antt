use Rattle.std.proofs.Common.{ap}
use Rattle.std.specs.FinMap.{values}
use Rattle.bsp_rows.specs.Part.{airline_part}
use Rattle.bsp_rows.specs.declared.questions.Memos.TheVariants.{OfAirline}
use Rattle.bsp_office_spec.specs.Answers.Answer.{Memos}
use Rattle.bsp_desk_writes.specs.Answered.{listed}
use Rattle.bsp_desk_writes.proofs.MemoLemmas.{shown_by}
use Rattle.bsp_desk_writes.proofs.ServeLemmas.{shown_alike}
use Rattle.bsp_desk_writes.proofs.shown.airline_memos.Goals as goal

pub returns-clause-served : goal.returns-clause-served
returns-clause-served g c =
    shown_alike g.B.Book.means c.args.book.now c.show.new.book c.show.result (listed (OfAirline c.args.airline)) (λ rows. Memos (values (airline_part c.args.airline rows).memos)) (λ rows. ap Memos (shown_by c.args.airline rows)) c.show.ensures.served
