use Rattle.bsp_desk.proofs.Outliving.{outlives}
use Rattle.bsp_desk.proofs.desk.Desk.answer.Goals as goal

pub returns-clause-stops : goal.returns-clause-stops
returns-clause-stops g c =
    outlives g.B.Book.means g.met.B.Book.settled c.args.self.now.book c.reply.new.self.book c.args.request.now c.args.self.now.office c.reply.result c.reply.ensures.answered
