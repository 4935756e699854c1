use Rattle.std.proofs.Common.{refl}
use Rattle.bsp_desk.specs.Callers.{calling}
use Rattle.bsp_desk.proofs.Sent.{answered, broken, no_room}
use Rattle.bsp_desk.proofs.desk.Desk.reply_to.Goals as goal

pub returns-in-Ok-clause-answered : goal.returns-in-Ok-clause-answered
returns-in-Ok-clause-answered g c = answered g.B.Book.means c.args.self.now.book c.answer_call.new.book (calling c.args.token c.args.call.now c.args.content.now) c.args.call.now refl c.args.self.now.office c.in-Ok.reply c.in-Ok.ensures.available c.in-Ok.ensures.allow c.in-Ok.ensures.kept c.in-Ok.ensures.fault

pub returns-in-Err-NoRoom-clause-answered : goal.returns-in-Err-NoRoom-clause-answered
returns-in-Err-NoRoom-clause-answered g c = no_room g.B.Book.means c.args.self.now.book c.answer_call.new.book (calling c.args.token c.args.call.now c.args.content.now) c.args.call.now refl c.args.self.now.office c.reply.result c.reply.ensures.reply c.reply.ensures.allow (rw c.in-Err-NoRoom.field-0-is at c.in-Err-NoRoom.ensures.fault)

pub returns-in-Err-Failed-clause-answered : goal.returns-in-Err-Failed-clause-answered
returns-in-Err-Failed-clause-answered g c = broken g.B.Book.means c.args.self.now.book c.answer_call.new.book (calling c.args.token c.args.call.now c.args.content.now) c.args.call.now refl c.args.self.now.office c.reply-in-Err-Failed.result c.reply-in-Err-Failed.ensures.reply c.reply-in-Err-Failed.ensures.allow (rw c.in-Err-Failed.field-0-is at c.in-Err-Failed.ensures.fault)
