use Rattle.bsp_desk.specs.Callers.{calling}
use Rattle.bsp_desk.proofs.Transactions.{gives_up}
use Rattle.bsp_desk.proofs.transaction.reply_within.Goals as goal

pub returns-in_default-clause-fault : goal.returns-in_default-clause-fault
returns-in_default-clause-fault g c =
    gives_up g.B.Book.means (calling c.args.token c.args.call.now c.args.content.now) c.args.office.now c.args.book.now c.serve.new.book c.give_up.new.book c.in_ok-answer.answer c.give_up.result c.requires
    c.in_ok-answer.ensures.served c.in_ok-answer.ensures.fault c.give_up.ensures.fault

pub returns-then-eq-clause-fault : goal.returns-then-eq-clause-fault
returns-then-eq-clause-fault g c =
    gives_up g.B.Book.means (calling c.args.token c.args.call.now c.args.content.now) c.args.office.now c.args.book.now c.serve.new.book c.give_up-then-eq.new.book c.in_ok-answer.answer c.give_up-then-eq.result c.requires
    c.in_ok-answer.ensures.served c.in_ok-answer.ensures.fault c.give_up-then-eq.ensures.fault
