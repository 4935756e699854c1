use Rattle.std.proofs.lemmas.Result.{err_from_is_err_and}
use Rattle.bsp_desk.specs.Callers.{calling}
use Rattle.bsp_desk.specs.Reading.{IsRead}
use Rattle.bsp_desk.specs.Replies.{IsSent}
use Rattle.bsp_desk.specs.Steps.{left_by}
use Rattle.bsp_desk_writes.specs.Step.{answer_of}
use Rattle.bsp_desk.proofs.Transactions.{unbegun, unsent, uncommitted}
use Rattle.bsp_desk.proofs.transaction.answer_call.Goals as goal

pub returns-in_err-begin-clause-fault : goal.returns-in_err-begin-clause-fault
returns-in_err-begin-clause-fault g c =
    let p = err_from_is_err_and c.from_residual.result c.from_residual.ensures.1 in
    let office = c.args.office.now in
    rw (p.1, p.2) (unbegun g.B.Book.means g.met.B.Book.wider (IsRead (calling c.args.token c.args.call.now c.args.content.now)) (left_by office) c.args.book.now c.begin.new.self c.in_err-begin.field-0.0 c.in_err-begin.ensures.fault)

pub returns-in_err-reply-clause-fault : goal.returns-in_err-reply-clause-fault
returns-in_err-reply-clause-fault g c =
    let p = err_from_is_err_and c.from_residual-in_err-reply.result c.from_residual-in_err-reply.ensures.1 in
    let office = c.args.office.now in
    rw (p.1, p.2) (unsent g.B.Book.means g.met.B.Book.wider (IsRead (calling c.args.token c.args.call.now c.args.content.now)) (left_by office) c.args.book.now c.begin.new.self c.in_ok-begin.field-0 c.in_ok-begin.ensures.ok c.in_ok-begin.ensures.fault c.reply_within.new.book c.in_err-reply.field-0.0 c.in_err-reply.ensures.fault)

pub returns-in_err-commit-clause-fault : goal.returns-in_err-commit-clause-fault
returns-in_err-commit-clause-fault g c =
    let p = err_from_is_err_and c.from_residual-in_err-commit.result c.from_residual-in_err-commit.ensures.1 in
    let office = c.args.office.now in
    rw (p.1, p.2) (uncommitted g.B.Book.means g.met.B.Book.wider (IsRead (calling c.args.token c.args.call.now c.args.content.now)) (left_by office) c.args.book.now c.begin.new.self c.in_ok-begin.field-0 c.in_ok-begin.ensures.ok c.in_ok-begin.ensures.fault
    (λ rows reading reply. IsSent (answer_of office rows reading) reply) c.reply_within.new.book c.commit.new.self c.in_ok-reply.reply c.in_ok-reply.ensures.sent c.in_ok-reply.ensures.fault c.in_err-commit.field-0.0 c.in_err-commit.ensures.fault)
