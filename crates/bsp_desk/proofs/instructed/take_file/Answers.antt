use Rattle.std.proofs.lemmas.Result.{err_from_is_err_and}
use Rattle.bsp_desk_writes.specs.Texts.{Says}
use Rattle.bsp_desk.specs.Instructions.{IsReport, own_after, own_answer}
use Rattle.bsp_desk.proofs.Transactions.{unbegun, unsent, uncommitted}
use Rattle.bsp_desk.proofs.instructed.take_file.Goals as goal

pub returns-in_err-begin-clause-fault : goal.returns-in_err-begin-clause-fault
returns-in_err-begin-clause-fault g c =
    let p = err_from_is_err_and c.from_residual.result c.from_residual.ensures.1 in
    rw (p.1, p.2) (unbegun g.B.Book.means g.met.B.Book.wider (IsReport c.args.agent c.args.file.now) (λ rows own. own_after own rows) c.args.book.now c.begin.new.self c.in_err-begin.field-0.0 c.in_err-begin.ensures.fault)

pub returns-in_err-answer-clause-fault : goal.returns-in_err-answer-clause-fault
returns-in_err-answer-clause-fault g c =
    let p = err_from_is_err_and c.from_residual-in_err-answer.result c.from_residual-in_err-answer.ensures.1 in
    rw (p.1, p.2) (unsent g.B.Book.means g.met.B.Book.wider (IsReport c.args.agent c.args.file.now) (λ rows own. own_after own rows) c.args.book.now c.begin.new.self c.in_ok-begin.field-0 c.in_ok-begin.ensures.ok c.in_ok-begin.ensures.fault c.serve_file.new.book c.in_err-answer.field-0.0 c.in_err-answer.ensures.fault)

pub returns-in_err-commit-clause-fault : goal.returns-in_err-commit-clause-fault
returns-in_err-commit-clause-fault g c =
    let p = err_from_is_err_and c.from_residual-in_err-commit.result c.from_residual-in_err-commit.ensures.1 in
    rw (p.1, p.2) (uncommitted g.B.Book.means g.met.B.Book.wider (IsReport c.args.agent c.args.file.now) (λ rows own. own_after own rows) c.args.book.now c.begin.new.self c.in_ok-begin.field-0 c.in_ok-begin.ensures.ok c.in_ok-begin.ensures.fault
    (λ rows own message. Says (own_answer own rows) message) c.serve_file.new.book c.commit.new.self c.in_ok-answer.answer c.in_ok-answer.ensures.served c.in_ok-answer.ensures.fault c.in_err-commit.field-0.0 c.in_err-commit.ensures.fault)

pub returns-clause-kept : goal.returns-clause-kept
returns-clause-kept g c = λ own is t rows sound h.
    let found = c.in_ok-answer.ensures.served own is (c.in_ok-commit.ensures.fault.trust t) rows rows sound (c.in_ok-begin.ensures.ok rows h) in
    (found.0, c.in_ok-commit.ensures.ok (own_after own rows) rows found.1)
