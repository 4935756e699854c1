use Rattle.std.proofs.Common.{ap, cond, sym, ◌∙◌}
use Rattle.bsp_messages.specs.declared.refusal.RequestRefusal.TheVariants.{Forbidden}
use Rattle.bsp_desk_writes.specs.Answers.Answer.{Refused}
use Rattle.bsp_desk_writes.specs.Requests.Asked.{ByOffice}
use Rattle.bsp_desk_writes.specs.After.{office_after}
use Rattle.bsp_desk_writes.specs.Answers.{Answer}
use Rattle.bsp_desk_writes.specs.Step.{asked_after, asked_answer, office_answer}
use Rattle.bsp_desk.specs.Reading.{token_text}
use Rattle.bsp_desk.proofs.Known.{forbids, serves_as}
use Rattle.bsp_desk.proofs.serve.by_office.Goals as goal

pub returns-then-is_token_of-clause-served : goal.returns-then-is_token_of-clause-served
returns-then-is_token_of-clause-served g c = λ request is.
    let asked = asked_answer c.args.office.now (token_text c.args.token) (ByOffice request) in
    serves_as g.B.Book.means c.args.book.now c.args.book.now c.serve_office.new.book (office_answer request) asked (office_after request) (λ rows. asked_after (ByOffice request) (asked rows) rows) c.serve_office.result
    c.serve_office.ensures.fault.trust (λ now begun h. h)
    (λ t now last h. let e = ap (λ b. cond b (office_answer request now) (Refused Forbidden)) (sym c.is_token_of.ensures ∙ c.if-is_token_of.true) in (e, ap (λ (a : Answer). asked_after (ByOffice request) a now) e))
    (c.serve_office.ensures.served request is)

pub returns-else-is_token_of-clause-served : goal.returns-else-is_token_of-clause-served
returns-else-is_token_of-clause-served g c = λ request is.
    forbids g.B.Book.means c.args.book.now c.args.book.now (ByOffice request) (asked_answer c.args.office.now (token_text c.args.token) (ByOffice request)) (λ now last h. h)
    (λ t now last h. let e = c.if-is_token_of.false in ap (λ b. cond b (office_answer request now) (Refused Forbidden)) (sym c.is_token_of.ensures ∙ e))
