use Rattle.std.proofs.Common.{◌∙◌, sym, [], Some}
use Rattle.bsp_desk_writes.specs.After.{agent_after}
use Rattle.bsp_desk_writes.specs.Ledger.{ledger_answer, ledger_of}
use Rattle.bsp_desk_writes.specs.Requests.Asked.{ByAgent}
use Rattle.bsp_desk_writes.specs.Step.{asked_after, asked_answer}
use Rattle.bsp_desk.specs.Reading.{token_text}
use Rattle.bsp_desk.proofs.Known.{agent_answered, agent_next, agent_refused, forbids, serves_as}
use Rattle.bsp_desk.proofs.serve.by_agent.Goals as goal

pub returns-in-Some-clause-served : goal.returns-in-Some-clause-served
returns-in-Some-clause-served g c = λ request is.
    let agent = c.in-Some.agent in
    let given = token_text c.args.token in
    let code = c.args.code.now in
    serves_as g.B.Book.means c.args.book.now c.known_agent.new.book c.serve_agent.new.book (λ rows. ledger_answer agent (ledger_of agent rows) request) (asked_answer [] given (ByAgent code request)) (agent_after agent request) (λ rows. asked_after (ByAgent code request) (asked_answer [] given (ByAgent code request) rows) rows) c.serve_agent.result
    c.serve_agent.ensures.fault.trust c.in_ok-agent.ensures.ok
    (λ t now last h. let e = sym (c.in_ok-agent.ensures.found t now (Some last) h) ∙ c.in-Some.is in (agent_answered given code request now agent e, agent_next given code request now agent e))
    (c.serve_agent.ensures.served request is)

pub returns-in-None-clause-served : goal.returns-in-None-clause-served
returns-in-None-clause-served g c = λ request is.
    forbids g.B.Book.means c.args.book.now c.known_agent.new.book (ByAgent c.args.code.now request) (asked_answer [] (token_text c.args.token) (ByAgent c.args.code.now request)) c.in_ok-agent.ensures.ok
    (λ t now last h. agent_refused (token_text c.args.token) c.args.code.now request now (sym (c.in_ok-agent.ensures.found t now (Some last) h) ∙ c.in-None.is))
