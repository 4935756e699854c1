use Rattle.bsp_desk.proofs.agent.serve_agent.Goals as goal

pub returns-in-Ret-clause-served : goal.returns-in-Ret-clause-served
returns-in-Ret-clause-served g c = λ request is.
    let asked = rw c.in-Ret.is at is in
    rw asked.2 (c.report_of_agent.ensures.served asked.0 asked.1)

pub returns-in-Document-clause-served : goal.returns-in-Document-clause-served
returns-in-Document-clause-served g c = λ request is.
    let asked = rw c.in-Document.is at is in
    rw asked c.document.ensures.served

pub returns-in-Period-clause-served : goal.returns-in-Period-clause-served
returns-in-Period-clause-served g c = λ request is.
    let asked = rw c.in-Period.is at is in
    rw asked c.period.ensures.served

pub returns-in-Stock-clause-served : goal.returns-in-Stock-clause-served
returns-in-Stock-clause-served g c = λ request is.
    let asked = rw c.in-Stock.is at is in
    rw asked c.stock.ensures.served

pub returns-in-Memos-clause-served : goal.returns-in-Memos-clause-served
returns-in-Memos-clause-served g c = λ request is.
    let asked = rw c.in-Memos.is at is in
    rw asked c.agent_memos.ensures.served

pub returns-in-Dispute-clause-served : goal.returns-in-Dispute-clause-served
returns-in-Dispute-clause-served g c = λ request is.
    let asked = rw c.in-Dispute.is at is in
    rw asked (rw c.bytes-body.ensures at c.dispute.ensures.served)

pub returns-in-Agree-clause-served : goal.returns-in-Agree-clause-served
returns-in-Agree-clause-served g c = λ request is.
    let asked = rw c.in-Agree.is at is in
    rw asked (rw c.bytes-body.ensures at c.agree.ensures.served)

pub returns-in-Statement-clause-served : goal.returns-in-Statement-clause-served
returns-in-Statement-clause-served g c = λ request is.
    let asked = rw c.in-Statement.is at is in
    rw asked c.statement.ensures.served
