use Rattle.bsp_desk.proofs.airline.serve_airline.Goals as goal

pub returns-in-Memos-clause-served : goal.returns-in-Memos-clause-served
returns-in-Memos-clause-served g c = λ request is.
    let asked = rw c.in-Memos.is at is in
    rw asked c.airline_memos.ensures.served

pub returns-in-Issue-clause-served : goal.returns-in-Issue-clause-served
returns-in-Issue-clause-served g c = λ request is.
    let asked = rw c.in-Issue.is at is in
    rw asked (rw c.bytes-body.ensures at c.issue.ensures.served)

pub returns-in-Uphold-clause-served : goal.returns-in-Uphold-clause-served
returns-in-Uphold-clause-served g c = λ request is.
    let asked = rw c.in-Uphold.is at is in
    rw asked (rw c.bytes-body.ensures at c.uphold.ensures.served)

pub returns-in-Withdraw-clause-served : goal.returns-in-Withdraw-clause-served
returns-in-Withdraw-clause-served g c = λ request is.
    let asked = rw c.in-Withdraw.is at is in
    rw asked (rw c.bytes-body.ensures at c.withdraw.ensures.served)

pub returns-in-Reduce-clause-served : goal.returns-in-Reduce-clause-served
returns-in-Reduce-clause-served g c = λ request is.
    let asked = rw c.in-Reduce.is at is in
    rw asked (rw c.bytes-body.ensures at c.reduce.ensures.served)

pub returns-in-Hot-clause-served : goal.returns-in-Hot-clause-served
returns-in-Hot-clause-served g c = λ request is.
    let asked = rw c.in-Hot.is at is in
    rw asked c.hot.ensures.served
