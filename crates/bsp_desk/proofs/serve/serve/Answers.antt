use Rattle.bsp_desk.proofs.serve.serve.Goals as goal

pub returns-in-Office-clause-served : goal.returns-in-Office-clause-served
returns-in-Office-clause-served g c = λ reading is.
    let asked = rw c.in-Office.is at is.asked in
    rw (is.token, asked.2) (c.by_office.ensures.served asked.0 asked.1)

pub returns-in-Agent-clause-served : goal.returns-in-Agent-clause-served
returns-in-Agent-clause-served g c = λ reading is.
    let asked = rw c.in-Agent.is at is.asked in
    rw (is.token, asked.2) (c.by_agent.ensures.served asked.0 asked.1)

pub returns-in-Airline-clause-served : goal.returns-in-Airline-clause-served
returns-in-Airline-clause-served g c = λ reading is.
    let asked = rw c.in-Airline.is at is.asked in
    rw (is.token, asked.2) (c.by_airline.ensures.served asked.0 asked.1)
