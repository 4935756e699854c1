use Rattle.bsp_desk.proofs.office.serve_office.Goals as goal

pub returns-in-Plan-clause-served : goal.returns-in-Plan-clause-served
returns-in-Plan-clause-served g c = λ request is.
    let asked = rw c.in-Plan.is at is in
    rw asked.2 (c.publish.ensures.served asked.0 (rw c.bytes-body.ensures asked.1))

pub returns-in-Day-clause-served : goal.returns-in-Day-clause-served
returns-in-Day-clause-served g c = λ request is.
    let asked = rw c.in-Day.is at is in
    rw asked (rw c.bytes-body.ensures at c.set_day.ensures.served)

pub returns-in-RegisterAgent-clause-served : goal.returns-in-RegisterAgent-clause-served
returns-in-RegisterAgent-clause-served g c = λ request is.
    let asked = rw c.in-RegisterAgent.is at is in
    rw asked (rw c.bytes-body.ensures at c.register_agent.ensures.served)

pub returns-in-RegisterAirline-clause-served : goal.returns-in-RegisterAirline-clause-served
returns-in-RegisterAirline-clause-served g c = λ request is.
    let asked = rw c.in-RegisterAirline.is at is in
    rw asked (rw c.bytes-body.ensures at c.register_airline.ensures.served)

pub returns-in-Allot-clause-served : goal.returns-in-Allot-clause-served
returns-in-Allot-clause-served g c = λ request is.
    let asked = rw c.in-Allot.is at is in
    rw asked (rw c.bytes-body.ensures at c.allot.ensures.served)

pub returns-in-Withdraw-clause-served : goal.returns-in-Withdraw-clause-served
returns-in-Withdraw-clause-served g c = λ request is.
    let asked = rw c.in-Withdraw.is at is in
    rw asked (rw c.bytes-body.ensures at c.withdraw_range.ensures.served)

pub returns-in-Close-clause-served : goal.returns-in-Close-clause-served
returns-in-Close-clause-served g c = λ request is.
    let asked = rw c.in-Close.is at is in
    rw asked (rw c.bytes-body.ensures at c.close.ensures.served)

pub returns-in-Ret-clause-served : goal.returns-in-Ret-clause-served
returns-in-Ret-clause-served g c = λ request is.
    let asked = rw c.in-Ret.is at is in
    rw asked.2 (c.report_of_office.ensures.served asked.0 asked.1)

pub returns-in-Settlement-clause-served : goal.returns-in-Settlement-clause-served
returns-in-Settlement-clause-served g c = λ request is.
    let asked = rw c.in-Settlement.is at is in
    rw asked c.settlement.ensures.served
