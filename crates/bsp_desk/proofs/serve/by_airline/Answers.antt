use Rattle.std.proofs.Common.{◌∙◌, sym, [], Some}
use Rattle.bsp_desk_writes.specs.After.{airline_after}
use Rattle.bsp_desk_writes.specs.AirlineLedger.{airline_answer, airline_ledger_of}
use Rattle.bsp_desk_writes.specs.Requests.Asked.{ByAirline}
use Rattle.bsp_desk_writes.specs.Step.{asked_after, asked_answer}
use Rattle.bsp_desk.specs.Reading.{token_text}
use Rattle.bsp_desk.proofs.Known.{airline_answered, airline_next, serves_as}
use Rattle.bsp_desk.proofs.serve.by_airline.Goals as goal

pub returns-in-Some-clause-served : goal.returns-in-Some-clause-served
returns-in-Some-clause-served g c = λ request is.
    let airline = c.in-Some.airline in
    let given = token_text c.args.token in
    let code = c.args.code.now in
    serves_as g.B.Book.means c.args.book.now c.known_airline.new.book c.serve_airline.new.book (λ rows. airline_answer airline (airline_ledger_of airline rows) request) (asked_answer [] given (ByAirline code request)) (airline_after airline request) (λ rows. asked_after (ByAirline code request) (asked_answer [] given (ByAirline code request) rows) rows) c.serve_airline.result
    c.serve_airline.ensures.fault.trust c.in_ok-airline.ensures.ok
    (λ t now last h. let e = sym (c.in_ok-airline.ensures.found t now (Some last) h) ∙ c.in-Some.is in (airline_answered given code request now airline e, airline_next given code request now airline e))
    (c.serve_airline.ensures.served request is)
