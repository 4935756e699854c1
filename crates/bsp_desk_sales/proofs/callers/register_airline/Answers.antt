use Rattle.std.proofs.Common.{Option, sym, subst}
use Rattle.bsp_messages.specs.declared.office_bodies.AirlineRegistration.{AirlineRegistration}
use Rattle.bsp_office_spec.specs.Requests.OfficeRequest.{RegisterAirline}
use Rattle.bsp_desk_sales.specs.Serves.{ServesOffice}
use Rattle.bsp_desk_sales.proofs.callers.register_airline.Goals as goal

pub returns-in-Ok-clause-served : goal.returns-in-Ok-clause-served
returns-in-Ok-clause-served g c =
    let Served : Option AirlineRegistration → Type 0 = λ body. ServesOffice g.B.Book.means c.args.book.now c.set_airline.new.book c.set_airline.result (RegisterAirline body) in
    subst Served (sym c.in-Ok.ensures) c.set_airline.ensures.served
