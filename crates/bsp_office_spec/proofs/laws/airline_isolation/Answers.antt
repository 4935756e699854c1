use Rattle.bsp_office_spec.proofs.AirlineIsolated.{airline_isolated, airlines_alike}
use Rattle.bsp_office_spec.proofs.AirlineSeen.{airline_seen}
use Rattle.bsp_office_spec.proofs.Isolated.{airline_own}
use Rattle.bsp_office_spec.proofs.laws.airline_isolation.Goals as goal

pub returns-clause-own : goal.returns-clause-own
returns-clause-own c = airline_own

pub returns-clause-seen : goal.returns-clause-seen
returns-clause-seen c = airline_seen

pub returns-clause-isolated : goal.returns-clause-isolated
returns-clause-isolated c = airline_isolated

pub returns-clause-alike : goal.returns-clause-alike
returns-clause-alike c = airlines_alike
