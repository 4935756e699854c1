use Rattle.std.proofs.Common.{rules}
use Rattle.bsp_routes.proofs.StatusNumbers.{decimal_200, decimal_400, decimal_403, decimal_404, decimal_405, decimal_409, decimal_411, decimal_413, decimal_422, decimal_431, decimal_501, decimal_503}
use Rattle.bsp_routes.proofs.lines.status_line.Goals as goal

pub returns-in-Ok-clause-value : goal.returns-in-Ok-clause-value
returns-in-Ok-clause-value c = search (rules, decimal_200)

pub returns-in-BadRequest-clause-value : goal.returns-in-BadRequest-clause-value
returns-in-BadRequest-clause-value c = search (rules, decimal_400)

pub returns-in-Forbidden-clause-value : goal.returns-in-Forbidden-clause-value
returns-in-Forbidden-clause-value c = search (rules, decimal_403)

pub returns-in-NotFound-clause-value : goal.returns-in-NotFound-clause-value
returns-in-NotFound-clause-value c = search (rules, decimal_404)

pub returns-in-MethodNotAllowed-clause-value : goal.returns-in-MethodNotAllowed-clause-value
returns-in-MethodNotAllowed-clause-value c = search (rules, decimal_405)

pub returns-in-Conflict-clause-value : goal.returns-in-Conflict-clause-value
returns-in-Conflict-clause-value c = search (rules, decimal_409)

pub returns-in-LengthRequired-clause-value : goal.returns-in-LengthRequired-clause-value
returns-in-LengthRequired-clause-value c = search (rules, decimal_411)

pub returns-in-PayloadTooLarge-clause-value : goal.returns-in-PayloadTooLarge-clause-value
returns-in-PayloadTooLarge-clause-value c = search (rules, decimal_413)

pub returns-in-UnprocessableEntity-clause-value : goal.returns-in-UnprocessableEntity-clause-value
returns-in-UnprocessableEntity-clause-value c = search (rules, decimal_422)

pub returns-in-RequestHeaderFieldsTooLarge-clause-value : goal.returns-in-RequestHeaderFieldsTooLarge-clause-value
returns-in-RequestHeaderFieldsTooLarge-clause-value c = search (rules, decimal_431)

pub returns-in-NotImplemented-clause-value : goal.returns-in-NotImplemented-clause-value
returns-in-NotImplemented-clause-value c = search (rules, decimal_501)

pub returns-in-ServiceUnavailable-clause-value : goal.returns-in-ServiceUnavailable-clause-value
returns-in-ServiceUnavailable-clause-value c = search (rules, decimal_503)
