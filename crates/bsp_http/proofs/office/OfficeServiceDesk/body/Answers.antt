use Rattle.std.proofs.Common.{ap, ◌∙◌}
use Rattle.bsp_desk.specs.Callers.{has_body}
use Rattle.bsp_http.proofs.office.OfficeServiceDesk.body.Goals as goal

pub returns-clause-used : goal.returns-clause-used
returns-clause-used g c = let found = c.requires.1 in (found.0, found.1, c.new.ensures.used ∙ ap has_body found.2)
