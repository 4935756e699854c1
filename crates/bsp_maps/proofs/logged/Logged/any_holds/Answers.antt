use Rattle.std.proofs.Common.{ap, ◌∙◌}
use Rattle.std.specs.List.{list_any}
use Rattle.bsp_maps.proofs.ContentLemmas.{of_content}
use Rattle.bsp_maps.proofs.logged.Logged.any_holds.Goals as goal

pub returns : goal.returns
returns g c = c.any_holds.ensures.found ∙ ap (list_any (λ e. g.T.Rule.holds c.args.rule.now e.0 e.1)) (of_content g.met.K.Ord.total c.args.self.now c.map.result.now c.map.ensures c.any_holds.ensures.ordered)
