use Rattle.std.proofs.Common.{ap, ◌∙◌}
use Rattle.std.specs.List.{list_any}
use Rattle.bsp_maps.proofs.ContentLemmas.{of_content}
use Rattle.bsp_maps.proofs.logged.Logged.has_any.Goals as goal

pub returns : goal.returns
returns g c = c.has_any.ensures.found ∙ ap (list_any (λ e. g.W.Window.has c.args.window.now e.0)) (of_content g.met.K.Ord.total c.args.self.now c.map.result.now c.map.ensures c.has_any.ensures.ordered)
