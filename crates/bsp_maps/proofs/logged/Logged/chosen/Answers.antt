use Rattle.std.proofs.Common.{ap, ◌∙◌}
use Rattle.std.specs.List.{filter}
use Rattle.bsp_maps.specs.Windows.{values_in}
use Rattle.bsp_maps.proofs.ContentLemmas.{of_content}
use Rattle.bsp_maps.proofs.PickLemmas.{if_ok}
use Rattle.bsp_maps.proofs.logged.Logged.chosen.Goals as goal

pub returns : goal.returns
returns g c = if_ok c.chosen.result (λ v e. e ∙ ap (λ es. filter (g.T.Test.passes c.args.test.now) (values_in (g.W.Window.has c.args.window.now) es)) (of_content g.met.K.Ord.total c.args.self.now c.map.result.now c.map.ensures c.chosen.ensures.ordered)) c.chosen.ensures.found
