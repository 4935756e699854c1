use Rattle.std.proofs.Common.{map, ap, ◌∙◌}
use Rattle.bsp_maps.proofs.ContentLemmas.{of_content}
use Rattle.bsp_maps.proofs.PickLemmas.{if_ok}
use Rattle.bsp_maps.proofs.logged.Logged.keys.Goals as goal

pub returns : goal.returns
returns g c = if_ok c.keys.result (λ v e. e ∙ ap (map (λ e. e.0)) (of_content g.met.K.Ord.total c.args.self.now c.map.result.now c.map.ensures c.keys.ensures.ordered)) c.keys.ensures.found
