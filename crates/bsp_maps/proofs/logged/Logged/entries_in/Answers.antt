use Rattle.std.proofs.Common.{ap, ◌∙◌}
use Rattle.bsp_maps.specs.Windows.{entries_in}
use Rattle.bsp_maps.proofs.ContentLemmas.{of_content}
use Rattle.bsp_maps.proofs.PickLemmas.{if_ok}
use Rattle.bsp_maps.proofs.logged.Logged.entries_in.Goals as goal

pub returns : goal.returns
returns g c = if_ok c.window_entries.result (λ v e. e ∙ ap (entries_in (g.W.Window.has c.args.window.now)) (of_content g.met.K.Ord.total c.args.self.now c.map.result.now c.map.ensures c.window_entries.ensures.ordered)) c.window_entries.ensures.found
