use Rattle.std.proofs.Common.{sym, ◌∙◌}
use Rattle.bsp_maps.proofs.UndoLemmas.{found}
use Rattle.bsp_rows.proofs.demands.at.Goals as goal

pub returns : goal.returns
returns g c = c.copied.ensures ∙ c.get.ensures.value ∙ sym (found g.met.K.Ord.total c.args.entries.now.entries c.args.key)
