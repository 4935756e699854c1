use Rattle.std.proofs.Common.{sym, ap, ◌∙◌, Some}
use Rattle.std.specs.FinMap.{from_entries}
use Rattle.bsp_maps.specs.Present.{present}
use Rattle.bsp_maps.proofs.UndoLemmas.{found, taken}
use Rattle.bsp_maps.proofs.PresentLemmas.{present-remove_absent}
use Rattle.bsp_maps.proofs.present.take_out_absent.Goals as goal

pub returns-in-Some-None : goal.returns-in-Some-None
returns-in-Some-None g c =
    ap present (taken g.met.K.Ord.total c.requires c.args.entries.now c.remove.new.self c.args.key.now c.remove.ensures.updates.0)
    ∙ present-remove_absent g.met.K.Ord.total c.requires (from_entries c.args.entries.now.entries) c.args.key.now
    (found g.met.K.Ord.total c.args.entries.now.entries c.args.key.now ∙ sym (c.copied.ensures ∙ c.get.ensures.value) ∙ c.in-Some-None.is ∙ ap Some c.in-Some-None.field-0-is)
