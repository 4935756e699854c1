use Rattle.std.proofs.Common.{sym, ap, ◌∙◌}
use Rattle.std.specs.FinMap.{from_entries}
use Rattle.bsp_maps.specs.Present.{with_present_value}
use Rattle.bsp_maps.proofs.UndoLemmas.{written}
use Rattle.bsp_maps.proofs.present.add_present.Goals as goal

pub returns-in_ok-insert-in-Some : goal.returns-in_ok-insert-in-Some
returns-in_ok-insert-in-Some g c =
    written g.met.K.Ord.total c.requires c.args.found.now c.insert.new.self c.args.key.now c.in-Some.value c.in_ok-insert-in-Some.ensures.updates.0
    ∙ ap (λ w. with_present_value c.args.key.now w (from_entries c.args.found.now.entries)) (sym c.in-Some.is)
