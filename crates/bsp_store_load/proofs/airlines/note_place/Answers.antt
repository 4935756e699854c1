use Rattle.bsp_store_base.proofs.Std.{◌∙◌, ap, from_entries, nat_cmp-IsAntisymmetric, nat_cmp_total, option_map, sym}
use Rattle.bsp_maps.proofs.UndoLemmas.{written}
use Rattle.bsp_store_load.specs.Stored.{with_pair}
use Rattle.bsp_store_load.proofs.airlines.note_place.Goals as goal

pub returns-in_ok-insert : goal.returns-in_ok-insert
returns-in_ok-insert c =
    written nat_cmp_total nat_cmp-IsAntisymmetric c.args.places.now c.insert.new.self c.in-Some.place c.args.code c.in_ok-insert.ensures.updates.0
    ∙ ap (λ o. with_pair (option_map (λ place. (place, c.args.code)) o) (from_entries c.args.places.now.entries)) (sym c.in-Some.is)
