use Rattle.bsp_store_base.proofs.Std.{◌∙◌, ap, from_entries, insert, List, nat_cmp, nat_cmp-IsAntisymmetric, nat_cmp_total, Option, Some, sym, ℕ}
use Rattle.bsp_maps.proofs.UndoLemmas.{found, written}
use Rattle.bsp_store_load.proofs.airline_map.put_at.Goals as goal

pub returns : goal.returns
returns c =
    written nat_cmp_total nat_cmp-IsAntisymmetric c.args.airlines.now c.insert.new.self c.args.code _ c.in_ok-insert.ensures.updates.0
    ∙ ap (λ (token : Option (List ℕ)). insert (from_entries {R = nat_cmp} c.args.airlines.now.entries) c.args.code (record { place = Some c.args.place; token = token }))
    (c.copied.ensures ∙ c.get.ensures.value ∙ sym (found nat_cmp_total c.args.tokens.now.entries c.args.code))
