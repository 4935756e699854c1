use Rattle.std.proofs.Common.{ap, sym, subst, ◌∙◌}
use Rattle.std.specs.FinMap.{empty, values}
use Rattle.bsp_maps.specs.Picks.{with_keys}
use Rattle.bsp_maps.specs.Undo.{content}
use Rattle.bsp_maps.proofs.PickLemmas.{all_found, if_ok}
use Rattle.bsp_maps.specs.Indexes.{IsLeast, keys_at, members}
use Rattle.bsp_maps.proofs.IndexLemmas.{index_among}
use Rattle.bsp_rows.specs.declared.keys.TallyKey.{TallyKey}
use Rattle.bsp_rows.specs.Tallies.{tally_cmp}
use Rattle.bsp_rows.proofs.KeyOrders.{tally_exact, tally_total}
use Rattle.bsp_memory_tables.specs.Places.{airline_cmp, at_airline, tally_airline_place}
use Rattle.bsp_memory_tables.proofs.PlaceOrders.{at_tally_airline, least_tally_key}
use Rattle.bsp_memory_tables.proofs.tallies.TallyTable.of_airline.Goals as goal

pub keys_at-requires : goal.keys_at-requires
keys_at-requires g c = subst (λ (k : TallyKey). IsLeast tally_cmp k) (sym c.least_tally.ensures) least_tally_key

pub returns : goal.returns
returns g c =
    let place = at_airline c.args.airline c.args.period in
    let rows = content tally_cmp c.args.self.now.rows in
    let index = members airline_cmp tally_cmp c.args.self.now.by_airline in
    let holds = g.T.Rule.holds c.args.rule.now in
    if_ok c.picked.result (λ v e h of. e
    ∙ ap (λ ks. values (with_keys {R = tally_cmp} holds rows ks empty)) (c.deref.ensures.value ∙ c.in_ok-keys.ensures)
    ∙ all_found tally_cmp tally_total tally_exact holds rows (keys_at airline_cmp tally_cmp place index) (index_among airline_cmp tally_cmp tally_airline_place holds place (λ k t passes. at_tally_airline c.args.airline c.args.period k t (of k t passes)) rows index h.by_airline)) c.picked.ensures
