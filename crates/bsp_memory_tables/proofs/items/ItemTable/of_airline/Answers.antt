use Rattle.std.proofs.Common.{ap, sym, subst, ◌∙◌}
use Rattle.std.specs.FinMap.{empty, entries, values}
use Rattle.bsp_maps.specs.Picks.{with_keys}
use Rattle.bsp_maps.specs.Undo.{content}
use Rattle.bsp_maps.proofs.PickLemmas.{all_found, if_ok}
use Rattle.bsp_rows.specs.Item.{Item}
use Rattle.bsp_maps.specs.Indexes.{IsLeast, keys_at, members}
use Rattle.bsp_maps.proofs.IndexLemmas.{index_among, passing_values}
use Rattle.bsp_rows.specs.declared.keys.ItemKey.{ItemKey}
use Rattle.bsp_rows.specs.Rows.{is_of_airline, item_cmp}
use Rattle.bsp_rows.proofs.KeyOrders.{item_exact, item_total}
use Rattle.bsp_memory_tables.specs.Places.{airline_cmp, at_airline, item_place}
use Rattle.bsp_memory_tables.proofs.PlaceOrders.{at_airline_place, least_item_key}
use Rattle.bsp_memory_tables.proofs.items.ItemTable.of_airline.Goals as goal

pub keys_at-requires : goal.keys_at-requires
keys_at-requires c = subst (λ (k : ItemKey). IsLeast item_cmp k) (sym c.least_item.ensures) least_item_key

pub returns : goal.returns
returns c =
    let airline = c.args.airline in
    let period = c.args.period in
    let place = at_airline airline period in
    let rows = content item_cmp c.args.self.now.rows in
    let index = members airline_cmp item_cmp c.args.self.now.by_airline in
    let holds = λ (k : ItemKey) (i : Item). is_of_airline airline period i in
    if_ok c.picked.result (λ v e h. e
    ∙ ap (λ ks. values (with_keys {R = item_cmp} holds rows ks empty)) (c.deref.ensures.value ∙ c.in_ok-keys.ensures)
    ∙ all_found item_cmp item_total item_exact holds rows (keys_at airline_cmp item_cmp place index) (index_among airline_cmp item_cmp item_place holds place (at_airline_place place) rows index h.by_airline)
    ∙ passing_values (is_of_airline airline period) (entries rows)) c.picked.ensures
