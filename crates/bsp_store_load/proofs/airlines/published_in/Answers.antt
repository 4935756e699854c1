use Rattle.bsp_store_base.proofs.Std.{◌∙◌, ap, empty, from_entries, nat_cmp, sym, take, take_all}
use Rattle.bsp_maps.proofs.PickLemmas.{if_ok}
use Rattle.bsp_store_columns.proofs.Placing.{one_more}
use Rattle.bsp_store_load.specs.Stored.{gathered, placed_code, with_pair}
use Rattle.bsp_store_load.proofs.AirlineReads.{codes_in_order}
use Rattle.bsp_store_load.proofs.Gathering.{gathered_last}
use Rattle.bsp_store_load.proofs.airlines.published_in.Goals as goal

pub loop-airline-init : goal.loop-airline-init
loop-airline-init c = ap (from_entries {R = nat_cmp}) c.new-places.ensures.empty

pub loop-airline-preserved : goal.loop-airline-preserved
loop-airline-preserved c =
    let e = c.airline-item.result in
    let so_far = take c.loop-airline.airline-index c.args.airlines.now in
    c.in_ok-note_place.ensures ∙ ap (with_pair (placed_code e)) c.loop-airline.invariant ∙ sym (gathered_last placed_code so_far e empty)
    ∙ ap (λ l. gathered placed_code l empty) (one_more c.args.airlines.now c.loop-airline.airline-index e c.loop-airline-test.true c.airline-item.is)

pub returns : goal.returns
returns c = if_ok c.in_order.result (λ v is codes tokens apart listed.
    is ∙ codes_in_order codes tokens apart c.loop-airline.places
    (c.loop-airline.invariant ∙ ap (λ l. gathered placed_code l empty) (take_all c.loop-airline.airline-index c.args.airlines.now c.loop-airline-test.false ∙ listed)) c.len-count.ensures.ordered) c.in_order.ensures
