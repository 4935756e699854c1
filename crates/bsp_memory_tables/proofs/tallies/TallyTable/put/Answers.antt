use Rattle.std.proofs.Common.{refl, ap, ◌∙◌}
use Rattle.std.specs.FinMap.{insert}
use Rattle.std.specs.Ordering.{nat_cmp}
use Rattle.bsp_maps.specs.Undo.{content}
use Rattle.bsp_maps.specs.Indexes.{found_place, members}
use Rattle.bsp_maps.proofs.EntryLemmas.{then_ok}
use Rattle.bsp_maps.proofs.IndexLemmas.{index_written}
use Rattle.bsp_rows.specs.Tallies.{tally_cmp}
use Rattle.bsp_rows.proofs.KeyOrders.{tally_exact, tally_total}
use Rattle.bsp_memory_tables.specs.Places.{airline_cmp, tally_airline_place, tally_period_place}
use Rattle.bsp_memory_tables.proofs.PlaceOrders.{tallies_by_airline, tallies_by_period}
use Rattle.bsp_memory_tables.proofs.TableLemmas.{tallies_same}
use Rattle.bsp_memory_tables.proofs.tallies.TallyTable.put.Goals as goal

pub relocate-requires : goal.relocate-requires
relocate-requires c = tallies_by_airline

pub relocate-requires-2 : goal.relocate-requires-2
relocate-requires-2 c = tallies_by_period

pub returns-clause-kept : goal.returns-clause-kept
returns-clause-kept c =
    let key = c.args.key.now in
    let tally = c.args.tally.now in
    let rows = content tally_cmp c.args.self.now.rows in
    let airlines = members airline_cmp tally_cmp c.relocate.new.self in
    let periods = members nat_cmp tally_cmp c.relocate-2.new.self in
    then_ok c.relocate-2.result (λ moved h. tallies_same (insert rows key tally) (content tally_cmp c.replace.new.self) airlines airlines periods periods c.in_ok-old.ensures.ok refl refl (record {
      by_airline = index_written airline_cmp tally_cmp tally_airline_place tally_total tally_exact rows key tally (members airline_cmp tally_cmp c.args.self.now.by_airline) airlines c.tally_airline_place.result c.tally_airline_place-2.result
          (c.tally_airline_place.ensures ∙ ap (found_place tally_airline_place key) c.in_ok-old.ensures.old) c.tally_airline_place-2.ensures c.in_ok-relocate.ensures.ok h.by_airline;
      by_period = index_written nat_cmp tally_cmp tally_period_place tally_total tally_exact rows key tally (members nat_cmp tally_cmp c.args.self.now.by_period) periods c.tally_period_place.result c.tally_period_place-2.result
          (c.tally_period_place.ensures ∙ ap (found_place tally_period_place key) c.in_ok-old.ensures.old) c.tally_period_place-2.ensures moved h.by_period;
    })) c.relocate-2.ensures.ok
