use Rattle.std.proofs.Common.{ap, refl, ◌∙◌}
use Rattle.std.specs.FinMap.{insert}
use Rattle.bsp_maps.specs.Counts.{counted}
use Rattle.bsp_maps.specs.Undo.{content}
use Rattle.bsp_maps.specs.Indexes.{found_place, members}
use Rattle.bsp_maps.proofs.EntryLemmas.{then_ok}
use Rattle.bsp_maps.proofs.IndexLemmas.{index_written}
use Rattle.bsp_rows.specs.Selected.{numbers_of}
use Rattle.bsp_rows.specs.Rows.{item_cmp}
use Rattle.bsp_rows.proofs.KeyOrders.{item_exact, item_total}
use Rattle.bsp_memory_tables.specs.Numbers.{number_cmp, with_numbers}
use Rattle.bsp_memory_tables.specs.Places.{airline_cmp, item_place}
use Rattle.bsp_memory_tables.proofs.NumberLemmas.{indexed}
use Rattle.bsp_memory_tables.specs.Used.{block_cmp}
use Rattle.bsp_memory_tables.proofs.PlaceOrders.{items_by_airline}
use Rattle.bsp_memory_tables.proofs.TableLemmas.{items_same}
use Rattle.bsp_memory_tables.proofs.UsedLemmas.{used_written}
use Rattle.bsp_memory_tables.proofs.items.ItemTable.put.Goals as goal

pub relocate-requires : goal.relocate-requires
relocate-requires c = items_by_airline

pub returns-clause-kept : goal.returns-clause-kept
returns-clause-kept c =
    let key = c.args.key.now in
    let item = c.args.item.now in
    let rows = content item_cmp c.args.self.now.rows in
    let numbers = content number_cmp c.args.self.now.by_number in
    let airlines = members airline_cmp item_cmp c.relocate.new.self in
    let counts = counted block_cmp c.count_number.new.counts in
    then_ok c.put.result (λ e h. items_same (insert rows key item) (content item_cmp c.put.new.self) (with_numbers key (numbers_of item.transaction) numbers) (content number_cmp c.add_numbers.new.index) airlines airlines counts counts
    e c.in_ok-add_numbers.ensures.ok refl refl (record {
      by_number = indexed rows numbers key item h.by_number;
      by_airline = index_written airline_cmp item_cmp item_place item_total item_exact rows key item (members airline_cmp item_cmp c.args.self.now.by_airline) airlines c.item_place.result c.item_place-2.result
          (c.item_place.ensures key ∙ ap (found_place item_place key) c.requires) (c.item_place-2.ensures key) c.in_ok-relocate.ensures.ok h.by_airline;
      used = used_written rows key item (counted block_cmp c.args.self.now.used) counts c.in_ok-count_number.ensures.ok h.used;
    })) c.put.ensures.ok
