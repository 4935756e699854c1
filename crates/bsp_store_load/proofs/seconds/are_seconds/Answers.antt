use Rattle.bsp_store_base.proofs.Std.{◌∙◌, ap, entries, filter_map, same_entries_map, sym}
use Rattle.bsp_maps.proofs.ContentLemmas.{of_content}
use Rattle.bsp_store_base.proofs.Entries.{in_order, item_total}
use Rattle.bsp_memory_tables.specs.ItemTables.{item_rows}
use Rattle.bsp_store_base.proofs.Base.{entries-seconds_of, second_entry, ticket_total}
use Rattle.bsp_store_load.proofs.seconds.are_seconds.Goals as goal

pub returns : goal.returns
returns c =
    let items = item_rows c.args.items.now in
    let all = ap (filter_map second_entry) (of_content item_total c.args.items.now.rows c.map-all.result.now c.map-all.ensures c.len-count.ensures.ordered) ∙ sym (entries-seconds_of items) in
    let own = in_order ticket_total c.args.seconds.now.entries c.len-own.ensures.ordered in (
      λ t. same_entries_map _ _ (own ∙ c.are_seconds_of.ensures.0 t ∙ all),
      λ is. c.are_seconds_of.ensures.1 (sym own ∙ ap entries is ∙ sym all),
    )
