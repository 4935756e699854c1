use Rattle.std.proofs.Common.{◌==◌, ap, ◌∙◌}
use Rattle.std.specs.FinMap.{empty, entries, values}
use Rattle.bsp_maps.specs.Undo.{content}
use Rattle.bsp_maps.specs.Picks.{with_keys}
use Rattle.bsp_maps.proofs.PickLemmas.{all_found, if_ok}
use Rattle.bsp_rows.specs.declared.keys.ItemKey.{ItemKey}
use Rattle.bsp_rows.specs.Rows.{item_cmp}
use Rattle.bsp_rows.proofs.KeyOrders.{item_exact, item_total}
use Rattle.bsp_memory_tables.specs.Numbers.{bears, is_with_number, keys_at, number_cmp}
use Rattle.bsp_memory_tables.proofs.NumberLemmas.{all_with_number, two_tests}
use Rattle.bsp_memory_tables.proofs.items.ItemTable.with_number.Goals as goal

pub returns : goal.returns
returns c =
    let agent = c.args.agent in
    let number = c.args.number.now in
    let items = content item_cmp c.args.self.now.rows in
    let index = content number_cmp c.args.self.now.by_number in
    if_ok c.picked.result (λ v e h. e
    ∙ ap (λ ks. values (with_keys {R = item_cmp} (is_with_number agent number) items ks empty)) (c.deref.ensures.value ∙ c.in_ok-keys.ensures)
    ∙ all_found item_cmp item_total item_exact (is_with_number agent number) items (keys_at index agent number) (all_with_number items index agent number h.by_number)
    ∙ two_tests (λ (k : ItemKey). k.agent == agent) (bears number) (entries items)) c.picked.ensures
