use Rattle.std.proofs.Common.{◌≡◌, ◌==◌, List, refl, ap, ◌∙◌}
use Rattle.std.specs.FinMap.{empty, entries, values}
use Rattle.bsp_maps.specs.Undo.{content}
use Rattle.bsp_maps.specs.Windows.{values_in}
use Rattle.bsp_maps.specs.Picks.{with_keys}
use Rattle.bsp_maps.proofs.PickLemmas.{all_found, if_ok}
use Rattle.bsp_rows.specs.Selected.{numbers_of, selected, shares}
use Rattle.bsp_rows.specs.Item.{Item}
use Rattle.bsp_rows.specs.Transaction.{Transaction}
use Rattle.std.specs.List.{filter}
use Rattle.bsp_rows.specs.declared.keys.ItemKey.{ItemKey}
use Rattle.bsp_rows.specs.Rows.{item_cmp}
use Rattle.bsp_rows.proofs.KeyOrders.{item_exact, item_total}
use Rattle.bsp_memory_tables.specs.Numbers.{is_bearing, keys_at_each, number_cmp}
use Rattle.bsp_memory_tables.proofs.NumberLemmas.{all_bearing, two_tests}
use Rattle.bsp_memory_tables.proofs.items.ItemTable.bearing.Goals as goal

chosen : (t : Transaction) (items : List Item) → filter (shares (numbers_of t)) items ≡ selected t items
unfolding selected
chosen t items = refl

pub returns : goal.returns
returns c =
    let agent = c.args.agent in
    let t = c.args.transaction.now in
    let items = content item_cmp c.args.self.now.rows in
    let index = content number_cmp c.args.self.now.by_number in
    if_ok c.picked.result (λ v e h. e
    ∙ ap (λ ks. values (with_keys {R = item_cmp} (is_bearing agent t) items ks empty)) (c.deref.ensures.value ∙ c.in_ok-keys.ensures)
    ∙ all_found item_cmp item_total item_exact (is_bearing agent t) items (keys_at_each index agent (numbers_of t)) (all_bearing items index agent t h.by_number)
    ∙ two_tests (λ (k : ItemKey). k.agent == agent) (shares (numbers_of t)) (entries items)
    ∙ chosen t (values_in (λ (k : ItemKey). k.agent == agent) (entries items))) c.picked.ensures
