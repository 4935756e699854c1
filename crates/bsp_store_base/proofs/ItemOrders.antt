-- The rows of each table, in the order of their keys.
use Rattle.bsp_store_base.proofs.Std.{◌∙◌, ◌≡◌, entries, Less, map}
use Rattle.sqlite_trees.specs.Tree.{IsAscending}
use Rattle.bsp_store_base.proofs.Entries.{item_cmp, tally_cmp}
use Rattle.bsp_store_base.proofs.Base.{by_keys, code_order, Content, entries_rise, flag_order, IsBefore, IsFormed, IsItemEntry, IsSecondEntry, IsTallyKey, item_row, item_tax_row, rows_rise, second_row, tally_tax_row, three_orders, ticket_cmp, two_orders}
use Rattle.bsp_store_base.specs.ItemTables.{item_taxes_map, items_map, seconds_map, tally_taxes_map}

pub items_rise : (c : Content) → IsFormed c → IsAscending (IsBefore (by_keys items_map)) (map item_row (entries c.items))
items_rise c formed =
    rows_rise IsItemEntry (λ a b. item_cmp a.0 b.0 ≡ Less) (IsBefore (by_keys items_map)) item_row
    (λ a b f g less. three_orders _ _ _ _ _ _ (code_order 8 a.0.agent b.0.agent f.agent.has_digits g.agent.has_digits) (code_order 10 a.0.number b.0.number f.number g.number) (flag_order a.0.is_canx b.0.is_canx) ∙ less)
    (entries c.items) formed.items (entries_rise item_cmp c.items)

pub item_taxes_rise : (c : Content) → IsFormed c → IsAscending (IsBefore (by_keys item_taxes_map)) (map item_tax_row (entries c.item_taxes))
item_taxes_rise c formed =
    rows_rise IsItemEntry (λ a b. item_cmp a.0 b.0 ≡ Less) (IsBefore (by_keys item_taxes_map)) item_tax_row
    (λ a b f g less. three_orders _ _ _ _ _ _ (code_order 8 a.0.agent b.0.agent f.agent.has_digits g.agent.has_digits) (code_order 10 a.0.number b.0.number f.number g.number) (flag_order a.0.is_canx b.0.is_canx) ∙ less)
    (entries c.item_taxes) formed.item_taxes (entries_rise item_cmp c.item_taxes)

pub tally_taxes_rise : (c : Content) → IsFormed c → IsAscending (IsBefore (by_keys tally_taxes_map)) (map tally_tax_row (entries c.tally_taxes))
tally_taxes_rise c formed =
    rows_rise (λ e. IsTallyKey e.0) (λ a b. tally_cmp a.0 b.0 ≡ Less) (IsBefore (by_keys tally_taxes_map)) tally_tax_row
    (λ a b f g less. three_orders _ _ _ _ _ _ (code_order 8 a.0.agent b.0.agent f.agent.has_digits g.agent.has_digits) (code_order 3 a.0.airline b.0.airline f.airline.has_digits g.airline.has_digits) (code_order 5 a.0.period b.0.period f.period g.period) ∙ less)
    (entries c.tally_taxes) formed.tally_taxes (entries_rise tally_cmp c.tally_taxes)

pub seconds_rise : (c : Content) → IsFormed c → IsAscending (IsBefore (by_keys seconds_map)) (map second_row (entries c.seconds))
seconds_rise c formed =
    rows_rise IsSecondEntry (λ a b. ticket_cmp a.0 b.0 ≡ Less) (IsBefore (by_keys seconds_map)) second_row
    (λ a b f g less. two_orders _ _ _ _ (code_order 8 a.0.agent b.0.agent f.0.has_digits g.0.has_digits) (code_order 10 a.0.number b.0.number f.1 g.1) ∙ less)
    (entries c.seconds) formed.seconds (entries_rise ticket_cmp c.seconds)
