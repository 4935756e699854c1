use Rattle.std.proofs.Common.{◌∷◌, sym}
use Rattle.bsp_rows.specs.Removal.{without_item}
use Rattle.bsp_rows.specs.Tallies.{added_up, item_tally_key, key_tally}
use Rattle.bsp_memory_tables.specs.TallyTables.{tally_rows}
use Rattle.bsp_memory_rows.proofs.TallySteps.{both_ok, item_discounted, item_elsewhere, kept}
use Rattle.bsp_memory_rows.proofs.tallies.discount_item.Goals as goal

pub returns-clause-ok : goal.returns-clause-ok
returns-clause-ok c = both_ok c.put_tally.result (λ put there items memos before.
    kept (tally_rows c.args.tallies.now) (tally_rows c.put_tally.new.tallies) (without_item c.args.item.now) c.of_item-key.result (item_tally_key c.args.item.now) c.tally_at.result c.without_item-tally.result _
    (λ k. added_up (key_tally k) (c.args.item.now ∷ items) memos) (λ k. added_up (key_tally k) items memos)
    c.of_item-key.ensures c.tally_at.ensures c.without_item-tally.ensures there put
    (item_discounted items memos c.args.item.now) (λ k apart. sym (item_elsewhere items memos c.args.item.now k apart)) before) c.put_tally.ensures.ok c.put_tally.ensures.some
