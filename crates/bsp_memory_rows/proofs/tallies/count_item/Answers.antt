use Rattle.std.proofs.Common.{◌∷◌}
use Rattle.bsp_rows.specs.PostingsTallies.{with_item}
use Rattle.bsp_rows.specs.Tallies.{added_up, item_tally_key, key_tally}
use Rattle.bsp_memory_tables.specs.TallyTables.{tally_rows}
use Rattle.bsp_memory_rows.proofs.TallySteps.{both_ok, item_counted, item_elsewhere, kept}
use Rattle.bsp_memory_rows.proofs.tallies.count_item.Goals as goal

pub returns-clause-ok : goal.returns-clause-ok
returns-clause-ok c = both_ok c.put_tally.result (λ put there items memos before.
    kept (tally_rows c.args.tallies.now) (tally_rows c.put_tally.new.tallies) (with_item c.args.item.now) c.of_item-key.result (item_tally_key c.args.item.now) c.tally_at.result c.with_item-tally.result _
    (λ k. added_up (key_tally k) items memos) (λ k. added_up (key_tally k) (c.args.item.now ∷ items) memos)
    c.of_item-key.ensures c.tally_at.ensures c.with_item-tally.ensures there put
    (item_counted items memos c.args.item.now) (item_elsewhere items memos c.args.item.now) before) c.put_tally.ensures.ok c.put_tally.ensures.some
