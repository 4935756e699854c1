use Rattle.std.proofs.Common.{◌∷◌, refl, sym, ◌∙◌}
use Rattle.bsp_rows.specs.Removal.{without_memo}
use Rattle.bsp_rows.specs.Tallies.{added_up, key_tally}
use Rattle.bsp_memory_tables.specs.TallyTables.{tally_rows}
use Rattle.bsp_memory_rows.proofs.TallySteps.{both_ok, memo_discounted, memo_elsewhere, kept}
use Rattle.bsp_memory_rows.proofs.tallies.discount_memo.Goals as goal

pub returns-in-Some-clause-ok : goal.returns-in-Some-clause-ok
returns-in-Some-clause-ok c =
    let has = sym c.of_memo.ensures ∙ c.in-Some.is in
    both_ok c.put_tally.result (λ put there items memos before.
    kept (tally_rows c.args.tallies.now) (tally_rows c.put_tally.new.tallies) (without_memo c.args.memo.now) c.in-Some.key c.in-Some.key c.tally_at.result c.without_memo-tally.result _
    (λ k. added_up (key_tally k) items (c.args.memo.now ∷ memos)) (λ k. added_up (key_tally k) items memos)
    refl c.tally_at.ensures c.without_memo-tally.ensures there put
    (memo_discounted items memos c.args.memo.now c.in-Some.key has) (λ k apart. sym (memo_elsewhere items memos c.args.memo.now k c.in-Some.key has apart)) before) c.put_tally.ensures.ok c.put_tally.ensures.some
