use Rattle.std.proofs.Common.{◌++◌, ◌∙◌, subst, Option}
use Rattle.std.specs.Option.{option_to_list}
use Rattle.bsp_rows.specs.Item.{Item}
use Rattle.bsp_memory_tables.specs.TallyTables.{tally_rows}
use Rattle.bsp_memory_rows.specs.Kept.{AreAddedUp}
use Rattle.bsp_memory_rows.proofs.TallySteps.{on_ok}
use Rattle.bsp_memory_rows.proofs.tallies.recount_item.Goals as goal

pub returns-in_ok-discount_item-in-Some-clause-ok : goal.returns-in_ok-discount_item-in-Some-clause-ok
returns-in_ok-discount_item-in-Some-clause-ok c = on_ok c.count_item-in-Some.result (λ count items memos before.
    count items memos (c.in_ok-discount_item-in-Some.ensures.ok items memos
    (subst (λ (o : Option Item). AreAddedUp (option_to_list o ++ items) memos (tally_rows c.args.tallies.now)) c.in-Some.is before))) c.count_item-in-Some.ensures.ok

pub returns-in_ok-discount_item-in-Some-clause-before : goal.returns-in_ok-discount_item-in-Some-clause-before
returns-in_ok-discount_item-in-Some-clause-before c = c.count_item-in-Some.ensures.before ∙ c.discount_item.ensures.before

pub returns-in_ok-discount_item-in-Some-clause-kept : goal.returns-in_ok-discount_item-in-Some-clause-kept
returns-in_ok-discount_item-in-Some-clause-kept c = on_ok c.count_item-in-Some.result (λ counts old. counts (c.in_ok-discount_item-in-Some.ensures.kept old)) c.count_item-in-Some.ensures.kept

pub returns-in_ok-discount_item-in-Some-clause-was_kept : goal.returns-in_ok-discount_item-in-Some-clause-was_kept
returns-in_ok-discount_item-in-Some-clause-was_kept c = λ old. c.count_item-in-Some.ensures.was_kept (c.discount_item.ensures.was_kept old)

pub returns-in-None-clause-ok : goal.returns-in-None-clause-ok
returns-in-None-clause-ok c = on_ok c.count_item.result (λ count items memos before.
    count items memos (subst (λ (o : Option Item). AreAddedUp (option_to_list o ++ items) memos (tally_rows c.args.tallies.now)) c.in-None.is before)) c.count_item.ensures.ok
