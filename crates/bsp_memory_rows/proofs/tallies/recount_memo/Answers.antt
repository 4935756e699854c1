use Rattle.std.proofs.Common.{◌∷◌, ◌++◌, sym, subst, Option}
use Rattle.std.specs.Option.{option_to_list}
use Rattle.bsp_rows.specs.MemoFields.{MemoFields}
use Rattle.bsp_memory_tables.specs.TallyTables.{tally_rows}
use Rattle.bsp_memory_rows.specs.Kept.{AreAddedUp}
use Rattle.bsp_memory_rows.proofs.TallySteps.{on_ok}
use Rattle.bsp_memory_rows.proofs.tallies.recount_memo.Goals as goal

pub returns-in_ok-discount_memo-in-Some-clause-ok : goal.returns-in_ok-discount_memo-in-Some-clause-ok
returns-in_ok-discount_memo-in-Some-clause-ok c = on_ok c.count_memo-in-Some.result (λ count items memos before.
    subst (λ (m : MemoFields). AreAddedUp items (m ∷ memos) (tally_rows c.count_memo-in-Some.new.tallies)) c.fields-in-Some-2.ensures.value
    (count items memos (c.in_ok-discount_memo-in-Some.ensures.ok items memos
    (subst (λ (m : MemoFields). AreAddedUp items (m ∷ memos) (tally_rows c.args.tallies.now)) (sym c.fields-in-Some.ensures.value)
    (subst (λ (o : Option MemoFields). AreAddedUp items (option_to_list o ++ memos) (tally_rows c.args.tallies.now)) c.in-Some.is before))))) c.count_memo-in-Some.ensures.ok

pub returns-in-None-clause-ok : goal.returns-in-None-clause-ok
returns-in-None-clause-ok c = on_ok c.count_memo.result (λ count items memos before.
    subst (λ (m : MemoFields). AreAddedUp items (m ∷ memos) (tally_rows c.count_memo.new.tallies)) c.fields.ensures.value
    (count items memos (subst (λ (o : Option MemoFields). AreAddedUp items (option_to_list o ++ memos) (tally_rows c.args.tallies.now)) c.in-None.is before))) c.count_memo.ensures.ok

pub returns-in_ok-discount_memo-in-Some-clause-kept : goal.returns-in_ok-discount_memo-in-Some-clause-kept
returns-in_ok-discount_memo-in-Some-clause-kept c = on_ok c.count_memo-in-Some.result (λ count h. count (c.in_ok-discount_memo-in-Some.ensures.kept h)) c.count_memo-in-Some.ensures.kept
