use Rattle.std.proofs.Common.{ℕ, List}
use Rattle.std.specs.FinMap.{FinMap}
use Rattle.std.specs.Ordering.{nat_cmp}
use Rattle.bsp_rows.specs.Audit.{rows_of}
use Rattle.bsp_rows.specs.Sound.{Sound}
use Rattle.bsp_rows.proofs.AuditSteps.{each_last_if_ok, refused}
use Rattle.bsp_rows.proofs.ItemTies.{items_audited, items_sound}
use Rattle.bsp_rows.proofs.MemoTies.{memos_audited, memos_sound}
use Rattle.bsp_rows.proofs.audit.are_sound.Goals as goal

pub returns-then-not-branch-2 : goal.returns-then-not-branch-2
returns-then-not-branch-2 c airlines =
    let stock = c.in_ok-are_ranges_sound.ensures.0 c.if-not-branch.false in
    refused {Q = Sound (rows_of c.args.plan.now airlines c.args.agents.now c.args.ranges.now c.args.items.now c.args.memos.now)} c.in_ok-are_items_sound.field-0 c.if-not-branch-2.true c.in_ok-are_items_sound.ensures
    (λ s. items_audited c.args.plan.now c.args.agents.now c.args.ranges.now c.args.items.now c.len-items.ensures.ordered stock s.items)

pub returns : goal.returns
returns c =
    let stock = c.in_ok-are_ranges_sound.ensures.0 c.if-not-branch.false in
    let items = items_sound c.args.plan.now c.args.agents.now c.args.ranges.now c.args.items.now c.len-items.ensures.ordered stock (c.in_ok-are_items_sound.ensures.0 c.if-not-branch-2.false) in
    each_last_if_ok {X = FinMap nat_cmp (List ℕ)} {Q = λ airlines. Sound (rows_of c.args.plan.now airlines c.args.agents.now c.args.ranges.now c.args.items.now c.args.memos.now)} c.are_memos_sound.result c.are_memos_sound.ensures
    (λ airlines a. record { plan = c.meets_rules.ensures; ranges = stock; items = items; memos = memos_sound c.args.plan.now c.args.agents.now c.args.memos.now c.len-memos.ensures.ordered a })
    (λ airlines s. memos_audited c.args.plan.now c.args.agents.now c.args.memos.now c.len-memos.ensures.ordered s.memos)
