use Rattle.bsp_store_load.proofs.Remaining.{ended, must_be, placed_end, placed_on, placed_some, some_left, taken}
use Rattle.bsp_store_load.proofs.listed.are_placed_rows_of.Goals as goal

pub loop-at-preserved : goal.loop-at-preserved
loop-at-preserved g c =
    let more = placed_on c.args.values.now c.loop-at.at c.index-values-at.result c.loop-at-test.true c.index-values-at.is in
    taken c.loop-at.invariant more c.in-Some.ensures.cases.0 (c.is_row_of.ensures.same c.if-not-is_row_of.false)

pub returns-clause-same : goal.returns-clause-same
returns-clause-same g c = (ended c.loop-at.invariant (placed_end c.args.values.now c.loop-at.at c.loop-at-test.false) _ c.is_empty.ensures).0

pub returns-clause-whole : goal.returns-clause-whole
returns-clause-whole g c = (ended c.loop-at.invariant (placed_end c.args.values.now c.loop-at.at c.loop-at-test.false) _ c.is_empty.ensures).1

pub returns-in_default-clause-whole : goal.returns-in_default-clause-whole
returns-in_default-clause-whole g c =
    some_left c.loop-at.invariant (placed_some c.args.values.now c.loop-at.at c.loop-at-test.true).1 c.in_default.ensures.cases

pub returns-then-not-is_row_of-clause-whole : goal.returns-then-not-is_row_of-clause-whole
returns-then-not-is_row_of-clause-whole g c =
    let more = placed_on c.args.values.now c.loop-at.at c.index-values-at.result c.loop-at-test.true c.index-values-at.is in
    must_be c.loop-at.invariant more c.in-Some.ensures.cases.0 _ c.if-not-is_row_of.true c.is_row_of.ensures.whole
