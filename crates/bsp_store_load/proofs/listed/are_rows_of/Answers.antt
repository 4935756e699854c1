use Rattle.bsp_store_base.proofs.Std.{◌∙◌, ap, deref_pair, filter, rest_all, rest_more, subst, sym}
use Rattle.bsp_store_load.proofs.Remaining.{AreLeft, ended, filter_on, filter_past, must_be, some_left, taken}
use Rattle.bsp_store_load.proofs.listed.are_rows_of.Goals as goal

pub loop-key-preserved-then-not-holds : goal.loop-key-preserved-then-not-holds
loop-key-preserved-then-not-holds g c =
    let more = rest_more deref_pair c.loop-key.key-iterator c.next.new.self c.next.result (c.in-Some.key, c.in-Some.value) c.in-Some.is c.next.ensures.steps in
    subst (AreLeft g.T.RowOf.row_of g.T.RowOf.has_row c.args.rows.now _ c.loop-key.rest.now) (filter_past (λ e. g.H.Rule.holds c.args.rule.now e.0 e.1) more (sym c.holds.ensures ∙ c.if-not-holds.true)) c.loop-key.invariant

pub loop-key-preserved : goal.loop-key-preserved
loop-key-preserved g c =
    let more = rest_more deref_pair c.loop-key.key-iterator c.next.new.self c.next.result (c.in-Some.key, c.in-Some.value) c.in-Some.is c.next.ensures.steps in
    let next = filter_on (λ e. g.H.Rule.holds c.args.rule.now e.0 e.1) more (sym c.holds.ensures ∙ c.if-not-holds.false) in
    taken c.loop-key.invariant next c.in-Some-split_first.ensures.cases.0 (c.is_row_of.ensures.same c.if-not-is_row_of.false)

pub returns-clause-same : goal.returns-clause-same
returns-clause-same g c =
    let none = rest_all deref_pair c.loop-key.key-iterator c.next.new.self c.next.result c.in-None.is c.next.ensures.steps in
    (ended c.loop-key.invariant (ap (filter (λ e. g.H.Rule.holds c.args.rule.now e.0 e.1)) none) _ c.is_empty.ensures).0

pub returns-clause-whole : goal.returns-clause-whole
returns-clause-whole g c =
    let none = rest_all deref_pair c.loop-key.key-iterator c.next.new.self c.next.result c.in-None.is c.next.ensures.steps in
    (ended c.loop-key.invariant (ap (filter (λ e. g.H.Rule.holds c.args.rule.now e.0 e.1)) none) _ c.is_empty.ensures).1

pub returns-in_default-clause-whole : goal.returns-in_default-clause-whole
returns-in_default-clause-whole g c =
    let more = rest_more deref_pair c.loop-key.key-iterator c.next.new.self c.next.result (c.in-Some.key, c.in-Some.value) c.in-Some.is c.next.ensures.steps in
    some_left c.loop-key.invariant (filter_on (λ e. g.H.Rule.holds c.args.rule.now e.0 e.1) more (sym c.holds.ensures ∙ c.if-not-holds.false)) c.in_default.ensures.cases

pub returns-then-not-is_row_of-clause-whole : goal.returns-then-not-is_row_of-clause-whole
returns-then-not-is_row_of-clause-whole g c =
    let more = rest_more deref_pair c.loop-key.key-iterator c.next.new.self c.next.result (c.in-Some.key, c.in-Some.value) c.in-Some.is c.next.ensures.steps in
    let next = filter_on (λ e. g.H.Rule.holds c.args.rule.now e.0 e.1) more (sym c.holds.ensures ∙ c.if-not-holds.false) in
    must_be c.loop-key.invariant next c.in-Some-split_first.ensures.cases.0 _ c.if-not-is_row_of.true c.is_row_of.ensures.whole

pub returns-in_default-clause-ordered : goal.returns-in_default-clause-ordered
returns-in_default-clause-ordered g c = c.len-count.ensures.ordered

pub returns-then-not-is_row_of-clause-ordered : goal.returns-then-not-is_row_of-clause-ordered
returns-then-not-is_row_of-clause-ordered g c = c.len-count.ensures.ordered

pub returns-clause-ordered : goal.returns-clause-ordered
returns-clause-ordered g c = c.len-count.ensures.ordered
