use Rattle.std.proofs.Common.{sym, ◌∙◌, arith}
use Rattle.bsp_fields.proofs.RestLemmas.{lines_empty}
use Rattle.bsp_hot_check.proofs.PieceLemmas.{passes_none, passes_more, passes_all, are_refused, narrow_refused}
use Rattle.bsp_hot_check.proofs.model.Standing.take_last.Goals as goal

pub loop-rest-init : goal.loop-rest-init
loop-rest-init c = record { passes = passes_none c.args.self.now c.args.bytes.now; small = c.requires.small; room = omega arith }

pub returns-in_default-clause-refused : goal.returns-in_default-clause-refused
returns-in_default-clause-refused c = narrow_refused c.loop-rest.self c.loop-rest.rest.now c.in_default.ensures.none

pub returns-then-not-take_line-clause-stopped : goal.returns-then-not-take_line-clause-stopped
returns-then-not-take_line-clause-stopped c = rw (c.take_line.ensures.same c.if-not-take_line.true) c.loop-rest.invariant.passes

pub returns-then-not-take_line-clause-refused : goal.returns-then-not-take_line-clause-refused
returns-then-not-take_line-clause-refused c =
    let l = c.loop-rest in
    rw (c.take_line.ensures.same c.if-not-take_line.true) (are_refused l.self l.rest.now c.in-Some.line.now c.in-Some.after.now c.in-Some.ensures.first (c.take_line.ensures.refused c.if-not-take_line.true))

pub returns-then-not-take_line-clause-small : goal.returns-then-not-take_line-clause-small
returns-then-not-take_line-clause-small c = rw (c.take_line.ensures.same c.if-not-take_line.true) c.loop-rest.invariant.small

pub returns-then-not-take_line-clause-records : goal.returns-then-not-take_line-clause-records
returns-then-not-take_line-clause-records c = rw (c.take_line.ensures.same c.if-not-take_line.true) (omega (arith, c.loop-rest.invariant.room))

pub loop-rest-preserved : goal.loop-rest-preserved
loop-rest-preserved c =
    let l = c.loop-rest in
    let first = c.in-Some.ensures.first in
    let taken = c.take_line.ensures.taken c.if-not-take_line.false in
    let small = c.take_line.ensures.small c.if-not-take_line.false in
    record {
      passes = passes_more c.args.self.now l.self c.take_line.new.self c.args.bytes.now l.rest.now c.in-Some.line.now c.in-Some.after.now l.invariant.passes first taken;
      small = small.small;
      room = omega (arith, small.records, first.shorter, l.invariant.room);
    }

pub returns-clause-all : goal.returns-clause-all
returns-clause-all c =
    let l = c.loop-rest in
    passes_all c.args.self.now l.self c.args.bytes.now l.rest.now l.invariant.passes (lines_empty l.rest.now (sym c.is_empty.ensures ∙ c.loop-rest-test.false))
