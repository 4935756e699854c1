use Rattle.std.proofs.Common.{◌<◌, length, arith}
use Rattle.bsp_check.specs.Judging.{most_unended}
use Rattle.bsp_check.proofs.TakingLemmas.{takes_none, takes_more, to_wide, to_narrow}
use Rattle.bsp_check.proofs.taking.take_lines.Goals as goal

pub loop-rest-init : goal.loop-rest-init
loop-rest-init g c = record { takes = takes_none g.J.Judge.HasTaken c.args.ended c.args.judge.now c.args.text.now }

pub returns-in_default : goal.returns-in_default
returns-in_default g c =
    let l = c.loop-rest in
    let some : most_unended c.args.ended < length l.rest.now = omega (arith, c.loop-rest-test.true, c.most_unended-most.ensures) in
    record { taken = to_narrow g.J.Judge.HasTaken g.J.Judge.IsAtFault c.args.ended c.args.judge.now l.judge c.no_record.result c.args.text.now l.rest.now l.invariant.takes c.in_default.ensures.none some c.no_record.ensures }

pub returns-in-Ok-Some : goal.returns-in-Ok-Some
returns-in-Ok-Some g c =
    let l = c.loop-rest in
    let first = c.in-Some.ensures in
    let found = c.in-Ok-Some.ensures in
    let some : most_unended c.args.ended < length l.rest.now = omega (arith, c.loop-rest-test.true, c.most_unended-most.ensures) in
    record { taken = to_wide g.J.Judge.HasTaken g.J.Judge.IsAtFault c.args.ended c.args.judge.now l.judge c.take.new.self _ c.in-Ok-Some.fault c.args.text.now l.rest.now c.in-Some.line.now c.in-Some.after.now l.invariant.takes first.first some first.long c.in-Ok-Some.field-0-is found.refused found.same }

pub loop-rest-preserved : goal.loop-rest-preserved
loop-rest-preserved g c =
    let l = c.loop-rest in
    let first = c.in-Some.ensures in
    let some : most_unended c.args.ended < length l.rest.now = omega (arith, c.loop-rest-test.true, c.most_unended-most.ensures) in
    record { takes = takes_more g.J.Judge.HasTaken c.args.ended c.args.judge.now l.judge c.take.new.self _ c.args.text.now l.rest.now c.in-Some.line.now c.in-Some.after.now l.invariant.takes first.first some first.long c.in-Ok-None.field-0-is c.in-Ok-None.ensures.taken }
