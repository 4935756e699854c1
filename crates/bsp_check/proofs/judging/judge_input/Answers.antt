use Rattle.std.proofs.Common.{arith}
use Rattle.bsp_check.proofs.TakingLemmas.{taken_stops}
use Rattle.bsp_check.proofs.JudgingLemmas.{judged_all, judged_refused, unread}
use Rattle.bsp_check.proofs.judging.judge_input.Goals as goal

pub returns-in_default-fault-clause-answer : goal.returns-in_default-fault-clause-answer
returns-in_default-fault-clause-answer g c =
    let t = c.in-Ok-take_all.taken in
    let w = c.in-Ok.window in
    let found = c.in-Ok-take_all.ensures in
    judged_all g.J.Judge.HasTaken g.J.Judge.IsAtFault g.J.Judge.IsRefusal c.take_all.new.judge t.kept w.left c.args.limit t.fault c.take_all.new.window _ _ c.in-Ok.ensures.left (omega (arith, c.in-Ok.ensures.left, c.requires.limit)) c.in_default-fault.is found.taken (found.ended c.in_default-fault.is)

pub returns-in-Ok-refuse-clause-answer : goal.returns-in-Ok-refuse-clause-answer
returns-in-Ok-refuse-clause-answer g c =
    let t = c.in-Ok-take_all.taken in
    let w = c.in-Ok.window in
    judged_refused g.J.Judge.HasTaken g.J.Judge.IsAtFault g.J.Judge.IsRefusal c.take_all.new.judge t.kept w.left c.args.limit t.fault c.in-Some.fault c.in-Ok-refuse.refusal c.take_all.new.window c.refuse.new.window _ _ _ c.in-Ok.ensures.left c.in-Some.is c.in-Ok-take_all.ensures.taken c.in-Ok-refuse.ensures.refused

pub returns-clause-stopped : goal.returns-clause-stopped
returns-clause-stopped g c =
    let t = c.in-Ok-take_all.taken in
    let w = c.in-Ok.window in
    let stops = taken_stops g.J.Judge.HasTaken g.J.Judge.IsAtFault c.take_all.new.judge t.kept w.left t.fault c.in-Err-refuse.fault c.take_all.new.window _ _ _ c.in-Ok-take_all.ensures.taken c.in-Err-refuse.ensures.stopped in
    unread w.left c.args.limit c.in-Err-refuse.fault _ _ c.in-Ok.ensures.left stops
