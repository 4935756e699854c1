use Rattle.std.proofs.Common.{Bool, sym, subst, ◌∙◌}
use Rattle.bsp_check.specs.declared.fault.Fault.TheVariants.{Memory}
use Rattle.bsp_check.specs.Windows.{text_of, last_of}
use Rattle.bsp_check.specs.Judging.{TakesTo}
use Rattle.bsp_check.proofs.TakingLemmas.{taken_none, taken_more, taken_stops}
use Rattle.bsp_check.proofs.WindowLemmas.{later_stops, no_room}
use Rattle.bsp_check.proofs.taking.take_all.Goals as goal

pub loop-window-init : goal.loop-window-init
loop-window-init g c = record { taken = taken_none g.J.Judge.HasTaken g.J.Judge.IsAtFault c.args.judge.now c.args.window.now _ c.requires.none c.requires.window c.requires.nothing c.requires.goes_on }

pub returns-in-Err-clause-stopped : goal.returns-in-Err-clause-stopped
returns-in-Err-clause-stopped g c =
    let l = c.loop-window in
    taken_stops g.J.Judge.HasTaken g.J.Judge.IsAtFault l.judge l.taken.kept c.args.window.now.left l.taken.fault c.in-Err.fault l.window _ _ _ l.invariant.taken c.in-Err.ensures.stopped

pub returns-in-Err-take_lines-clause-stopped : goal.returns-in-Err-take_lines-clause-stopped
returns-in-Err-take_lines-clause-stopped g c =
    let l = c.loop-window in
    let new = c.advance.new in
    taken_stops g.J.Judge.HasTaken g.J.Judge.IsAtFault l.judge l.taken.kept c.args.window.now.left l.taken.fault Memory l.window _ _ _ l.invariant.taken (later_stops (last_of l.taken.kept (text_of l.window)) Memory l.window new.self _ _ _ c.in-Ok.ensures.filled (no_room new.self.left (g.R.Read.remaining new.reader.inner)))

pub loop-window-preserved : goal.loop-window-preserved
loop-window-preserved g c =
    let l = c.loop-window in
    let found = c.in-Ok-take_lines.taken in
    let new = c.advance.new.self in
    let To : Bool → Type 0 = λ ended. TakesTo g.J.Judge.HasTaken g.J.Judge.IsAtFault ended l.judge c.take_lines.new.judge c.text.result.now found.kept found.fault in
    record { taken = taken_more g.J.Judge.HasTaken g.J.Judge.IsAtFault l.judge c.take_lines.new.judge l.taken.kept found.kept c.args.window.now.left l.taken.fault found.fault l.window new c.text.result.now _ _ _ l.invariant.taken (sym c.has_ended.ensures ∙ c.if-not-has_ended.true) c.in-Ok.ensures.filled c.text.ensures.text (subst To c.has_ended-in-loop-window.ensures c.in-Ok-take_lines.ensures.taken) }
