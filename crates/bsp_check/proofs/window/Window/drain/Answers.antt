use Rattle.bsp_check.proofs.WindowLemmas.{draining_more, draining_stops}
use Rattle.bsp_check.proofs.window.Window.drain.Goals as goal

pub loop-self-preserved : goal.loop-self-preserved
loop-self-preserved g c =
    let l = c.loop-self in
    record { draining = draining_more _ c.args.self.now l.self c.advance.new.self _ _ _ l.invariant.draining c.in-Ok.ensures.filled }

pub returns-in-Err-clause-stopped : goal.returns-in-Err-clause-stopped
returns-in-Err-clause-stopped g c =
    let l = c.loop-self in draining_stops c.in-Err.fault c.args.self.now l.self _ _ _ l.invariant.draining c.in-Err.ensures.stopped
