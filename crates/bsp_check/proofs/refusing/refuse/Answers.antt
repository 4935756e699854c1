use Rattle.std.proofs.Common.{ℕ, List}
use Rattle.bsp_check.specs.Windows.{text_of, last_of}
use Rattle.bsp_check.specs.Judging.{Explains}
use Rattle.bsp_check.proofs.WindowLemmas.{later_stops}
use Rattle.bsp_check.proofs.JudgingLemmas.{refused, explained_stops}
use Rattle.bsp_check.proofs.refusing.refuse.Goals as goal

pub returns-in-Err-explain-clause-stopped : goal.returns-in-Err-explain-clause-stopped
returns-in-Err-explain-clause-stopped g c =
    later_stops _ c.in-Err-explain.fault c.args.window.now c.advance.new.self _ _ _ c.in-Ok.ensures.filled c.in-Err-explain.ensures.stopped

pub returns-in-Ok-drain-clause-refused : goal.returns-in-Ok-drain-clause-refused
returns-in-Ok-drain-clause-refused g c =
    let w = c.args.window.now in
    let Says : List ℕ → Type 0 = Explains g.J.Judge.HasTaken g.J.Judge.IsAtFault g.J.Judge.IsRefusal c.args.judge.now c.args.fault c.in-Ok-explain.refusal in
    refused Says (last_of c.args.kept (text_of w)) w c.advance.new.self c.explain.new.window c.drain.new.self _ _ _ _ c.in-Ok.ensures.filled c.in-Ok-explain.ensures.explained c.in-Ok-drain.ensures.drained

pub returns-in-Err-drain-clause-stopped : goal.returns-in-Err-drain-clause-stopped
returns-in-Err-drain-clause-stopped g c =
    let w = c.args.window.now in
    let Says : List ℕ → Type 0 = Explains g.J.Judge.HasTaken g.J.Judge.IsAtFault g.J.Judge.IsRefusal c.args.judge.now c.args.fault c.in-Ok-explain.refusal in
    explained_stops Says (last_of c.args.kept (text_of w)) c.in-Err-drain.fault w c.advance.new.self c.explain.new.window _ _ _ _ c.in-Ok.ensures.filled c.in-Ok-explain.ensures.explained c.in-Err-drain.ensures.stopped
