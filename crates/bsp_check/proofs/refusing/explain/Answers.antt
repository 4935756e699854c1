use Rattle.std.proofs.Common.{ℕ, List}
use Rattle.bsp_check.specs.Judging.{Explains}
use Rattle.bsp_check.proofs.JudgingLemmas.{explained_here}
use Rattle.bsp_check.proofs.refusing.explain.Goals as goal

pub returns-then-has_line-clause-explained : goal.returns-then-has_line-clause-explained
returns-then-has_line-clause-explained g c =
    let Says : List ℕ → Type 0 = Explains g.J.Judge.HasTaken g.J.Judge.IsAtFault g.J.Judge.IsRefusal c.args.judge.now c.args.fault c.explain_line.result in
    explained_here Says c.text.result.now c.args.window.now _ c.requires.window c.requires.end (c.has_line.ensures.whole c.if-has_line.true) c.text.ensures.text c.explain_line.ensures
