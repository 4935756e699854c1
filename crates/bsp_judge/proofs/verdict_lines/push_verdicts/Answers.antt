use Rattle.std.proofs.Common.{◌+◌, refl}
use Rattle.bsp_judge.proofs.JudgeLemmas.{verdict_all, verdict_more}
use Rattle.bsp_judge.proofs.verdict_lines.push_verdicts.Goals as goal

pub loop-index-preserved : goal.loop-index-preserved
loop-index-preserved c =
    verdict_more c.args.verdicts.now c.loop-index.index (c.loop-index.index + 1) c.index-verdicts-index.result c.args.text.now.items c.loop-index.text.items c.push_verdict.new.text.items
    c.loop-index-test.true c.index-verdicts-index.is refl c.loop-index.invariant c.in_ok-push_verdict.ensures

pub returns : goal.returns
returns c = verdict_all c.args.verdicts.now c.loop-index.index c.args.text.now.items c.loop-index.text.items c.loop-index-test.false c.loop-index.invariant
