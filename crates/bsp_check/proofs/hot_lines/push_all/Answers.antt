use Rattle.bsp_check.proofs.TextLemmas.{all_of, one_more}
use Rattle.bsp_check.proofs.hot_lines.push_all.Goals as goal

pub loop-text-preserved : goal.loop-text-preserved
loop-text-preserved c =
    one_more (λ text. text.now) c.args.texts.now c.loop-text.text-index _ c.args.out.now.items c.loop-text.out.items c.extend_from_slice.new.self.items c.loop-text-test.true c.loop-text.invariant
    c.in_ok-extend_from_slice.ensures.items

pub returns : goal.returns
returns c = all_of (λ text. text.now) c.args.texts.now c.loop-text.text-index c.args.out.now.items c.loop-text.out.items c.loop-text-test.false c.loop-text.invariant
