use Rattle.std.proofs.Common.{ℕ, List, ◌++◌, ap, ◌∙◌}
use Rattle.bsp_fault_texts.proofs.TextLemmas.{all_of, one_more}
use Rattle.bsp_fault_texts.proofs.texts.push_all.Goals as goal

pub loop-part-preserved : goal.loop-part-preserved
loop-part-preserved c =
    one_more (λ part. part.now) c.args.parts.now c.loop-part.part-index _ c.args.text.now.items c.loop-part.text.items c.extend_from_slice.new.self.items c.loop-part-test.true c.loop-part.invariant
    (c.in_ok-extend_from_slice.ensures.items ∙ ap (λ (l : List ℕ). c.loop-part.text.items ++ l) c.as_bytes.ensures.value)

pub returns : goal.returns
returns c = all_of (λ part. part.now) c.args.parts.now c.loop-part.part-index c.args.text.now.items c.loop-part.text.items c.loop-part-test.false c.loop-part.invariant
