use Rattle.std.proofs.Common.{◌∙◌, ap}
use Rattle.bsp_words.specs.Order.{mark_of}
use Rattle.bsp_words.proofs.OrderLemmas.{step_more}
use Rattle.bsp_words.proofs.order.push_in_order.Goals as goal

pub loop-word-preserved : goal.loop-word-preserved
loop-word-preserved g c =
    step_more g.S.AsStr.text c.args.words.now c.args.closed.now c.loop-word.word-index c.loop-word.taken c.next_of-next.result.1 c.word-item.result _ c.loop-word.earlier.items c.push_some.new.items.items c.mark_of.result c.next_of-next.result.0
    c.loop-word-test.true (c.mark_of.ensures ∙ ap mark_of (c.as_bytes.ensures.value ∙ c.as_str.ensures ∙ ap g.S.AsStr.text c.word-item.is)) c.loop-word.invariant c.next_of-next.ensures
    c.in_ok-push_some.ensures
