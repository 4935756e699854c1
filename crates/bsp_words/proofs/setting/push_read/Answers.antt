use Rattle.std.proofs.Common.{◌∙◌, sym}
use Rattle.bsp_words.proofs.OrderLemmas.{read_more, read_no_more}
use Rattle.bsp_words.proofs.setting.push_read.Goals as goal

pub loop-text-preserved : goal.loop-text-preserved
loop-text-preserved g c =
    rw (c.in_ok-push.ensures.items)
    (read_more g.T.FromText.reading c.loop-text.items.items c.args.texts.now c.loop-text.text-index _ c.in-Some.item _ c.loop-text-test.true (sym c.in-Some.is ∙ c.from_text.ensures) c.loop-text.invariant)

pub returns-in_default : goal.returns-in_default
returns-in_default g c = read_no_more g.T.FromText.reading c.loop-text.items.items c.args.texts.now c.loop-text.text-index _ _ c.loop-text-test.true (sym c.in_default.is ∙ c.from_text.ensures) c.loop-text.invariant
