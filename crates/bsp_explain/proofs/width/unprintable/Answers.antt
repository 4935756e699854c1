use Rattle.std.proofs.Common.{◌≡◌, sym, ◌∙◌, arith}
use Rattle.bsp_explain.proofs.WidthLemmas.{unprintable_at, printable_more, printable_all}
use Rattle.bsp_explain.proofs.width.unprintable.Goals as goal

pub returns-then-not-is_printable-clause-some : goal.returns-then-not-is_printable-clause-some
returns-then-not-is_printable-clause-some c =
    unprintable_at c.args.line.now c.loop-index.index c.requires c.loop-index-test.true (sym c.is_printable.ensures ∙ c.if-not-is_printable.true) c.loop-index.invariant

pub loop-index-preserved : goal.loop-index-preserved
loop-index-preserved c =
    printable_more c.args.line.now c.loop-index.index c.requires c.loop-index-test.true (sym c.is_printable.ensures ∙ c.if-not-is_printable.false) c.loop-index.invariant

pub returns-clause-none : goal.returns-clause-none
returns-clause-none c =
    let last : c.loop-index.index ≡ 136 = omega (arith, c.loop-index-test.false, c.loop-index.auto.index-end) in
    printable_all c.args.line.now c.loop-index.index c.requires last c.loop-index.invariant
