use Rattle.std.proofs.Common.{sym, ◌∙◌}
use Rattle.bsp_hot_explain.proofs.Names.{none_left, other_at, of_all}
use Rattle.bsp_hot_explain.proofs.hot_reasons.name_of.Goals as goal

pub loop-name-init : goal.loop-name-init
loop-name-init c = of_all c.args.digits.now

pub loop-name-preserved : goal.loop-name-preserved
loop-name-preserved c =
    let test = rw (c.as_slice.ensures, c.digits.ensures.text) at c.eq.ensures in
    sym (other_at c.args.digits.now _ c.loop-name.name-index _ c.loop-name-test.true (sym test ∙ c.if-eq.false)) ∙ c.loop-name.invariant

pub returns : goal.returns
returns c = sym (none_left c.args.digits.now _ c.loop-name.name-index c.loop-name-test.false) ∙ c.loop-name.invariant
