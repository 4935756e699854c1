use Rattle.std.proofs.Common.{◌≡◌, sym, ap, ◌∙◌, arith}
use Rattle.bsp_explain.specs.Fields.{all_fit, first_unfit}
use Rattle.bsp_explain.proofs.TaxLemmas.{from_first, place_passed, place_stopped, no_place_left}
use Rattle.bsp_explain.proofs.taxes.tax_field.Goals as goal

pub loop-index-init : goal.loop-index-init
loop-index-init c =
    let from = from_first c.args.start c.args.line.now in
    record { first = ap (first_unfit c.args.line.now) from; all = ap (all_fit c.args.line.now) from }

pub returns-in-Some-clause-first : goal.returns-in-Some-clause-first
returns-in-Some-clause-first c =
    let found = c.in-Some.ensures.some in
    sym (c.loop-index.invariant.first ∙ (place_stopped c.args.start c.args.line.now c.loop-index.index c.in-Some.field c.loop-index-test.true (sym c.in-Some.ensures.first) found.1).0)

pub returns-in-Some-clause-some : goal.returns-in-Some-clause-some
returns-in-Some-clause-some c =
    let found = c.in-Some.ensures.some in
    (found.0, c.loop-index.invariant.all ∙ (place_stopped c.args.start c.args.line.now c.loop-index.index c.in-Some.field c.loop-index-test.true (sym c.in-Some.ensures.first) found.1).1)

pub loop-index-preserved : goal.loop-index-preserved
loop-index-preserved c =
    let passed = place_passed c.args.start c.args.line.now c.loop-index.index c.loop-index-test.true (sym c.in_default.ensures.first) c.in_default.ensures.none in
    record { first = c.loop-index.invariant.first ∙ passed.0; all = c.loop-index.invariant.all ∙ passed.1 }

pub returns-clause-first : goal.returns-clause-first
returns-clause-first c =
    let last : c.loop-index.index ≡ 6 = omega (arith, c.loop-index-test.false, c.loop-index.auto.index-end) in
    sym (c.loop-index.invariant.first ∙ (no_place_left c.args.start c.args.line.now c.loop-index.index last).0)

pub returns-clause-none : goal.returns-clause-none
returns-clause-none c =
    let last : c.loop-index.index ≡ 6 = omega (arith, c.loop-index-test.false, c.loop-index.auto.index-end) in
    c.loop-index.invariant.all ∙ (no_place_left c.args.start c.args.line.now c.loop-index.index last).1
