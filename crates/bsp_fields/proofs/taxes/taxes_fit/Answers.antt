use Rattle.std.proofs.Common.{◌≡◌, false, ap, sym, ◌∙◌, arith}
use Rattle.std.specs.List.{list_all}
use Rattle.bsp_fields.specs.Columns.{is_space}
use Rattle.bsp_fields.proofs.TaxPlaces.{rest_fits, rest_fits-first, rest_fits-none, taxes-unused, taxes-used, taxes-passed, taxes-stopped, taxes-fallen}
use Rattle.bsp_fields.proofs.taxes.taxes_fit.Goals as goal
use Rattle.bsp_fields.proofs.taxes.taxes_fit.Goals.{then-not-tax_fits-via-then-not-tax_fits, then-not-tax_fits-via-else-not-tax_fits+then-code-before}

pub returns-then-place-eq32 : goal.returns-then-place-eq32
returns-then-place-eq32 c =
    let line = c.args.line.now in
    let unused = taxes-unused line c.tax_place-place.result.now c.loop-index.index c.loop-index.before c.loop-index.invariant c.loop-index-test.true c.requires c.tax_place-place.ensures.place c.if-place-eq32.true in
    c.all_spaces.ensures ∙ ap (list_all is_space) c.taxes_from.ensures ∙ sym unused ∙ rest_fits-first line

pub returns-then-not-tax_fits : goal.returns-then-not-tax_fits
returns-then-not-tax_fits c =
    let line = c.args.line.now in
    let place = c.tax_place-place.result.now in
    let so_far = taxes-used line place c.loop-index.index c.loop-index.before c.loop-index.invariant c.loop-index-test.true c.requires c.tax_place-place.ensures.place c.if-place-eq32.false in
    let refused : rest_fits line 0 0 ≡ false =
    elim c.then-not-tax_fits.branch [
      | then-not-tax_fits-via-then-not-tax_fits w ↦ so_far ∙ taxes-stopped line place c.loop-index.index c.loop-index.before (sym c.tax_fits.ensures ∙ w.if-not-tax_fits.true)
      | then-not-tax_fits-via-else-not-tax_fits+then-code-before w ↦ so_far ∙ taxes-fallen line place c.loop-index.index c.loop-index.before c.tax_code-code.result c.tax_code-code.ensures w.if-code-before.true
    ] in
    sym (sym (rest_fits-first line) ∙ refused)

pub loop-index-preserved : goal.loop-index-preserved
loop-index-preserved c =
    let line = c.args.line.now in
    let place = c.tax_place-place.result.now in
    taxes-used line place c.loop-index.index c.loop-index.before c.loop-index.invariant c.loop-index-test.true c.requires c.tax_place-place.ensures.place c.if-place-eq32.false
    ∙ taxes-passed line place c.loop-index.index c.loop-index.before c.tax_code-code.result (sym c.tax_fits.ensures ∙ c.if-not-tax_fits.false) c.tax_code-code.ensures c.if-code-before.false

pub returns : goal.returns
returns c =
    let last : c.loop-index.index ≡ 6 = omega (arith, c.loop-index-test.false, c.loop-index.auto.index-end) in
    sym (sym (rest_fits-first c.args.line.now) ∙ c.loop-index.invariant ∙ rw last (rest_fits-none c.args.line.now c.loop-index.before))
