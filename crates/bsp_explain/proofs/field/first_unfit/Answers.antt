use Rattle.std.proofs.Common.{sym, ◌∙◌}
use Rattle.bsp_explain.specs.declared.field.Field.{Field}
use Rattle.bsp_explain.specs.declared.form.Form.TheVariants.{HeaderMark}
use Rattle.bsp_explain.specs.declared.name.Name.TheVariants.{Identifier}
use Rattle.bsp_explain.specs.Fields.{field}
use Rattle.bsp_explain.proofs.Finding.{nothing_left, passed_at, stopped_at, at_fault_in}
use Rattle.bsp_explain.proofs.field.first_unfit.Goals as goal

abbrev none : Field
none = field 0 0 HeaderMark Identifier

pub returns-then-not-fits-clause-first : goal.returns-then-not-fits-clause-first
returns-then-not-fits-clause-first c =
    sym (c.loop-field.invariant.first ∙ (stopped_at c.args.line.now c.args.fields.now c.loop-field.field-index none c.loop-field-test.true (sym c.fits.ensures ∙ c.if-not-fits.true)).0)

pub returns-then-not-fits-clause-some : goal.returns-then-not-fits-clause-some
returns-then-not-fits-clause-some c =
    let unfit = sym c.fits.ensures ∙ c.if-not-fits.true in (
      at_fault_in c.args.line.now c.args.fields.now c.loop-field.field-index none c.loop-field-test.true c.requires.inside unfit,
      c.loop-field.invariant.all ∙ (stopped_at c.args.line.now c.args.fields.now c.loop-field.field-index none c.loop-field-test.true unfit).1,
    )

pub loop-field-preserved : goal.loop-field-preserved
loop-field-preserved c =
    let passed = passed_at c.args.line.now c.args.fields.now c.loop-field.field-index none c.loop-field-test.true (sym c.fits.ensures ∙ c.if-not-fits.false) in
    record { first = c.loop-field.invariant.first ∙ passed.0; all = c.loop-field.invariant.all ∙ passed.1 }

pub returns-clause-first : goal.returns-clause-first
returns-clause-first c =
    sym (c.loop-field.invariant.first ∙ (nothing_left c.args.line.now c.args.fields.now c.loop-field.field-index c.loop-field-test.false).0)

pub returns-clause-none : goal.returns-clause-none
returns-clause-none c =
    c.loop-field.invariant.all ∙ (nothing_left c.args.line.now c.args.fields.now c.loop-field.field-index c.loop-field-test.false).1
