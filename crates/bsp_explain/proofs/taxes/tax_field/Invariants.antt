use Rattle.std.proofs.Common.{◌≡◌, ◌-◌}
use Rattle.bsp_explain.specs.Fields.{all_fit, first_unfit}
use Rattle.bsp_explain.specs.TaxFields.{places_from, tax_fields}
use Rattle.bsp_explain.proofs.taxes.tax_field.Given as goal

abbrev pub invariant-loop-index : goal.invariant-loop-index
invariant-loop-index l = record {
  first : first_unfit l.line (tax_fields l.start l.line) ≡ first_unfit l.line (places_from l.start l.line l.index (6 - l.index));
  all : all_fit l.line (tax_fields l.start l.line) ≡ all_fit l.line (places_from l.start l.line l.index (6 - l.index));
}
