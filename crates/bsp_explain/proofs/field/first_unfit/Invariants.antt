use Rattle.std.proofs.Common.{◌≡◌, drop}
use Rattle.bsp_explain.specs.Fields.{all_fit, first_unfit}
use Rattle.bsp_explain.proofs.field.first_unfit.Given as goal

abbrev pub invariant-loop-field : goal.invariant-loop-field
invariant-loop-field l = record {
  first : first_unfit l.line l.fields ≡ first_unfit l.line (drop l.field-index l.fields);
  all : all_fit l.line l.fields ≡ all_fit l.line (drop l.field-index l.fields);
}
