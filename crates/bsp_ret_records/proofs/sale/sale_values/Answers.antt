use Rattle.std.proofs.Common.{◌≡◌, false, is_some, sym, ap, ◌∙◌}
use Rattle.std.specs.Str.{all_ascii_digits}
use Rattle.bsp_fields.specs.Fields.{is_record_day}
use Rattle.bsp_ret_records.specs.Records.{code_of}
use Rattle.bsp_ret_records.proofs.ReadLemmas.{sale_fields}
use Rattle.bsp_ret_records.proofs.sale.sale_values.Goals as goal

pub unreachable-requires : goal.unreachable-requires
unreachable-requires c =
    let none : is_some (code_of c.args.line.now) ≡ false = ap is_some (sym c.code_of.ensures ∙ c.in_default.is) in
    absurd (cc (none, (sale_fields c.args.line.now c.requires.1).code))

pub document_of-requires-clause-digits : goal.document_of-requires-clause-digits
document_of-requires-clause-digits c =
    ap all_ascii_digits c.document.ensures.columns ∙ (sale_fields c.args.line.now c.requires.1).document

pub day_of-requires : goal.day_of-requires
day_of-requires c = ap is_record_day c.issued.ensures ∙ (sale_fields c.args.line.now c.requires.1).day
