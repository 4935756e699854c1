use Rattle.std.proofs.Common.{arith, sym, ◌∙◌}
use Rattle.bsp_fields.proofs.DigitLemmas.{digit_at, digit_from, digit_number}
use Rattle.std.specs.Prelude.{slice_index}
use Rattle.bsp_ret_records.proofs.columns.document_of.Goals as goal

pub overflow_sub-result : goal.overflow_sub-result
overflow_sub-result c =
    digit_from (slice_index c.args.text.now 13) (digit_at c.args.text.now 13 (omega arith) c.requires.digits)

pub returns : goal.returns
returns c = record {
  airline = sym c.read.ensures.value ∙ c.in-Ok.is;
  number = c.array_of.ensures;
  check_digit = digit_number c.args.text.now 13 (omega arith) c.requires.digits;
}
