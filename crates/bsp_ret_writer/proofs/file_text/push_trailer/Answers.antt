use Rattle.std.proofs.Common.{[], ◌∷◌, refl, sym, ap, ◌∙◌}
use Rattle.bsp_fields.specs.Zoned.{zoned_reading}
use Rattle.std.specs.List.{concat}
use Rattle.bsp_ret_writer.specs.Writing.{spaces, trailer_line}
use Rattle.bsp_ret_writer.proofs.WrittenFile.{trailer_pushed}
use Rattle.bsp_ret_writer.proofs.file_text.push_trailer.Goals as goal

pub returns : goal.returns
unfolding trailer_line
returns c =
    let line = c.args.line.now in
    let sum = c.told_sum-sum.result in
    trailer_pushed c.push_line.result line (concat (c.as_slice.result.now ∷ c.record_count.result.now ∷ c.transaction_count.result.now ∷ c.write_total.result ∷ spaces 106 ∷ [])) c.push_line.new.out.items c.args.out.now.items sum c.push_line.ensures (rw (c.as_slice.ensures, c.record_count.ensures.columns, c.transaction_count.ensures.columns, c.write_total.ensures.text) refl) (record { sum_is = c.told_sum-sum.ensures; same_sum = sym (ap (zoned_reading 15) c.write_total.ensures.text) ∙ c.write_total.ensures.reads_back })
