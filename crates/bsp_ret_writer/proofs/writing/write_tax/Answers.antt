use Rattle.std.proofs.Common.{refl, ◌∙◌}
use Rattle.bsp_ret_writer.specs.Writing.{spaces}
use Rattle.bsp_ret_writer.proofs.WritingLemmas.{written_behind}
use Rattle.bsp_ret_writer.proofs.writing.write_tax.Goals as goal

pub returns-in-Some : goal.returns-in-Some
returns-in-Some c =
    written_behind c.copy_from_slice.new.self (spaces 11) c.copy_from_slice-in-Some.new.self c.copy_from_slice.ensures.len refl
    ∙ rw (c.copy_from_slice.ensures.after, c.copy_from_slice-in-Some.ensures.after, c.write_amount.ensures.text, c.in-Some.is) refl
