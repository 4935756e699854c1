use Rattle.std.proofs.Common.{[], ap, ◌∙◌}
use Rattle.std.specs.List.{flat_map}
use Rattle.bsp_fault_texts.specs.Table.{said_in}
use Rattle.bsp_fault_texts.specs.Texts.{said_line}
use Rattle.bsp_fault_texts.proofs.TableLemmas.{codes_are, lines_of_parts}
use Rattle.bsp_fault_texts.proofs.TextLemmas.{all_of, one_more}
use Rattle.bsp_fault_texts.proofs.texts.listing.Goals as goal

pub returns-clause-lines : goal.returns-clause-lines
returns-clause-lines c =
    all_of (λ rows. flat_map (λ row. said_line (said_in row)) rows.now) c.parts.result c.loop-rows.rows-index [] c.loop-rows.text.items c.loop-rows-test.false c.loop-rows.invariant
    ∙ lines_of_parts said_line said_in (λ rows. rows.now) c.parts.result
    ∙ ap (flat_map said_line) c.parts.ensures

pub returns-clause-codes : goal.returns-clause-codes
returns-clause-codes c = codes_are

pub returns-in_err-push_rows-clause-codes : goal.returns-in_err-push_rows-clause-codes
returns-in_err-push_rows-clause-codes c = codes_are

pub loop-rows-preserved : goal.loop-rows-preserved
loop-rows-preserved c =
    one_more (λ rows. flat_map (λ row. said_line (said_in row)) rows.now) c.parts.result c.loop-rows.rows-index _ [] c.loop-rows.text.items c.push_rows.new.text.items c.loop-rows-test.true c.loop-rows.invariant
    c.in_ok-push_rows.ensures
