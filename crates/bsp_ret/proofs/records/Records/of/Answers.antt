use Rattle.std.proofs.Common.{◌∙◌, sym, ap}
use Rattle.bsp_fields.specs.Lines.{lines}
use Rattle.bsp_ret.specs.Groups.{records_of, with_records}
use Rattle.bsp_fields.proofs.RestLemmas.{lines_empty}
use Rattle.bsp_ret.proofs.GroupLemmas.{with_nothing, with_one, first_wide}
use Rattle.bsp_ret.proofs.records.Records.of.Goals as goal

pub put-requires : goal.put-requires
put-requires c =
    (first_wide c.first_line-in-loop-rest.result.0.now (lines c.first_line-in-loop-rest.result.1.now) (rw c.first_line-in-loop-rest.ensures.cut at c.loop-rest.invariant.wide)).0

pub loop-rest-preserved : goal.loop-rest-preserved
loop-rest-preserved c =
    let line = c.first_line-in-loop-rest.result.0.now in
    let after = c.first_line-in-loop-rest.result.1.now in
    let cut = c.first_line-in-loop-rest.ensures.cut in
    record {
      put = λ sale more is. rw c.put.ensures (sym (with_one (records_of c.loop-rest.records) line (lines after)) ∙ ap (with_records (records_of c.loop-rest.records)) (sym cut) ∙ c.loop-rest.invariant.put sale more is);
      wide = (first_wide line (lines after) (rw cut at c.loop-rest.invariant.wide)).1;
    }

pub returns : goal.returns
returns c = λ sale more is.
    let none = lines_empty c.loop-rest.rest.now (sym c.is_empty.ensures ∙ c.loop-rest-test.false) in
    sym (with_nothing (records_of c.loop-rest.records)) ∙ ap (with_records (records_of c.loop-rest.records)) (sym none) ∙ c.loop-rest.invariant.put sale more is
