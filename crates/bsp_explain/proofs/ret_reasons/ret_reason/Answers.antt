use Rattle.std.proofs.Common.{◌+◌}
use Rattle.bsp_explain.proofs.ret_reasons.ret_reason.Goals as goal

pub returns-in-F01 : goal.returns-in-F01
returns-in-F01 c = record {
  says = c.width_reason-width.ensures.says (c.args.at.records + 1) c.args.at;
  row = rw c.in-F01.is c.width_reason-width.ensures.row;
  none = rw c.in-F01.is c.width_reason-width.ensures.wide;
}

pub returns-in-F02-clause-says : goal.returns-in-F02-clause-says
returns-in-F02-clause-says c = c.field_fault-field.ensures.says (c.args.at.records + 1)

pub returns-in-F03 : goal.returns-in-F03
returns-in-F03 c = record {
  says = c.place_fault-place.ensures.says (c.args.at.records + 1);
  row = rw c.in-F03.is c.place_fault-place.ensures.row;
  none = rw c.in-F03.is c.place_fault-place.ensures.none;
}

pub returns-in-F05 : goal.returns-in-F05
returns-in-F05 c = record {
  says = c.form_fault-form.ensures.says (c.args.at.records + 1);
  row = rw c.in-F05.is c.form_fault-form.ensures.row;
  none = rw c.in-F05.is c.form_fault-form.ensures.none;
}

pub returns-in-F06 : goal.returns-in-F06
returns-in-F06 c = record {
  says = c.count_fault-count.ensures.says;
  row = rw c.in-F06.is c.count_fault-count.ensures.row;
  none = rw c.in-F06.is c.count_fault-count.ensures.none;
}

pub returns-in-F07 : goal.returns-in-F07
returns-in-F07 c = record {
  says = c.sum_fault-sum.ensures.says (c.args.at.records + 1);
  row = rw c.in-F07.is c.sum_fault-sum.ensures.row;
  none = rw c.in-F07.is c.sum_fault-sum.ensures.none;
}
