use Rattle.std.proofs.Common.{rules}
use Rattle.bsp_ret.proofs.values.values_of.Goals as goal

pub returns : goal.returns
returns c = record {
  code = c.sale_values-code.ensures.code;
  agent = c.sale_values-code.ensures.agent;
  document = c.sale_values-code.ensures.document;
  issued = c.sale_values-code.ensures.issued;
  passenger = c.sale_passenger.ensures;
  related = search rules;
  amounts = search rules;
  cash = search rules;
  credit = search rules;
  exchange = search rules;
}
