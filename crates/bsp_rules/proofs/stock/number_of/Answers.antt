use Rattle.std.proofs.Common.{sym}
use Rattle.bsp_fields.proofs.DocumentLemmas.{read_number}
use Rattle.bsp_rules.proofs.stock.number_of.Goals as goal

pub returns : goal.returns
returns c = sym (read_number c.args.digits.now c.check_digit.result c.in-Ok.number (sym c.in-Ok.ensures.value))
