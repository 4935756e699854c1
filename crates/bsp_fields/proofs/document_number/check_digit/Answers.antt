use Rattle.std.proofs.Common.{rules}
use Rattle.bsp_fields.proofs.document_number.check_digit.Goals as goal

pub returns : goal.returns
returns c = search rules
