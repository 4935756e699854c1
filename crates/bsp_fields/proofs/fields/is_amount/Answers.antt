use Rattle.std.proofs.Common.{arith}
use Rattle.std.proofs.lemmas.Grind.{common_steps}
use Rattle.bsp_fields.proofs.fields.is_amount.Goals as goal

pub returns-then-all_digits : goal.returns-then-all_digits
returns-then-all_digits c = grind (arith, common_steps)
