use Rattle.bsp_memory_tables.proofs.NumberOrder.{number_exact}
use Rattle.bsp_memory_tables.proofs.numbers.add_number.Goals as goal

pub put-requires : goal.put-requires
put-requires c = number_exact
