use Rattle.std.proofs.Common.{◌∙◌, ap}
use Rattle.bsp_store_columns.specs.Reading.{code_in}
use Rattle.bsp_store_columns.proofs.ReadBack.{code_back}
use Rattle.bsp_store_columns.proofs.types.DocNumberColumn.read_at.Goals as goal

pub returns-clause-back : goal.returns-clause-back
returns-clause-back c = λ n fits is. c.number_at.ensures.value ∙ ap (code_in 10) is ∙ code_back 10 n fits
