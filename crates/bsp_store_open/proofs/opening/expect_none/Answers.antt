use Rattle.bsp_store_load.proofs.NothingLemmas.{no_rows_in}
use Rattle.bsp_store_open.proofs.opening.expect_none.Goals as goal

pub returns : goal.returns
returns c = no_rows_in c.args.tables.now (c.has_nothing.ensures.0 c.if-not-has_nothing.false)
