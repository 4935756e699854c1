use Rattle.bsp_store_base.proofs.MakingLemmas.{tables_made}
use Rattle.bsp_store_base.proofs.made.make_tables.Goals as goal

pub returns-clause-made : goal.returns-clause-made
returns-clause-made g c = tables_made g.S.Store c.args.tx.now.conn.now c.execute_batch.new.self.conn.now c.execute_batch.result c.execute_batch.ensures.ran
