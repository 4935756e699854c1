-- The laws of the store are those that the lemma asks for.
use Rattle.bsp_store_open.proofs.OrderLemmas.{opened_in_order}
use Rattle.bsp_store_open.proofs.connections.open_ordered.Goals as goal

pub returns-clause-order : goal.returns-clause-order
returns-clause-order g c =
    opened_in_order g.S.Store c.args.store c.over.result c.requires (g.met.S.Store.ordered c.args.store) (g.met.S.Alter.listed c.args.store) c.over.ensures.opens c.over.ensures.clean c.over.ensures.trees
