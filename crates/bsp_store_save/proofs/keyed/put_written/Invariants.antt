use Rattle.std.specs.FinMap.{entries, from_entries, get}
use Rattle.bsp_store_save.proofs.StepLemmas.{IsPut}
use Rattle.bsp_store_save.proofs.keyed.put_written.Given as goal

abbrev pub invariant-loop-key : goal.invariant-loop-key
invariant-loop-key g l = IsPut g.S.Store (g.T.Keyed.set l.table) (get (from_entries {R = g.K.Ord.cmp} l.values.entries)) g.T.Keyed.holds (g.T.Keyed.rows l.table) l.fn.conn (entries (from_entries {R = g.K.Ord.cmp} l.before.entries)) l.conn l.key-iterator
