use Rattle.bsp_store_base.proofs.Std.{◌∙◌, deref_pair, entries, from_entries, get, refl, rest_all, rest_more, sym}
use Rattle.bsp_store_base.proofs.Entries.{found, in_order}
use Rattle.bsp_store_save.proofs.StepLemmas.{all_put, none_put, not_put, stops, one_put}
use Rattle.bsp_store_save.proofs.keyed.put_written.Goals as goal

pub loop-key-init : goal.loop-key-init
loop-key-init g c = none_put g.S.Store (g.T.Keyed.set c.args.table.now) (get (from_entries {R = g.K.Ord.cmp} c.args.values.now.entries)) g.T.Keyed.holds (g.T.Keyed.rows c.args.table.now) c.args.conn.now (entries (from_entries {R = g.K.Ord.cmp} c.args.before.now.entries)) c.into_iter-key-iterator.result (c.into_iter-key-iterator.ensures.into_iter_gives.0 ∙ sym (in_order g.met.K.Ord.total c.args.before.now.entries c.len-count.ensures.ordered))

pub loop-key-preserved : goal.loop-key-preserved
loop-key-preserved g c =
    one_put g.S.Store (g.T.Keyed.set c.args.table.now) (get (from_entries {R = g.K.Ord.cmp} c.args.values.now.entries)) g.T.Keyed.holds (g.T.Keyed.rows c.args.table.now) c.args.conn.now (entries (from_entries {R = g.K.Ord.cmp} c.args.before.now.entries)) c.loop-key.conn c.put.new.conn c.loop-key.key-iterator c.next.new.self _
    (rest_more deref_pair c.loop-key.key-iterator c.next.new.self c.next.result _ c.in-Some.is c.next.ensures.steps) c.loop-key.invariant
    c.in-Some.key.now c.has_row.result c.copied-value.result refl c.has_row.ensures
    (c.copied-value.ensures ∙ c.get.ensures.value ∙ sym (found g.met.K.Ord.total c.args.values.now.entries c.in-Some.key.now)) c.in_ok-put.ensures.ok

pub returns-in_err-put : goal.returns-in_err-put
returns-in_err-put g c = stops _ c.from_residual.ensures.1 (not_put g.S.Store (g.T.Keyed.set c.args.table.now) (get (from_entries {R = g.K.Ord.cmp} c.args.values.now.entries)) g.T.Keyed.holds (g.T.Keyed.rows c.args.table.now) c.args.conn.now (entries (from_entries {R = g.K.Ord.cmp} c.args.before.now.entries)) c.loop-key.conn c.put.new.conn c.loop-key.key-iterator c.loop-key.invariant c.in_err-put.ensures.err)

pub returns : goal.returns
returns g c = all_put g.S.Store (g.T.Keyed.set c.args.table.now) (get (from_entries {R = g.K.Ord.cmp} c.args.values.now.entries)) g.T.Keyed.holds (g.T.Keyed.rows c.args.table.now) c.args.conn.now (entries (from_entries {R = g.K.Ord.cmp} c.args.before.now.entries)) c.loop-key.conn c.loop-key.key-iterator (rest_all deref_pair c.loop-key.key-iterator c.next.new.self c.next.result c.in-None.is c.next.ensures.steps) c.loop-key.invariant
