use Rattle.std.proofs.Common.{is_some, sym, ap, ◌∙◌}
use Rattle.bsp_maps.proofs.UndoLemmas.{found, written}
use Rattle.bsp_store_load.proofs.entries.put_new.Goals as goal

pub returns-then-contains_key-clause-there : goal.returns-then-contains_key-clause-there
returns-then-contains_key-clause-there g c =
    ap is_some (found g.met.K.Ord.total c.args.map.now.entries c.args.key) ∙ sym c.contains_key.ensures ∙ c.if-contains_key.true

pub returns-clause-there : goal.returns-clause-there
returns-clause-there g c =
    ap is_some (found g.met.K.Ord.total c.args.map.now.entries c.args.key) ∙ sym c.contains_key.ensures ∙ c.if-contains_key.false

pub returns-clause-put : goal.returns-clause-put
returns-clause-put g c = λ done. written g.met.K.Ord.total c.requires c.args.map.now c.insert.new.self c.args.key c.args.value c.in_ok-insert.ensures.updates.0
