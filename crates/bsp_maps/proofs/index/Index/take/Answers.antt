use Rattle.std.proofs.Common.{sym, ap, ◌∙◌}
use Rattle.bsp_maps.specs.Present.{present}
use Rattle.bsp_maps.specs.Undo.{content}
use Rattle.bsp_maps.proofs.PresentLemmas.{present-remove}
use Rattle.bsp_maps.specs.Indexes.{entry_cmp, members, without_place}
use Rattle.bsp_maps.proofs.EntryLemmas.{entry_exact, entry_total, then_ok}
use Rattle.bsp_maps.proofs.index.Index.take.Goals as goal

pub put-requires : goal.put-requires
put-requires g c = entry_exact c.requires

pub returns-in-Some-clause-ok : goal.returns-in-Some-clause-ok
returns-in-Some-clause-ok g c =
    let RP = g.P.Ord.cmp in
    let RK = g.K.Ord.cmp in
    then_ok c.put.result (λ e.
    ap present e
    ∙ present-remove (entry_total g.met.P.Ord.total g.met.K.Ord.total) (entry_exact c.requires) (content (entry_cmp RP RK) c.args.self.now.entries) (c.in-Some.place, c.args.key)
    ∙ ap (λ from. without_place RP RK c.args.key from (members RP RK c.args.self.now)) (sym c.in-Some.is)) c.put.ensures.ok

pub returns-in-Some-clause-before : goal.returns-in-Some-clause-before
returns-in-Some-clause-before g c = ap present c.put.ensures.before
