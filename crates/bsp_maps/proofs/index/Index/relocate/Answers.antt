use Rattle.std.proofs.Common.{sym, ap, subst, ◌∙◌}
use Rattle.std.specs.FinMap.{FinMap}
use Rattle.std.specs.Option.{option_cmp}
use Rattle.std.specs.Ordering.{is_eq}
use Rattle.bsp_maps.specs.Indexes.{IsMoved, entry_cmp, members, with_place}
use Rattle.bsp_maps.proofs.EntryLemmas.{moved, stayed, then_ok, tied}
use Rattle.bsp_maps.proofs.index.Index.relocate.Goals as goal

pub returns-then-is_eq-clause-ok : goal.returns-then-is_eq-clause-ok
returns-then-is_eq-clause-ok g c = stayed g.P.Ord.cmp g.K.Ord.cmp g.met.P.Ord.total g.met.K.Ord.total c.requires c.args.key c.args.from c.args.to (members g.P.Ord.cmp g.K.Ord.cmp c.args.self.now) (tied (option_cmp g.P.Ord.cmp c.args.from c.args.to) (ap is_eq (sym c.cmp.ensures) ∙ sym c.is_eq.ensures ∙ c.if-is_eq.true))

pub returns-clause-ok : goal.returns-clause-ok
returns-clause-ok g c =
    let RP = g.P.Ord.cmp in
    let RK = g.K.Ord.cmp in
    let old = members RP RK c.args.self.now in
    then_ok c.add.result (λ e alone. subst (λ (m : FinMap (entry_cmp RP RK) (Unit {0})). IsMoved RP RK c.args.key c.args.to old m) (sym (e ∙ ap (with_place RP RK c.args.key c.args.to) c.in_ok-take.ensures.ok))
    (moved RP RK g.met.P.Ord.total g.met.K.Ord.total c.requires c.args.key c.args.from c.args.to old alone)) c.add.ensures.ok

pub returns-clause-before : goal.returns-clause-before
returns-clause-before g c = c.add.ensures.before ∙ c.in_ok-take.ensures.before
