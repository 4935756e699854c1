use Rattle.std.proofs.Common.{◌≡◌, refl, sym, Some, None, inl}
use Rattle.std.specs.Ordering.{eq_by_cmp}
use Rattle.std.specs.BTreeMap.{get}
use Rattle.std.proofs.lemmas.Cmp.{eq_by_cmp_equiv}
use Rattle.std.proofs.lemmas.Result.{err_from_is_err_and}
use Rattle.bsp_calendar.proofs.ListedLemmas.{added_there, added_new}
use Rattle.bsp_calendar.proofs.listed.add.Goals as goal

pub returns-then-differs_from-clause-indexed : goal.returns-then-differs_from-clause-indexed
returns-then-differs_from-clause-indexed g c = tt

pub returns-in-Some-clause-indexed : goal.returns-in-Some-clause-indexed
returns-in-Some-clause-indexed g c = c.requires

pub returns-in_err-insert-clause-indexed : goal.returns-in_err-insert-clause-indexed
returns-in_err-insert-clause-indexed g c =
    let p = err_from_is_err_and c.from_residual.result c.from_residual.ensures.1 in
    rw (p.1) tt

pub returns-in_err-insert-clause-added : goal.returns-in_err-insert-clause-added
returns-in_err-insert-clause-added g c =
    let p = err_from_is_err_and c.from_residual.result c.from_residual.ensures.1 in
    rw (p.1) (inl p.2)

pub returns-in_err-push-clause-indexed : goal.returns-in_err-push-clause-indexed
returns-in_err-push-clause-indexed g c =
    let p = err_from_is_err_and c.from_residual-in_err-push.result c.from_residual-in_err-push.ensures.1 in
    rw (p.1) tt

pub returns-in_err-push-clause-added : goal.returns-in_err-push-clause-added
returns-in_err-push-clause-added g c =
    let p = err_from_is_err_and c.from_residual-in_err-push.result c.from_residual-in_err-push.ensures.1 in
    rw (p.1) (inl p.2)

pub returns-in-Some-clause-added : goal.returns-in-Some-clause-added
returns-in-Some-clause-added g c =
    let found : get g.K.Ord.cmp c.args.index.now (g.E.Entry.key_of c.args.entry) ≡ Some c.in-Some.place = rw (← c.key-key.ensures.key, ← c.get.ensures.value, ← c.in-Some.ensures) refl in
    added_there (eq_by_cmp g.K.Ord.cmp) (eq_by_cmp_equiv g.met.K.Ord.total) g.E.Entry.key_of g.E.Entry.differ g.met.E.Entry.alike g.met.E.Entry.itself g.E.Entry.valid c.args.list.now.items (get g.K.Ord.cmp c.args.index.now) c.args.entry c.index.result.now c.in-Some.place c.requires found c.index.ensures (sym c.if-differs_from.ensures)

pub returns-clause-added : goal.returns-clause-added
returns-clause-added g c =
    let none : get g.K.Ord.cmp c.args.index.now (g.E.Entry.key_of c.args.entry) ≡ None = rw (← c.key-key.ensures.key, ← c.get.ensures.value, ← c.in_default.ensures) refl in
    rw c.in_ok-push.ensures.items
    (added_new (eq_by_cmp g.K.Ord.cmp) (eq_by_cmp_equiv g.met.K.Ord.total) g.E.Entry.key_of g.E.Entry.differ g.met.E.Entry.alike g.met.E.Entry.itself g.E.Entry.valid c.args.list.now.items (get g.K.Ord.cmp c.args.index.now) c.args.entry c.requires none)
