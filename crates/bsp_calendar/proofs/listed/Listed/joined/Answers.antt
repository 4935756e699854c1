use Rattle.std.proofs.Common.{◌≡◌, ◌++◌, ◌∙◌}
use Rattle.std.specs.Ordering.{eq_by_cmp}
use Rattle.std.proofs.lemmas.Cmp.{eq_by_cmp_equiv}
use Rattle.std.proofs.lemmas.Result.{err_from_is_err_and}
use Rattle.bsp_calendar.specs.Listed.{IsRefusal, same_key}
use Rattle.bsp_calendar.proofs.ListedLemmas.{restored, refused_more}
use Rattle.bsp_calendar.proofs.listed.Listed.joined.Goals as goal

pub returns-in_err-add_all : goal.returns-in_err-add_all
returns-in_err-add_all g c =
    let p = err_from_is_err_and c.from_residual.result c.from_residual.ensures.1 in
    let xs = c.args.self.now in
    let first : c.new-list.result.items ++ c.deref.result.now ≡ xs = rw (c.new-list.ensures.items, c.deref.ensures.value) c.self.view_is in
    let refused : IsRefusal (same_key (eq_by_cmp g.K.Ord.cmp) g.E.Entry.key_of) g.E.Entry.differ xs c.in_err-add_all.field-0.0 = rw (← first) c.in_err-add_all.ensures.joined in
    rw (p.1, p.2)
    (refused_more (eq_by_cmp g.K.Ord.cmp) (eq_by_cmp_equiv g.met.K.Ord.total) g.E.Entry.key_of g.E.Entry.differ g.met.E.Entry.alike g.met.E.Entry.itself xs c.args.more.now c.in_err-add_all.field-0.0 refused)

pub returns-in_err-add_all-2 : goal.returns-in_err-add_all-2
returns-in_err-add_all-2 g c =
    let p = err_from_is_err_and c.from_residual-in_err-add_all-2.result c.from_residual-in_err-add_all-2.ensures.1 in
    let before : c.add_all.new.list.items ≡ c.args.self.now =
    restored (eq_by_cmp g.K.Ord.cmp) (eq_by_cmp_equiv g.met.K.Ord.total) g.E.Entry.key_of c.add_all.new.list.items c.new-list.result.items c.self.inside.list.items c.deref.result.now c.in_ok-add_all.ensures.joined.0 c.new-list.ensures.items c.deref.ensures.value c.self.invariant.distinct ∙ c.self.view_is in
    rw (p.1, p.2, ← before) c.in_err-add_all-2.ensures.joined

pub returns : goal.returns
returns g c =
    let before : c.add_all.new.list.items ≡ c.args.self.now =
    restored (eq_by_cmp g.K.Ord.cmp) (eq_by_cmp_equiv g.met.K.Ord.total) g.E.Entry.key_of c.add_all.new.list.items c.new-list.result.items c.self.inside.list.items c.deref.result.now c.in_ok-add_all.ensures.joined.0 c.new-list.ensures.items c.deref.ensures.value c.self.invariant.distinct ∙ c.self.view_is in
    rw (← before) c.in_ok-add_all-2.ensures.joined
