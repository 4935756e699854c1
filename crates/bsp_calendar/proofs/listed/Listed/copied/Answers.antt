use Rattle.std.specs.Ordering.{eq_by_cmp}
use Rattle.std.proofs.lemmas.Cmp.{eq_by_cmp_equiv}
use Rattle.bsp_calendar.proofs.ListedLemmas.{copied_same}
use Rattle.bsp_calendar.proofs.listed.Listed.copied.Goals as goal

pub returns : goal.returns
returns g c =
    let h = rw (← c.self.view_is) at c.joined.ensures in
    rw (← c.self.view_is)
    (copied_same (eq_by_cmp g.K.Ord.cmp) (eq_by_cmp_equiv g.met.K.Ord.total) g.E.Entry.key_of g.E.Entry.differ g.met.E.Entry.alike g.met.E.Entry.itself c.self.inside.list.items c.joined.result c.self.invariant.distinct h)
