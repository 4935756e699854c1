use Rattle.std.specs.BTreeMap.{get}
use Rattle.bsp_calendar.proofs.ListedLemmas.{last_is, all_after}
use Rattle.bsp_calendar.proofs.listed.Listed.last_up_to.Goals as goal

pub returns-in_default-clause-distinct : goal.returns-in_default-clause-distinct
returns-in_default-clause-distinct g c = rw (← c.self.view_is) c.self.invariant.distinct

pub returns-in_default-clause-all_valid : goal.returns-in_default-clause-all_valid
returns-in_default-clause-all_valid g c = rw (← c.self.view_is) c.self.invariant.all_valid

pub returns-clause-distinct : goal.returns-clause-distinct
returns-clause-distinct g c = rw (← c.self.view_is) c.self.invariant.distinct

pub returns-clause-all_valid : goal.returns-clause-all_valid
returns-clause-all_valid g c = rw (← c.self.view_is) c.self.invariant.all_valid

pub returns-in_default-clause-last : goal.returns-in_default-clause-last
returns-in_default-clause-last g c =
    let i = c.self.inside in
    let within = c.range.ensures.in_range tt in
    rw (← c.self.view_is)
    (all_after g.K.Ord.cmp g.met.K.Ord.total g.E.Entry.key_of i.list.items (get g.K.Ord.cmp i.index) g.E.Entry.valid c.self.invariant c.args.key (λ q up. within.5 c.in_default.ensures.steps.0 q (tt, up)))

pub returns-clause-last : goal.returns-clause-last
returns-clause-last g c =
    let i = c.self.inside in
    let within = c.range.ensures.in_range tt in
    let step = c.in-Some.ensures.steps in
    let entry = within.3 _ _ step in
    rw (← c.self.view_is)
    (last_is g.K.Ord.cmp g.met.K.Ord.total g.E.Entry.key_of i.list.items (get g.K.Ord.cmp i.index) g.E.Entry.valid c.self.invariant c.args.key c.in-Some.field-0-0.now c.in-Some.place.now c.index.result.now entry.1 c.index.ensures entry.0.1 (λ s up some. within.4 _ _ step s (tt, up) some))
