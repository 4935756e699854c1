use Rattle.std.proofs.Common.{◌++◌, sym, inl, inr, arith}
use Rattle.std.specs.Ordering.{eq_by_cmp}
use Rattle.std.proofs.lemmas.Cmp.{eq_by_cmp_equiv}
use Rattle.std.proofs.lemmas.List.{append-nil, take_all}
use Rattle.std.proofs.lemmas.Result.{err_from_is_err_and}
use Rattle.bsp_calendar.proofs.ListedLemmas.{joined_more, joined_fault, no_conflict, once_same, agree_distinct}
use Rattle.bsp_calendar.proofs.listed.add_all.Goals as goal

pub loop-entry-init : goal.loop-entry-init
loop-entry-init g c =
    let eq = eq_by_cmp g.K.Ord.cmp in
    let laws = eq_by_cmp_equiv g.met.K.Ord.total in
    let old = c.args.list.now.items in
    rw (append-nil old)
    (record {
      indexed = c.requires;
      joined = sym (once_same eq laws g.E.Entry.key_of old c.requires.distinct);
      agreed = agree_distinct eq laws g.E.Entry.key_of g.E.Entry.differ g.met.E.Entry.alike g.met.E.Entry.itself old c.requires.distinct;
    })

pub loop-entry-preserved : goal.loop-entry-preserved
loop-entry-preserved g c =
    let laws = eq_by_cmp_equiv g.met.K.Ord.total in
    let h = c.loop-entry.invariant in
    let more = joined_more (eq_by_cmp g.K.Ord.cmp) laws g.E.Entry.key_of g.E.Entry.differ g.met.E.Entry.alike g.met.E.Entry.itself c.args.list.now.items c.args.more.now c.loop-entry.list.items c.add.new.list.items c.loop-entry.entry-index c.entry-item.result (omega arith) c.entry-item.is h.joined h.agreed c.in_ok-add.ensures.added in
    record { indexed = c.in_ok-add.ensures.indexed; joined = more.0; agreed = more.1 }

pub returns-clause-joined : goal.returns-clause-joined
returns-clause-joined g c =
    let laws = eq_by_cmp_equiv g.met.K.Ord.total in
    let h = c.loop-entry.invariant in
    let all = take_all c.loop-entry.entry-index c.args.more.now (omega arith) in
    let joined = rw all at h.joined in
    let agreed = rw all at h.agreed in
    (joined, no_conflict (eq_by_cmp g.K.Ord.cmp) laws g.E.Entry.key_of g.E.Entry.differ g.met.E.Entry.alike g.met.E.Entry.itself (c.args.list.now.items ++ c.args.more.now) agreed)

pub returns-in_err-add-clause-joined : goal.returns-in_err-add-clause-joined
returns-in_err-add-clause-joined g c =
    let p = err_from_is_err_and c.from_residual.result c.from_residual.ensures.1 in
    rw (p.1, p.2)
    (elim c.in_err-add.ensures.added [
      | inl lack ↦ inl lack
      | inr both ↦ inr (both.0, joined_fault (eq_by_cmp g.K.Ord.cmp) (eq_by_cmp_equiv g.met.K.Ord.total) g.E.Entry.key_of g.E.Entry.differ g.met.E.Entry.alike g.met.E.Entry.itself c.args.list.now.items c.args.more.now c.loop-entry.list.items c.loop-entry.entry-index c.entry-item.result (omega arith) c.entry-item.is c.loop-entry.invariant.joined both.1)
    ])
