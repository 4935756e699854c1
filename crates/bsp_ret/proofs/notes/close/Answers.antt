use Rattle.std.proofs.Common.{sym}
use Rattle.bsp_ret.specs.Notes.{groups_at}
use Rattle.bsp_ret.proofs.NoteLemmas.{closed_place, with_nothing, places_snoc}
use Rattle.bsp_ret.proofs.notes.close.Goals as goal

pub returns-in_ok-push-clause-groups : goal.returns-in_ok-push-clause-groups
returns-in_ok-push-clause-groups c = λ bytes n short is.
    rw c.in_ok-push.ensures.items (closed_place bytes c.args.closed.now.items c.args.place n short is c.if-place.true)

pub returns-in_ok-push-clause-places : goal.returns-in_ok-push-clause-places
returns-in_ok-push-clause-places c = λ bytes n is are.
    rw c.in_ok-push.ensures.items (places_snoc bytes n c.args.closed.now.items c.args.place are is)

pub returns-else-place-clause-groups : goal.returns-else-place-clause-groups
returns-else-place-clause-groups c = λ bytes n short is.
    sym (with_nothing (groups_at bytes c.args.closed.now.items) bytes c.args.place c.if-place.false)
