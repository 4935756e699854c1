use Rattle.std.proofs.Common.{◌≡◌, ap, sym, subst, ◌∙◌, Ok}
use Rattle.bsp_fields.specs.Changes.{change_of}
use Rattle.bsp_fields.specs.declared.change.Change.TheVariants.{Held}
use Rattle.bsp_calendar.specs.Requests.{with_entries}
use Rattle.bsp_calendar.specs.SoundPlan.{Continues, IsSoundPlan}
use Rattle.bsp_calendar.specs.Standing.{plan_of}
use Rattle.bsp_calendar.proofs.ContinueLemmas.{continues_itself, extended_continues}
use Rattle.bsp_calendar.proofs.ExtendLemmas.{within_more, with_entries_is, holds_is}
use Rattle.bsp_calendar.proofs.HeldLemmas.{held_same, was_held}
use Rattle.bsp_calendar.proofs.SoundLemmas.{publish_sound, standing_in}
use Rattle.bsp_calendar.proofs.plan.Plan.extend.Goals as goal

pub invariant_of-self : goal.invariant_of-self
invariant_of-self c =
    let i = c.self.inside in
    let p = plan_of i.terms i.lists.airlines i.lists.rates i.lists.periods i.lists.commission_taxes i.day i.closed in
    let text = c.args.text.now in
    let after = c.in_ok-lists.lists in
    let e = rw (← c.self.view_is) at c.in_ok-lists.ensures.lists in
    let same = with_entries_is i.terms i.lists.airlines i.lists.rates i.lists.periods i.lists.commission_taxes i.day i.closed text after.airlines after.rates after.periods after.commission_taxes (standing_in c.self.invariant) e.1 e.2 e.3 e.4 in
    record {
      within = within_more i.lists.periods text.periods.items after.periods i.closed (standing_in c.self.invariant) e.3;
      sound = subst IsSoundPlan same (publish_sound p text (with_entries p text) c.self.invariant.sound e.0);
    }

pub returns-clause-answers : goal.returns-clause-answers
returns-clause-answers c =
    let i = c.self.inside in
    let text = c.args.text.now in
    let after = c.in_ok-lists.lists in
    let e = rw (← c.self.view_is) at c.in_ok-lists.ensures.lists in
    let same = with_entries_is i.terms i.lists.airlines i.lists.rates i.lists.periods i.lists.commission_taxes i.day i.closed text after.airlines after.rates after.periods after.commission_taxes (standing_in c.self.invariant) e.1 e.2 e.3 e.4 in
    let held = holds_is i.terms i.lists.airlines i.lists.rates i.lists.periods i.lists.commission_taxes i.day i.closed text after.airlines after.rates after.periods after.commission_taxes c.holds.result e.1 e.2 e.3 e.4 (rw (← c.self.view_is) at c.holds.ensures) in
    rw (← c.self.view_is) (e.0 ∙ ap (λ p. Ok p) same, c.of-change.ensures ∙ ap change_of held)

pub returns-clause-held : goal.returns-clause-held
returns-clause-held c =
    let i = c.self.inside in
    let p = plan_of i.terms i.lists.airlines i.lists.rates i.lists.periods i.lists.commission_taxes i.day i.closed in
    let text = c.args.text.now in
    let after = c.in_ok-lists.lists in
    let e = rw (← c.self.view_is) at c.in_ok-lists.ensures.lists in
    let same = with_entries_is i.terms i.lists.airlines i.lists.rates i.lists.periods i.lists.commission_taxes i.day i.closed text after.airlines after.rates after.periods after.commission_taxes (standing_in c.self.invariant) e.1 e.2 e.3 e.4 in
    let held = holds_is i.terms i.lists.airlines i.lists.rates i.lists.periods i.lists.commission_taxes i.day i.closed text after.airlines after.rates after.periods after.commission_taxes c.holds.result e.1 e.2 e.3 e.4 (rw (← c.self.view_is) at c.holds.ensures) in
    λ told.
    let is : change_of c.holds.result ≡ Held = cc (c.of-change.ensures) in
    rw (← c.self.view_is) (sym same ∙ held_same p text c.self.invariant.sound e.0 (sym held ∙ was_held c.holds.result is))

pub returns-in_err-lists-clause-continues : goal.returns-in_err-lists-clause-continues
returns-in_err-lists-clause-continues c = continues_itself c.args.self.now

pub returns-clause-continues : goal.returns-clause-continues
returns-clause-continues c =
    let i = c.self.inside in
    let p = plan_of i.terms i.lists.airlines i.lists.rates i.lists.periods i.lists.commission_taxes i.day i.closed in
    let text = c.args.text.now in
    let after = c.in_ok-lists.lists in
    let e = rw (← c.self.view_is) at c.in_ok-lists.ensures.lists in
    let same = with_entries_is i.terms i.lists.airlines i.lists.rates i.lists.periods i.lists.commission_taxes i.day i.closed text after.airlines after.rates after.periods after.commission_taxes (standing_in c.self.invariant) e.1 e.2 e.3 e.4 in
    rw (← c.self.view_is) (subst (Continues p) same (extended_continues p text c.self.invariant.sound e.0))
