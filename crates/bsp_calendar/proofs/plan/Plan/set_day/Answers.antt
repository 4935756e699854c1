use Rattle.std.proofs.Common.{◌≡◌, refl, sym, false}
use Rattle.bsp_calendar.specs.DayOrder.{is_before}
use Rattle.bsp_calendar.specs.Standing.{plan_of}
use Rattle.bsp_calendar.proofs.SoundLemmas.{day_sound}
use Rattle.bsp_calendar.proofs.plan.Plan.set_day.Goals as goal

pub invariant_of-self : goal.invariant_of-self
invariant_of-self c =
    let i = c.self.inside in
    let p = plan_of i.terms i.lists.airlines i.lists.rates i.lists.periods i.lists.commission_taxes i.day i.closed in
    let early : is_before c.args.day i.day ≡ false = sym c.if-is_before.ensures in
    record {
      within = c.self.invariant.within;
      sound = day_sound p c.args.day (record p { day = c.args.day }) c.self.invariant.sound (rw early refl);
    }
