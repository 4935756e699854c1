use Rattle.std.proofs.Common.{◌≤◌, length, subst, sym}
use Rattle.bsp_calendar.specs.Published.{Published}
use Rattle.bsp_calendar.specs.SoundPlan.{IsSoundPlan}
use Rattle.bsp_calendar.specs.Standing.{dated}
use Rattle.bsp_calendar.proofs.plan.Plan.put_back.Goals as goal

pub invariant_of-self : goal.invariant_of-self
invariant_of-self c = record {
  within = subst (λ (p : Published). c.args.closed ≤ length p.periods) (sym c.self.view_is) c.requires.within;
  sound = subst (λ (p : Published). IsSoundPlan (dated p c.args.day c.args.closed)) (sym c.self.view_is) c.requires.sound;
}
