use Rattle.std.specs.Ordering.{nat_cmp}
use Rattle.bsp_rows.specs.Audit.{as_map}
use Rattle.bsp_rows.specs.Rows.{range_cmp}
use Rattle.bsp_rows.specs.Sound.{AreSoundRanges}
use Rattle.bsp_rows.proofs.AuditSteps.{last, refused}
use Rattle.bsp_rows.proofs.RangeTies.{ranges_disjoint, ranges_sound}
use Rattle.bsp_rows.proofs.audit.are_ranges_sound.Goals as goal

pub returns-then-not-branch : goal.returns-then-not-branch
returns-then-not-branch c = refused {Q = AreSoundRanges (as_map nat_cmp c.args.agents.now) (as_map range_cmp c.args.ranges.now)} c.in_ok-are_apart.field-0 c.if-not-branch.true c.in_ok-are_apart.ensures (λ s. ranges_disjoint (as_map nat_cmp c.args.agents.now) c.args.ranges.now c.len-count.ensures.ordered s)

pub returns : goal.returns
returns c = last {Q = AreSoundRanges (as_map nat_cmp c.args.agents.now) (as_map range_cmp c.args.ranges.now)} c.all_meet.result c.all_meet.ensures
    (λ known. ranges_sound (as_map nat_cmp c.args.agents.now) c.args.ranges.now c.len-count.ensures.ordered (c.in_ok-are_apart.ensures.0 c.if-not-branch.false) known)
    (λ s. s.registered)
