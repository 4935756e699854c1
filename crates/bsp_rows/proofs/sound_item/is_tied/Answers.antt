use Rattle.bsp_rows.specs.Audit.{IsTiedItem, as_map}
use Rattle.bsp_rows.specs.Rows.{item_cmp}
use Rattle.bsp_rows.proofs.AuditSteps.{last, refused}
use Rattle.bsp_rows.proofs.sound_item.is_tied.Goals as goal

pub returns-then-not-is_met-2 : goal.returns-then-not-is_met-2
returns-then-not-is_met-2 c = refused {Q = IsTiedItem (as_map item_cmp c.args.items.now) c.args.key.now c.args.item.now} c.is_met-2.result c.if-not-is_met-2.true c.is_met-2.ensures (λ s. s.cancelled)

pub returns : goal.returns
returns c = last {Q = IsTiedItem (as_map item_cmp c.args.items.now) c.args.key.now c.args.item.now} c.is_met-3.result c.is_met-3.ensures
    (λ related. record { marked = c.is_met.ensures.0 c.if-not-is_met.false; cancelled = c.is_met-2.ensures.0 c.if-not-is_met-2.false; related = related })
    (λ s. s.related)
