use Rattle.std.proofs.Common.{sym, subst}
use Rattle.bsp_rows.specs.Audit.{IsLastUpTo, as_map}
use Rattle.bsp_rows.specs.Rows.{range_cmp}
use Rattle.bsp_rows.proofs.ItemRuleLemmas.{last_up_to, none_up_to}
use Rattle.bsp_rows.proofs.KeyOrders.{range_total}
use Rattle.bsp_rows.proofs.item_rules.last_range.Goals as goal

pub returns-in_err-key : goal.returns-in_err-key
returns-in_err-key c = subst (IsLastUpTo (as_map range_cmp c.args.ranges.now) (record { agent = c.args.agent; first = c.args.number })) (sym c.from_residual.ensures) (none_up_to range_total c.args.ranges.now (record { agent = c.args.agent; first = c.args.number }) c.range.result (c.range.ensures.in_range tt) c.in_err-key.ensures.steps.0)

pub returns : goal.returns
returns c = last_up_to range_total c.args.ranges.now (record { agent = c.args.agent; first = c.args.number }) c.range.result (c.range.ensures.in_range tt) c.in_ok-key.key.now c.in_ok-key.last.now c.next_back.new.self c.in_ok-key.ensures.steps
