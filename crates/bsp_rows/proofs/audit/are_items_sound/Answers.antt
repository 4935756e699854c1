use Rattle.std.proofs.Common.{ℕ, map, subst}
use Rattle.std.specs.BTreeMap.{values}
use Rattle.std.specs.Bool.{Decides}
use Rattle.std.proofs.Common.{IfOk}
use Rattle.bsp_rows.specs.Audit.{AreItemsAudited, AreWithin}
use Rattle.bsp_rows.specs.Tallies.{item_tally_key, tally_cmp}
use Rattle.bsp_rows.proofs.AuditSteps.{last_if_ok, refused}
use Rattle.bsp_rows.proofs.audit.are_items_sound.Goals as goal

pub returns-then-not-all_meet : goal.returns-then-not-all_meet
returns-then-not-all_meet c = refused {Q = AreItemsAudited c.args.plan.now c.args.agents.now c.args.ranges.now c.args.items.now} c.all_meet.result c.if-not-all_meet.true c.all_meet.ensures (λ s. s.each)

pub returns : goal.returns
returns c = last_if_ok {Q = AreItemsAudited c.args.plan.now c.args.agents.now c.args.ranges.now c.args.items.now} c.are_documents_within.result
    (subst (λ (limit : ℕ). IfOk c.are_documents_within.result (λ within. Decides within (AreWithin tally_cmp limit (map item_tally_key (values c.args.items.now))))) c.documents_limit.ensures c.are_documents_within.ensures)
    (λ documents. record { each = c.all_meet.ensures.0 c.if-not-all_meet.false; once = c.in_ok-are_related_once.ensures.0 c.if-not-branch.false; documents = documents })
    (λ s. s.documents)
