use Rattle.std.proofs.Common.{IfOk, ℕ, map, subst}
use Rattle.std.specs.BTreeMap.{values}
use Rattle.std.specs.Bool.{Decides}
use Rattle.bsp_rows.specs.Audit.{AreMemosAudited, AreWithin, parties_cmp, parties_of}
use Rattle.bsp_rows.proofs.AuditSteps.{last_if_ok, refused}
use Rattle.bsp_rows.proofs.audit.are_memos_sound.Goals as goal

pub returns-then-not-all_meet : goal.returns-then-not-all_meet
returns-then-not-all_meet c = refused {Q = AreMemosAudited c.args.plan.now c.args.agents.now c.args.memos.now} c.all_meet.result c.if-not-all_meet.true c.all_meet.ensures (λ s. s.each)

pub returns : goal.returns
returns c = last_if_ok {Q = AreMemosAudited c.args.plan.now c.args.agents.now c.args.memos.now} c.are_memos_within.result
    (subst (λ (limit : ℕ). IfOk c.are_memos_within.result (λ within. Decides within (AreWithin parties_cmp limit (map parties_of (values c.args.memos.now))))) c.documents_limit.ensures c.are_memos_within.ensures)
    (λ limit. record { each = c.all_meet.ensures.0 c.if-not-all_meet.false; limit = limit })
    (λ s. s.limit)
