use Rattle.std.proofs.Common.{ℕ, sym, ap, ◌∙◌}
use Rattle.bsp_memos.specs.declared.fields.MemoFields.{MemoFields}
use Rattle.bsp_rows.specs.Sound.{IsSoundBilling}
use Rattle.bsp_rows.proofs.ItemRuleLemmas.{of_found}
use Rattle.bsp_rows.proofs.PlanRuleLemmas.{billing_by, billing_open}
use Rattle.bsp_rows.proofs.rules.is_billing_sound.Goals as goal

pub returns-then-is_closed : goal.returns-then-is_closed
returns-then-is_closed c =
    of_found (λ (period : ℕ). IsSoundBilling c.args.plan.now c.args.memo.now period) c.args.memo.now.billed c.in-Some.period c.is_admitted.result (sym (ap (λ (m : MemoFields). m.billed) c.fields.ensures.value) ∙ c.in-Some.is)
    (billing_by c.args.plan.now c.args.memo.now c.in-Some.period c.is_admitted.result (sym c.is_closed.ensures ∙ c.if-is_closed.true) c.is_admitted.ensures)

pub returns-else-is_closed : goal.returns-else-is_closed
returns-else-is_closed c =
    of_found (λ (period : ℕ). IsSoundBilling c.args.plan.now c.args.memo.now period) c.args.memo.now.billed c.in-Some.period c.is_closed.result (sym (ap (λ (m : MemoFields). m.billed) c.fields.ensures.value) ∙ c.in-Some.is)
    (billing_open c.args.plan.now c.args.memo.now c.in-Some.period c.is_closed.result c.is_closed.ensures c.if-is_closed.false)
