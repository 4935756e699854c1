use Rattle.std.proofs.Common.{◌==◌, ap, sym, ◌∙◌}
use Rattle.bsp_memos.specs.declared.fields.MemoFields.{MemoFields}
use Rattle.bsp_desk_writes.proofs.MemoLemmas.{is_own, is_other, is_none}
use Rattle.bsp_desk_writes.proofs.actions.memo_to.Goals as goal
use Rattle.bsp_desk_writes.proofs.actions.memo_to.Goals.{in_default-via-in-Some+else-eq, in_default-via-in_default}

pub returns-in-Some-clause-found : goal.returns-in-Some-clause-found
returns-in-Some-clause-found g c = λ trust now last h.
    is_own c.args.agent c.args.key now c.in-Some.memo (sym c.in-Some.is ∙ c.in_ok-memo.ensures.found trust now last h)
    (ap (λ (m : MemoFields). m.agent == c.args.agent) (sym c.fields.ensures.value) ∙ (sym c.eq.ensures ∙ c.if-eq.true))

pub returns-in_default-clause-found : goal.returns-in_default-clause-found
returns-in_default-clause-found g c = λ trust now last h. elim c.in_default.branch [
  | in_default-via-in-Some+else-eq w ↦
      is_other c.args.agent c.args.key now w.in-Some.memo (sym w.in-Some.is ∙ c.in_ok-memo.ensures.found trust now last h)
      (ap (λ (m : MemoFields). m.agent == c.args.agent) (sym w.fields.ensures.value) ∙ (sym w.eq.ensures ∙ w.if-eq.false))
  | in_default-via-in_default w ↦ is_none c.args.agent c.args.key now (sym w.in_default.is ∙ c.in_ok-memo.ensures.found trust now last h)
]
