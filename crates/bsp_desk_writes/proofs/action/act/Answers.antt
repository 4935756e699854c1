use Rattle.std.proofs.Common.{sym, subst, ℤ, w64, rules}
use Rattle.std.proofs.lemmas.Int.{to_z-of_z}
use mir.Val.{SFits}
use Rattle.bsp_memos.specs.Steps.{MemoStep}
use Rattle.bsp_memos.specs.Steps.Action.{Reduce}
use Rattle.bsp_desk_writes.specs.Actions.{meaning_of}
use Rattle.bsp_desk_writes.specs.declared.action.Action.{Action as Taken}
use Rattle.bsp_desk_writes.proofs.action.act.Goals as goal

pub returns-in-Uphold : goal.returns-in-Uphold
returns-in-Uphold c =
    subst (λ (a : Taken). MemoStep c.args.memo.now (meaning_of a) c.args.day c.args.review_days c.uphold.result c.uphold.new.memo) (sym c.in-Uphold.is) (c.uphold.ensures c.args.day c.args.review_days)

pub returns-in-Withdraw : goal.returns-in-Withdraw
returns-in-Withdraw c =
    subst (λ (a : Taken). MemoStep c.args.memo.now (meaning_of a) c.args.day c.args.review_days c.withdraw.result c.withdraw.new.memo) (sym c.in-Withdraw.is) (c.withdraw.ensures c.args.day c.args.review_days)

pub returns-in-Reduce : goal.returns-in-Reduce
returns-in-Reduce c =
    let fits : SFits w64 c.in-Reduce.amount = search rules in
    subst (λ (a : Taken). MemoStep c.args.memo.now (meaning_of a) c.args.day c.args.review_days c.reduce.result c.reduce.new.memo) (sym c.in-Reduce.is)
    (subst (λ (z : ℤ). MemoStep c.args.memo.now (Reduce z) c.args.day c.args.review_days c.reduce.result c.reduce.new.memo) (to_z-of_z w64 c.in-Reduce.amount fits) (c.reduce.ensures c.args.day c.args.review_days))
