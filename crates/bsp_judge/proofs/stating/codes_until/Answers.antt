use Rattle.std.proofs.Common.{ap, append-nil, false, sym, true, ◌∙◌, ℕ}
use Rattle.std.specs.Global.{Vec}
use Rattle.bsp_judge.proofs.StatementLemmas.{codes_more}
use Rattle.bsp_judge.proofs.stating.codes_until.Goals as goal
use Rattle.bsp_judge.proofs.stating.codes_until.Goals.{then-ends_by+in_ok-push, else-ends_by}

pub loop-period-preserved : goal.loop-period-preserved
loop-period-preserved c =
    let more = codes_more c.args.last c.args.periods.now c.loop-period.period-index c.period-item.result c.loop-period.codes.items c.if-ends_by.codes.items c.loop-period-test.true c.period-item.is c.loop-period.invariant in
    elim c.if-ends_by.branch [
      | then-ends_by+in_ok-push w ↦ more true (sym c.ends_by.ensures ∙ w.if-ends_by.true) (ap (λ (v : Vec ℕ). v.items) w.codes-is ∙ w.in_ok-push.ensures.items)
      | else-ends_by w ↦ more false (sym c.ends_by.ensures ∙ w.if-ends_by.false) (ap (λ (v : Vec ℕ). v.items) w.codes-is ∙ sym (append-nil c.loop-period.codes.items))
    ]
