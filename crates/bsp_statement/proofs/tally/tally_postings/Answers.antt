use Rattle.std.proofs.Common.{◌++◌, [], ◌∷◌, ◌∙◌, ap, sym}
use Rattle.bsp_statement.specs.declared.posting.Posting.{Posting}
use Rattle.bsp_statement.specs.Tallies.{is_used, tally_posting}
use Rattle.bsp_statement.proofs.ListLemmas.{kept_more, passed_over}
use Rattle.bsp_statement.proofs.tally.tally_postings.Goals as goal
use Rattle.bsp_statement.proofs.tally.tally_postings.Goals.{then-is_used_in+in_ok-push, else-is_used_in}

pub loop-tally-preserved : goal.loop-tally-preserved
loop-tally-preserved c =
    let xs = c.args.tallies.now in
    let x = c.tally-item.result in
    let out = c.loop-tally.out.items in
    let tested = sym c.is_used_in.ensures in
    elim c.if-is_used_in.branch [
      | then-is_used_in+in_ok-push w ↦
          let added = ap (λ v. v.items) w.out-is ∙ w.in_ok-push.ensures.items ∙ ap (λ (p : Posting). out ++ p ∷ []) (w.posting.ensures) in
          kept_more tally_posting (is_used c.args.period) xs c.loop-tally.tally-index x [] out _ c.loop-tally-test.true c.tally-item.is c.loop-tally.invariant (tested ∙ w.if-is_used_in.true) added
      | else-is_used_in w ↦
          passed_over tally_posting (is_used c.args.period) xs c.loop-tally.tally-index x [] out _ c.loop-tally-test.true c.tally-item.is c.loop-tally.invariant (tested ∙ w.if-is_used_in.false) (ap (λ v. v.items) w.out-is)
    ]
