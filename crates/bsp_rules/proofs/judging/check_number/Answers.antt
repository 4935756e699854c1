use Rattle.std.proofs.Common.{take, drop, sym, ◌∙◌}
use Rattle.std.proofs.lemmas.Result.{err_from_is_err_and}
use Rattle.bsp_rules.specs.Verdicts.{rows}
use Rattle.bsp_rules.specs.declared.verdict.Reporter.TheVariants.{Office}
use Rattle.bsp_rules.proofs.RowLemmas.{told_first, passed_first}
use Rattle.bsp_rules.proofs.judging.check_number.Goals as goal

pub returns-in_err-refuse_if : goal.returns-in_err-refuse_if
returns-in_err-refuse_if c =
    let rs = take 4 (drop 3 (rows Office c.args.transaction.now c.args.facts.now c.args.plan.now)) in
    let digits = rw c.has_wrong_check_digit.ensures at c.in_err-refuse_if.ensures in
    let q = err_from_is_err_and c.from_residual.result c.from_residual.ensures.1 in
    rw (q.1, q.2) (sym (told_first (take 1 rs) (drop 1 rs) (tt {0}) _ digits))

pub returns-in_err-refuse_if-2 : goal.returns-in_err-refuse_if-2
returns-in_err-refuse_if-2 c =
    let rs = take 4 (drop 3 (rows Office c.args.transaction.now c.args.facts.now c.args.plan.now)) in
    let digits = rw c.has_wrong_check_digit.ensures at c.in_ok-refuse_if.ensures in
    let issued = rw c.is_not_yet_issued.ensures at c.in_err-refuse_if-2.ensures in
    let q = err_from_is_err_and c.from_residual-in_err-refuse_if-2.result c.from_residual-in_err-refuse_if-2.ensures.1 in
    rw (q.1, q.2) (sym (passed_first (take 1 rs) (drop 1 rs) (tt {0}) digits ∙ told_first (take 1 (drop 1 rs)) (drop 2 rs) (tt {0}) _ issued))
