use Rattle.std.proofs.Common.{take, drop, sym, ◌∙◌}
use Rattle.std.proofs.lemmas.Result.{err_from_is_err_and}
use Rattle.bsp_calendar.specs.Published.{target_or_zero}
use Rattle.bsp_rules.specs.Verdicts.{rows}
use Rattle.bsp_rules.proofs.RowLemmas.{told_first, passed_first}
use Rattle.bsp_rules.proofs.judging.ruled.Goals as goal

pub returns-in_err-check_parties : goal.returns-in_err-check_parties
returns-in_err-check_parties c =
    let rs = rows c.args.reporter c.args.transaction.now c.args.facts.now c.args.plan.now in
    let value = target_or_zero c.args.plan.now c.args.transaction.now.issued in
    let q = err_from_is_err_and c.from_residual.result c.from_residual.ensures.1 in
    rw (q.1, q.2) (sym (told_first (take 3 rs) (drop 3 rs) value _ c.in_err-check_parties.ensures))

pub returns-in_err-check_number : goal.returns-in_err-check_number
returns-in_err-check_number c =
    let rs = rows c.args.reporter c.args.transaction.now c.args.facts.now c.args.plan.now in
    let value = target_or_zero c.args.plan.now c.args.transaction.now.issued in
    let q = err_from_is_err_and c.from_residual-in_err-check_number.result c.from_residual-in_err-check_number.ensures.1 in
    rw (q.1, q.2) (sym (passed_first (take 3 rs) (drop 3 rs) value c.in_ok-check_parties.ensures ∙ told_first (take 4 (drop 3 rs)) (drop 7 rs) value _ c.in_err-check_number.ensures))

pub returns-in_err-check_content : goal.returns-in_err-check_content
returns-in_err-check_content c =
    let rs = rows c.args.reporter c.args.transaction.now c.args.facts.now c.args.plan.now in
    let value = target_or_zero c.args.plan.now c.args.transaction.now.issued in
    let q = err_from_is_err_and c.from_residual-in_err-check_content.result c.from_residual-in_err-check_content.ensures.1 in
    rw (q.1, q.2)
    (sym (passed_first (take 3 rs) (drop 3 rs) value c.in_ok-check_parties.ensures
    ∙ passed_first (take 4 (drop 3 rs)) (drop 7 rs) value c.in_ok-check_number.ensures
    ∙ told_first (take 4 (drop 7 rs)) (drop 11 rs) value _ c.in_err-check_content.ensures))
