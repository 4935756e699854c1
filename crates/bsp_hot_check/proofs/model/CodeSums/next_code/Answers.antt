use Rattle.std.proofs.Common.{true, false, ap, sym, ◌∙◌}
use Rattle.std.specs.List.{find}
use Rattle.std.proofs.lemmas.List.{at_drop_all}
use Rattle.bsp_hot_check.specs.Standings.{stands_in}
use Rattle.bsp_hot_records.proofs.TestLemmas.{found_by}
use Rattle.bsp_hot_check.proofs.model.CodeSums.next_code.Goals as goal

pub returns-then-stands_in : goal.returns-then-stands_in
returns-then-stands_in c =
    found_by (stands_in c.args.self) c.left_codes-codes.result.now c.loop-code.code-index _ true c.loop-code-test.true (sym c.stands_in.ensures ∙ c.if-stands_in.true) c.loop-code.invariant
    ∙ ap (find (stands_in c.args.self)) c.left_codes-codes.ensures

pub loop-code-preserved : goal.loop-code-preserved
loop-code-preserved c =
    found_by (stands_in c.args.self) c.left_codes-codes.result.now c.loop-code.code-index _ false c.loop-code-test.true (sym c.stands_in.ensures ∙ c.if-stands_in.false) c.loop-code.invariant

pub returns : goal.returns
returns c =
    sym (at_drop_all (find (stands_in c.args.self)) c.left_codes-codes.result.now c.loop-code.code-index c.loop-code-test.false)
    ∙ c.loop-code.invariant
    ∙ ap (find (stands_in c.args.self)) c.left_codes-codes.ensures
