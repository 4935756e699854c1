use Rattle.std.proofs.Common.{◌++◌, ◌∙◌, ◌+◌, List, [], ◌∷◌, ℕ, ap, sym, codes, take, false, arith}
use Rattle.std.proofs.lemmas.List.{length-take-le, take_all}
use Rattle.serde_json.specs.Data.{Data}
use Rattle.bsp_rules.specs.declared.verdict.Verdict.{Verdict}
use Rattle.bsp_messages.specs.Answers.{verdict_object, verdicts_from}
use Rattle.bsp_messages.proofs.TextLemmas.{items_so_far, list_more, length-verdicts_from, one_verdict_more, results_whole}
use Rattle.bsp_messages.proofs.verdicts.results_text.Goals as goal

pub loop-index-preserved : goal.loop-index-preserved
loop-index-preserved c =
    let index = c.loop-index.index in
    let verdicts = c.args.verdicts.now in
    let verdict = c.index-verdicts-index.result in
    let long = length-verdicts_from 1 (take index verdicts) ∙ length-take-le index verdicts (omega (arith, c.loop-index-test.true)) in
    list_more (codes "{\"results\":[") (verdicts_from 1 (take index verdicts)) _ index _ _ _ long
    c.loop-index.invariant c.in_ok-push_comma.ensures c.in_ok-push_verdict.ensures
    ∙ ap (λ (v : Verdict). codes "{\"results\":[" ++ items_so_far false (verdicts_from 1 (take index verdicts) ++ verdict_object (index + 1) v ∷ [])) c.index-verdicts-index.is
    ∙ ap (λ (ds : List Data). codes "{\"results\":[" ++ items_so_far false ds) (sym (one_verdict_more verdicts index verdict c.loop-index-test.true))

pub returns : goal.returns
returns c =
    let all = take_all c.loop-index.index c.args.verdicts.now c.loop-index-test.false in
    c.in_ok-extend_from_slice.ensures.items
    ∙ ap (λ (t : List ℕ). t ++ codes "]}") (c.loop-index.invariant ∙ ap (λ (vs : List Verdict). codes "{\"results\":[" ++ items_so_far false (verdicts_from 1 vs)) all)
    ∙ sym (results_whole (verdicts_from 1 c.args.verdicts.now))
