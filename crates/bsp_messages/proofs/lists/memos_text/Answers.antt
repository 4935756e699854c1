use Rattle.std.proofs.Common.{◌++◌, ◌∙◌, List, [], ◌∷◌, ℕ, ap, refl, sym, codes, map, take, false, arith}
use Rattle.std.proofs.lemmas.List.{length-map, length-take-le, take_all}
use Rattle.serde_json.specs.Data.{Data}
use Rattle.serde_json.specs.Written.{compact_text}
use Rattle.bsp_memos.specs.declared.fields.MemoFields.{MemoFields}
use Rattle.bsp_messages.specs.Answers.{memo_object}
use Rattle.bsp_messages.proofs.TextLemmas.{items_so_far, list_more, one_object_more, memos_whole, written_text}
use Rattle.bsp_messages.proofs.lists.memos_text.Goals as goal

pub loop-index-preserved : goal.loop-index-preserved
loop-index-preserved c =
    let index = c.loop-index.index in
    let shown = c.args.memos.now in
    let long = length-map (take index shown) memo_object ∙ length-take-le index shown (omega (arith, c.loop-index-test.true)) in
    list_more (codes "{\"memos\":[") (map memo_object (take index shown)) (memo_object c.index-memos-index.result) index _ _ _ long
    c.loop-index.invariant refl
    (written_text c.memo_text.result _ _ (compact_text (memo_object c.index-memos-index.result)) c.memo_text.ensures c.in_ok-push_item.ensures)
    ∙ ap (λ (x : MemoFields). codes "{\"memos\":[" ++ items_so_far false (map memo_object (take index shown) ++ memo_object x ∷ [])) c.index-memos-index.is
    ∙ ap (λ (ds : List Data). codes "{\"memos\":[" ++ items_so_far false ds) (sym (one_object_more memo_object shown index c.index-memos-index.result c.loop-index-test.true))

pub returns : goal.returns
returns c =
    let all = take_all c.loop-index.index c.args.memos.now c.loop-index-test.false in
    c.in_ok-extend_from_slice.ensures.items
    ∙ ap (λ (t : List ℕ). t ++ codes "]}") (c.loop-index.invariant ∙ ap (λ (xs : List MemoFields). codes "{\"memos\":[" ++ items_so_far false (map memo_object xs)) all)
    ∙ sym (memos_whole (map memo_object c.args.memos.now))
