use Rattle.std.proofs.Common.{◌++◌, ◌∙◌, List, [], ◌∷◌, ℕ, ap, refl, sym, codes, map, take, false, arith}
use Rattle.std.proofs.lemmas.List.{length-map, length-take-le, take_all}
use Rattle.serde_json.specs.Data.{Data}
use Rattle.serde_json.specs.Written.{compact_text}
use Rattle.bsp_messages.specs.declared.answer.RangeShown.{RangeShown}
use Rattle.bsp_messages.specs.Answers.{range_object}
use Rattle.bsp_messages.proofs.TextLemmas.{items_so_far, list_more, one_object_more, ranges_whole, written_text}
use Rattle.bsp_messages.proofs.lists.ranges_text.Goals as goal

pub loop-index-preserved : goal.loop-index-preserved
loop-index-preserved c =
    let index = c.loop-index.index in
    let shown = c.args.ranges.now in
    let long = length-map (take index shown) range_object ∙ length-take-le index shown (omega (arith, c.loop-index-test.true)) in
    list_more (codes "{\"ranges\":[") (map range_object (take index shown)) (range_object c.index-ranges-index.result) index _ _ _ long
    c.loop-index.invariant refl
    (written_text c.range_text.result _ _ (compact_text (range_object c.index-ranges-index.result)) c.range_text.ensures c.in_ok-push_item.ensures)
    ∙ ap (λ (x : RangeShown). codes "{\"ranges\":[" ++ items_so_far false (map range_object (take index shown) ++ range_object x ∷ [])) c.index-ranges-index.is
    ∙ ap (λ (ds : List Data). codes "{\"ranges\":[" ++ items_so_far false ds) (sym (one_object_more range_object shown index c.index-ranges-index.result c.loop-index-test.true))

pub returns : goal.returns
returns c =
    let all = take_all c.loop-index.index c.args.ranges.now c.loop-index-test.false in
    c.in_ok-extend_from_slice.ensures.items
    ∙ ap (λ (t : List ℕ). t ++ codes "]}") (c.loop-index.invariant ∙ ap (λ (xs : List RangeShown). codes "{\"ranges\":[" ++ items_so_far false (map range_object xs)) all)
    ∙ sym (ranges_whole (map range_object c.args.ranges.now))
