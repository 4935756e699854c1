use Rattle.std.proofs.Common.{◌≡◌, ◌+◌, List, [], ◌∷◌, ◌++◌, map, take, length, sym, ap, ◌∙◌, subst, arith, length-take}
use Rattle.std.proofs.lemmas.List.{length-map, map_more}
use Rattle.bsp_hot_check.specs.Records.{Record}
use Rattle.bsp_hot.specs.declared.rows.Row.{Row}
use Rattle.bsp_hot_check.specs.Hot.{Item, item_records, items_records}
use Rattle.bsp_hot_check.proofs.Steps.{items_records_snoc}
use Rattle.bsp_hot.specs.Output.{Adds}
use Rattle.bsp_hot_check.specs.FileForm.{FileForm}
use Rattle.bsp_hot.specs.Rows.{item_in}
use Rattle.bsp_hot.specs.Sorting.{row_item, written_item}
use Rattle.bsp_hot.proofs.OutputLemmas.{adds_then}
use Rattle.bsp_hot.proofs.offices.push_documents.Goals as goal

pub loop-index-preserved : goal.loop-index-preserved
loop-index-preserved c =
    let rows = c.args.rows.now in
    let i = c.loop-index.index in
    let row = c.index-rows-index.result in
    let airline = c.args.airline in
    let agent = c.args.agent in
    let first = c.args.first in
    let form = c.args.out.now.form in
    let item : Row → Item = written_item form in
    let items = map item (take i rows) in
    let count : length items ≡ i = length-map (take i rows) item ∙ length-take i rows ∙ omega (arith, c.loop-index-test.true) in
    let more : map item (take (i + 1) rows) ≡ items ++ item row ∷ [] = map_more item rows i row c.loop-index-test.true ∙ ap (λ r. items ++ item r ∷ []) (sym c.index-rows-index.is) in
    let numbered : items_records airline agent first items ++ item_records airline agent (first + i) (item row) ≡ items_records airline agent first (items ++ item row ∷ []) = ap (λ k. items_records airline agent first items ++ item_records airline agent (first + k) (item row)) (sym count) ∙ sym (items_records_snoc airline agent first items (item row)) in
    let Written : FileForm → Type 0 = λ f. Adds c.loop-index.out c.push_row.new.out (item_records airline agent (first + i) (item_in f (row_item row))) in
    let P : List Record → Type 0 = λ records. Adds c.args.out.now c.push_row.new.out records in
    subst P (numbered ∙ ap (items_records airline agent first) (sym more))
    (adds_then c.args.out.now c.loop-index.out c.push_row.new.out (items_records airline agent first items) (item_records airline agent (first + i) (item row)) c.loop-index.invariant (subst Written c.loop-index.invariant.form c.in_ok-push_row.ensures))
