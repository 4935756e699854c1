use Rattle.std.proofs.Common.{◌++◌, ◌∙◌, ◌+◌, List, ℕ, Some, None, drop, option_map, sym, ap, append_assoc, append-nil}
use Rattle.std.proofs.lemmas.List.{drop_all}
use Rattle.bsp_maps.specs.Undo.{content}
use Rattle.bsp_rows.specs.ReportedDocument.{ReportedDocument}
use Rattle.bsp_memory_tables.specs.Numbers.{keys_at, keys_at_each, number_cmp, place_numbers}
use Rattle.bsp_memory_tables.proofs.FilterMapLemmas.{one_on}
use Rattle.bsp_memory_tables.proofs.numbers.add_keys_at_places.Goals as goal
use Rattle.bsp_memory_tables.proofs.numbers.add_keys_at_places.Goals.{in-Some+in_ok-add_keys_at, in_default}

pub loop-place-preserved : goal.loop-place-preserved
loop-place-preserved c =
    let index = content number_cmp c.args.index.now in
    let keys = λ (numbers : List (List ℕ)). keys_at_each index c.args.agent numbers in
    let found = c.loop-place.found.items in
    let places = c.args.places.now in
    let at = c.loop-place.place-index in
    let test = c.loop-place-test.true in
    let is = c.place-item.is in
    let number = λ (d : ReportedDocument). d.number in
    elim c.match-place.branch [
      | in-Some+in_ok-add_keys_at w ↦ (let here = keys_at index c.args.agent w.in-Some.document.number in
          let later = keys (place_numbers (drop (at + 1) places)) in
          rw w.found-is (ap (λ ks. ks ++ later) w.in_ok-add_keys_at.ensures ∙ append_assoc found here later
          ∙ ap (λ ns. found ++ keys ns) (sym (one_on (option_map number) places at c.place-item.result (Some w.in-Some.document.number) test is (ap (option_map number) w.in-Some.is)))
          ∙ c.loop-place.invariant))
      | in_default w ↦ rw w.found-is (ap (λ ns. found ++ keys ns) (sym (one_on (option_map number) places at c.place-item.result None test is (ap (option_map number) w.in_default.is))) ∙ c.loop-place.invariant)
    ]

pub returns : goal.returns
returns c =
    let found = c.loop-place.found.items in
    sym (append-nil found)
    ∙ ap (λ ps. found ++ keys_at_each (content number_cmp c.args.index.now) c.args.agent (place_numbers ps)) (sym (drop_all c.loop-place.place-index c.args.places.now c.loop-place-test.false))
    ∙ c.loop-place.invariant
