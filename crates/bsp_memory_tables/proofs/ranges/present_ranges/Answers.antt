use Rattle.std.proofs.Common.{◌++◌, ◌∙◌, Some, option_map, refl, sym, ap, append-nil}
use Rattle.std.proofs.lemmas.List.{drop_all}
use Rattle.bsp_rows.specs.Rows.{range_of}
use Rattle.bsp_memory_tables.specs.RangeTables.{present_range, present_ranges}
use Rattle.bsp_memory_tables.proofs.FilterMapLemmas.{none_more, one_more}
use Rattle.bsp_memory_tables.proofs.ranges.present_ranges.Goals as goal
use Rattle.bsp_memory_tables.proofs.ranges.present_ranges.Goals.{in-Some+in_ok-push, in_default}

pub loop-key-init : goal.loop-key-init
loop-key-init c = rw c.new-found.ensures.items refl

pub loop-key-preserved : goal.loop-key-preserved
loop-key-preserved c =
    let entries = c.args.entries.now in
    let index = c.loop-key.key-index in
    let entry = c.loop-key-item.result in
    let test = c.loop-key-test.true in
    let is = c.loop-key-item.is in
    elim c.match-last.branch [
      | in-Some+in_ok-push w ↦ rw w.found-is (one_more present_range entries index entry w.up_to.result c.loop-key.found.items w.push.new.self.items (present_ranges entries) test is
          (ap (option_map (λ last. range_of (entry.0, last))) w.in-Some.is ∙ ap Some (sym w.up_to.ensures)) w.in_ok-push.ensures.items c.loop-key.invariant)
      | in_default w ↦ rw w.found-is (none_more present_range entries index entry c.loop-key.found.items (present_ranges entries) test is
          (ap (option_map (λ last. range_of (entry.0, last))) w.in_default.is) c.loop-key.invariant)
    ]

pub returns : goal.returns
returns c =
    let found = c.loop-key.found.items in
    sym (append-nil found) ∙ ap (λ es. found ++ present_ranges es) (sym (drop_all c.loop-key.key-index c.args.entries.now c.loop-key-test.false)) ∙ c.loop-key.invariant
