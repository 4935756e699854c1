use Rattle.std.proofs.Common.{◌+◌, refl, sym, ap, ◌∙◌}
use Rattle.bsp_check.proofs.HotListLemmas.{ended_taken, other_taken, part_taken, taken_if}
use Rattle.bsp_check.specs.HotListing.{stage_with}
use Rattle.bsp_check.proofs.hot_list.HotList.take.Goals as goal

pub returns-in-Ended : goal.returns-in-Ended
returns-in-Ended c = λ ls has. ended_taken c.args.self.now c.args.line.now ls c.in-Ended.is has

pub returns-in-Some : goal.returns-in-Some
returns-in-Some c = λ ls has.
    let found = c.read_record-found.ensures in
    let with = ap (stage_with c.args.self.now.stage) (sym found.value) ∙ sym c.stage_with-stage.ensures ∙ c.in-Some.is in
    part_taken c.args.self.now (record c.args.self.now { next = c.args.self.now.next + 1; stage = c.in-Some.stage }) c.args.line.now ls with (rw found.value at found.small) refl refl refl has

pub returns-in-None : goal.returns-in-None
returns-in-None c =
    let found = c.read_record-found in
    let counted = record c.args.self.now { next = c.args.self.now.next + 1 } in
    taken_if c.take_other.result _ _ c.take_other.ensures (λ taken. λ ls has.
    other_taken c.args.self.now counted c.take_other.new.self c.args.line.now ls found.result found.ensures.value (sym c.stage_with-stage.ensures ∙ c.in-None.is) c.in_default.not-Ended refl taken has)
