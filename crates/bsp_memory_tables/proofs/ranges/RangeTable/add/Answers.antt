use Rattle.std.proofs.Common.{refl, ap, ◌∙◌, Some}
use Rattle.std.specs.FinMap.{insert}
use Rattle.std.specs.Ordering.{nat_cmp}
use Rattle.bsp_maps.specs.Present.{present}
use Rattle.bsp_maps.specs.Undo.{before, content}
use Rattle.bsp_maps.proofs.PresentLemmas.{present-insert}
use Rattle.bsp_maps.specs.Indexes.{found_place, members, members_before}
use Rattle.bsp_maps.proofs.EntryLemmas.{then_ok}
use Rattle.bsp_maps.proofs.IndexLemmas.{index_same, index_written}
use Rattle.bsp_rows.specs.Rows.{range_cmp}
use Rattle.bsp_rows.proofs.KeyOrders.{range_exact, range_total}
use Rattle.bsp_memory_tables.specs.Places.{last_place}
use Rattle.bsp_memory_tables.proofs.PlaceOrders.{ranges_by_last}
use Rattle.bsp_memory_tables.proofs.RangeLemmas.{placed}
use Rattle.bsp_memory_tables.proofs.ranges.RangeTable.add.Goals as goal

pub relocate-requires : goal.relocate-requires
relocate-requires c = ranges_by_last

pub returns-clause-rows : goal.returns-clause-rows
returns-clause-rows c = then_ok c.put.result (λ e. ap present e ∙ present-insert range_total range_exact (content range_cmp c.args.self.now.rows) c.args.key.now c.args.last) c.put.ensures.ok

pub returns-clause-before : goal.returns-clause-before
returns-clause-before c = ap present c.put.ensures.before

pub returns-clause-kept : goal.returns-clause-kept
returns-clause-kept c =
    let rows = content range_cmp c.args.self.now.rows in
    let index = members nat_cmp range_cmp c.relocate.new.self in
    then_ok c.put.result (λ e h. index_same nat_cmp range_cmp last_place (insert (present rows) c.args.key.now c.args.last) (present (content range_cmp c.put.new.self)) index index
    (ap present e ∙ present-insert range_total range_exact rows c.args.key.now c.args.last) refl
    (index_written nat_cmp range_cmp last_place range_total range_exact (present rows) c.args.key.now c.args.last (members nat_cmp range_cmp c.args.self.now.by_last) index c.get-old.result (Some c.args.last)
    (placed c.args.key.now c.get-old.result ∙ ap (found_place last_place c.args.key.now) c.get-old.ensures) refl c.in_ok-relocate.ensures.ok h)) c.put.ensures.ok

pub returns-clause-was_kept : goal.returns-clause-was_kept
returns-clause-was_kept c = index_same nat_cmp range_cmp last_place (present (before range_cmp c.args.self.now.rows)) (present (before range_cmp c.put.new.self)) (members_before nat_cmp range_cmp c.args.self.now.by_last) (members_before nat_cmp range_cmp c.relocate.new.self)
    (ap present c.put.ensures.before) c.in_ok-relocate.ensures.before
