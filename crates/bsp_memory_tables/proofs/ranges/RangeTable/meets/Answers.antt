use Rattle.std.proofs.Common.{nat_le, refl, sym, subst, ◌∙◌}
use Rattle.std.specs.Ordering.{nat_cmp}
use Rattle.bsp_maps.specs.Indexes.{IsLeast, members}
use Rattle.bsp_rows.specs.declared.keys.RangeKey.{RangeKey}
use Rattle.bsp_rows.specs.Rows.{range_cmp}
use Rattle.bsp_memory_tables.specs.RangeTables.{range_rows}
use Rattle.bsp_memory_tables.proofs.PlaceOrders.{least_range_key}
use Rattle.bsp_memory_tables.proofs.RangeLemmas.{as_le, first_reaches, none_reaches}
use Rattle.bsp_memory_tables.proofs.ranges.RangeTable.meets.Goals as goal

pub first_from-requires : goal.first_from-requires
first_from-requires c = subst (λ (k : RangeKey). IsLeast range_cmp k) (sym c.least_range.ensures) least_range_key

pub returns-in-None : goal.returns-in-None
returns-in-None c = λ kept apart.
    sym (none_reaches c.args.range.now (range_rows c.args.self.now) (members nat_cmp range_cmp c.args.self.now.by_last) kept (sym c.first_from.ensures ∙ c.in-None.is))

pub returns-in-Some : goal.returns-in-Some
returns-in-Some c = λ kept apart.
    c.le.ensures
    ∙ as_le c.in-Some.key.first c.args.range.now.last (nat_le c.in-Some.key.first c.args.range.now.last) refl
    ∙ first_reaches c.args.range.now (range_rows c.args.self.now) (members nat_cmp range_cmp c.args.self.now.by_last) kept apart c.in-Some.field-0-0 c.in-Some.key (sym c.first_from.ensures ∙ c.in-Some.is)
