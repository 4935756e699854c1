use Rattle.std.proofs.Common.{◌≡◌, ◌++◌, take}
use Rattle.bsp_statement.specs.Postings.{item_postings}
use Rattle.bsp_statement.proofs.rows.push_items.Given as goal

abbrev pub invariant-loop-item : goal.invariant-loop-item
invariant-loop-item l = l.out.items ≡ l.initial.out.items ++ item_postings l.period (take l.item-index l.items)
