use Rattle.std.proofs.Common.{◌≡◌, true, take}
use Rattle.std.specs.List.{list_all}
use Rattle.bsp_fields.specs.Columns.{is_printable}
use Rattle.bsp_explain.proofs.width.unprintable.Given as goal

abbrev pub invariant-loop-index : goal.invariant-loop-index
invariant-loop-index l = list_all is_printable (take l.index l.line) ≡ true
