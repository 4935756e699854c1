use Rattle.std.proofs.Common.{◌≡◌, take}
use Rattle.std.specs.Int.{is_in_range}
use Rattle.std.specs.List.{list_all}
use Rattle.bsp_fields.proofs.characters.all_in_range.Given as goal

abbrev pub invariant-loop-b : goal.invariant-loop-b
invariant-loop-b l = l.all ≡ list_all (is_in_range l.from l.to) (take l.b-index l.text)
