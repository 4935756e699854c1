use Rattle.std.proofs.Common.{◌≡◌, None}
use Rattle.std.specs.Prelude.{drop}
use Rattle.bsp_maps.specs.Spans.{apart_from}
use Rattle.bsp_maps.proofs.spans.are_apart.Given as goal

abbrev pub invariant-loop-span : goal.invariant-loop-span
invariant-loop-span l = apart_from l.end (drop l.span-index l.spans) ≡ apart_from None l.spans
