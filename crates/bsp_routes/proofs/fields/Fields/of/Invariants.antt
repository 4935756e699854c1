use Rattle.std.proofs.Common.{map, take}
use Rattle.httparse.specs.Spans.{header_bytes}
use Rattle.bsp_routes.specs.Found.{AreFields}
use Rattle.bsp_routes.proofs.fields.Fields.of.Given as goal

abbrev pub invariant-loop-header : goal.invariant-loop-header
invariant-loop-header l = AreFields l.text (map (header_bytes l.text) (take l.header-index l.headers)) l.fields
