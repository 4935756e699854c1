use Rattle.std.proofs.Common.{◌≡◌, ◌≤◌, length}
use Rattle.bsp_routes.proofs.LineLemmas.{IsAt, ends_from}
use Rattle.bsp_routes.proofs.scan.Scan.go_on.Given as goal

abbrev pub invariant-loop-end : goal.invariant-loop-end
invariant-loop-end l = record {
  within : l.start ≤ length l.bytes;
  ends : l.end-iterator ≡ ends_from l.bytes l.start;
  left : IsAt l.fn.self.seen l.fn.self.line l.bytes l.start l.self.seen l.self.line;
}
