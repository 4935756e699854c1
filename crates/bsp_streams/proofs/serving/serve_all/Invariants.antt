use Rattle.std.proofs.Common.{◌≡◌, ◌≤◌, List, length}
use Rattle.bsp_streams.specs.Serving.{SoFar}
use Rattle.bsp_streams.specs.declared.peers.Happened.{Happened}
use Rattle.bsp_streams.proofs.serving.serve_all.Given as goal

abbrev pub invariant-turns : goal.invariant-turns
invariant-turns g l = record {
  so_far : (waits : List Happened) × (length waits ≡ l.counter) × SoFar g.P.Peers.did g.R.Protocol.steps g.R.Protocol.talks g.R.Protocol.rests l.fn.peers l.peers l.fn.desk l.desk waits l.table;
  within : l.table.next ≤ l.fn.limits.in_all;
}
