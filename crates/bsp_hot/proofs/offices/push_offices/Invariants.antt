use Rattle.std.proofs.Common.{drop, length, ◌-◌}
use Rattle.bsp_hot.specs.Output.{IsOutput}
use Rattle.bsp_hot.specs.OfficesSoFar.{heading_of, HaveRoom, HaveOffices}
use Rattle.bsp_hot.proofs.offices.push_offices.Given as goal

abbrev pub invariant-loop-written : goal.invariant-loop-written
invariant-loop-written l = record {
  output : IsOutput l.out;
  have : HaveOffices (heading_of l.initial.out.form l.file) l.initial.out l.rows l.out (drop l.written.transactions l.rows) l.written;
  room : HaveRoom l.written (drop l.written.transactions l.rows);
}

abbrev pub decreases-loop-written : goal.decreases-loop-written
decreases-loop-written l = length l.rows - l.written.transactions
