use Rattle.std.proofs.Common.{◌≡◌, true, false, ℕ, ◌≤◌, List, [], length}
use Rattle.std.specs.Io.KnownBytes.{Consumes}
use Rattle.bsp_connection.specs.Progress.{most_to_come}
use Rattle.bsp_connection.proofs.ServeLemmas.{SoFar}
use Rattle.bsp_connection.proofs.serving.serve_with.Given as goal

abbrev pub invariant-steps : goal.invariant-steps
invariant-steps g l = record {
  talk : (got : List ℕ) × Consumes (g.R.Read.remaining l.fn.reader.inner) (g.R.Read.remaining l.reader.inner) got
      × SoFar g.S.Service.means g.S.Service.reads l.fn.desk (g.W.Write.contents l.fn.writer.inner) (g.W.Write.contents l.writer.inner) l.c l.desk got;
  none : l.c.out.bytes ≡ [];
  free : l.c.out.apart ≡ false;
  unclosed : l.c.closed ≡ false;
  capacity : 32768 ≤ l.c.received.room;
  piece : length l.room ≡ 16384;
  failed : l.reader.failed ≡ l.fn.reader.failed;
  empty : l.reader.empty ≤ l.fn.reader.empty;
  noted : l.fn.writer.failed ≡ true → l.writer.failed ≡ true;
}

abbrev pub decreases-steps : goal.decreases-steps
decreases-steps g l = most_to_come l.c
