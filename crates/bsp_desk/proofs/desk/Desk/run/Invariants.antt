use Rattle.std.proofs.Common.{◌≡◌, ◌≤◌, List, None, length, take, vec_len, vec_capacity}
use Rattle.bsp_rows.specs.Rows.{Rows}
use Rattle.bsp_rows.specs.Sound.{Sound}
use Rattle.bsp_desk_writes.specs.Requests.{Request as Reading}
use Rattle.bsp_desk.specs.Reading.{AreRead}
use Rattle.bsp_desk.specs.Runs.{AreAnswered}
use Rattle.bsp_desk.proofs.Reach.{Reached}
use Rattle.bsp_desk.proofs.desk.Desk.run.Given as goal

abbrev pub invariant-loop-request : goal.invariant-loop-request
invariant-loop-request g l =
    let m = g.B.Book.means in
    record {
      answered : AreAnswered m l.fn.self.office l.fn.self.book (take l.request-index l.requests) l.replies.items l.self.book;
      trust : m.trusts l.self.book → m.trusts l.fn.self.book;
      reached : (readings : List Reading) → AreRead (take l.request-index l.requests) readings → m.trusts l.self.book → (rows : Rows) → Sound rows → m.holds l.fn.self.book rows None →
          Reached l.fn.self.office rows (m.has_failed l.self.book) (λ r. m.holds l.self.book r None) readings l.replies.items;
      count : vec_len l.replies ≡ l.request-index;
      room : length l.requests ≤ vec_capacity l.replies;
      office : l.self.office ≡ l.fn.self.office;
    }
