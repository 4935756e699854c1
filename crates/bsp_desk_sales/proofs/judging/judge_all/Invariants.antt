use Rattle.std.proofs.Common.{◌≡◌, ◌≤◌, false, length, take, vec_len, vec_capacity}
use Rattle.bsp_desk_sales.specs.Judged.{AreJudged}
use Rattle.bsp_desk_sales.proofs.judging.judge_all.Given as goal

abbrev pub invariant-loop-index : goal.invariant-loop-index
invariant-loop-index g l =
    let m = g.B.Book.means in
    record {
      judged : AreJudged m l.initial.book l.book l.reporter (take l.index l.file.groups) l.verdicts.items;
      trust : m.trusts l.book → m.trusts l.initial.book;
      works : m.has_failed l.book ≡ false;
      count : vec_len l.verdicts ≡ l.index;
      room : length l.file.groups ≤ vec_capacity l.verdicts;
    }
