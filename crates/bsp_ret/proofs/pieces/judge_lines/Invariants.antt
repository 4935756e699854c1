use Rattle.std.proofs.Common.{◌≡◌, ◌-◌, length, take}
use Rattle.bsp_ret.specs.Notes.{IsNoted}
use Rattle.bsp_ret.proofs.pieces.judge_lines.Given as goal

abbrev pub invariant-loop-line : goal.invariant-loop-line
invariant-loop-line l = record {
  noted : IsNoted l.now l.closed.items l.bytes;
  kept : take (length l.fn.closed.items) l.closed.items ≡ l.fn.closed.items;
}

abbrev pub decreases-loop-line : goal.decreases-loop-line
decreases-loop-line l = length l.bytes - l.now.judged
