use Rattle.std.proofs.Common.{◌≡◌, ◌+◌, false, length}
use Rattle.std.specs.Prelude.{if◌then◌else◌}
use Rattle.bsp_check.specs.Windows.{room, text_of}
use Rattle.bsp_check.proofs.LineLemmas.{IsWithin}
use Rattle.bsp_check.proofs.long_line.line_width.Given as goal

abbrev pub invariant-loop-window : goal.invariant-loop-window
invariant-loop-window g l = record {
  within : IsWithin (text_of l.fn.window) l.before l.fn.window l.window (g.R.Read.remaining l.fn.reader.inner) (g.R.Read.remaining l.reader.inner);
  full : l.window.ended ≡ false → length (text_of l.window) ≡ room;
}

abbrev pub decreases-loop-window : goal.decreases-loop-window
decreases-loop-window g l = if l.window.ended then 0 else l.window.left + 1
