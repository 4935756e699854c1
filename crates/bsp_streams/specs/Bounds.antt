-- What a read or a write moves.
use Rattle.std.specs.Prelude.{ℕ, ◌≤◌, List, length}
use Rattle.bsp_streams.specs.declared.peers.Moved.{Moved}
use Rattle.bsp_streams.specs.declared.peers.Moved.TheVariants.{Bytes, NotNow, Ended, Failed}

-- no more bytes than there are
abbrev pub MovesAtMost : Moved → List ℕ → Type 0
MovesAtMost (Bytes count) bytes = count ≤ length bytes
MovesAtMost NotNow bytes = Unit {0}
MovesAtMost Ended bytes = Unit {0}
MovesAtMost Failed bytes = Unit {0}
