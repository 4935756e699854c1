use Rattle.std.proofs.Common.{◌≡◌, ◌+◌, ◌≤◌, ◌++◌, length, vec_len, vec_capacity}
use Rattle.bsp_ret.specs.Notes.{groups_at, ArePlaces}
use Rattle.bsp_ret.proofs.notes.groups.Given as goal

abbrev pub invariant-loop-place : goal.invariant-loop-place
invariant-loop-place l = record {
  done : groups_at l.bytes l.closed ≡ l.groups.items ++ groups_at l.bytes l.places;
  left : ArePlaces l.bytes (length l.bytes) l.places;
  room : vec_len l.groups + length l.places + 1 ≤ vec_capacity l.groups;
}

abbrev pub decreases-loop-place : goal.decreases-loop-place
decreases-loop-place l = length l.places
