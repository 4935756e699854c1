use Rattle.std.proofs.Common.{◌≡◌, take, eqb}
use Rattle.std.specs.Bool.{Decides}
use Rattle.bsp_fields.proofs.token.is_same.Given as goal

abbrev pub invariant-loop-place : goal.invariant-loop-place
invariant-loop-place l = Decides (eqb l.difference 0) (take l.place l.own ≡ take l.place l.other)
