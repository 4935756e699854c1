use Rattle.std.proofs.Common.{refl, ap, rules}
use Rattle.std.specs.Prelude.{Err}
use Rattle.bsp_check.proofs.Faults.{ok_not_err, not_read, not_long, not_write, same_fault, piece_not_write, piece_not_long}
use Rattle.bsp_check.proofs.Pieces.{taken_none, piece_stops, nothing_taken, none_within}
use Rattle.bsp_check.proofs.reading.read_whole.Goals as goal

pub returns-in_default : goal.returns-in_default
returns-in_default g c = record {
  whole = tt;
  limit = tt;
  stopped = nothing_taken _ _;
  fault = not_write _ _ refl tt;
  long = λ other. absurd (not_long _ _ refl tt other);
  cause = λ other. absurd (not_read _ _ refl tt other);
}

pub loop-all-init : goal.loop-all-init
loop-all-init g c = record {
  taken = taken_none _ _ c.new-all.ensures.items;
  within = none_within _ _ c.new-all.ensures.items;
  room = c.in-Ok.ensures;
}

pub returns-in-Ok-false-clause-fault : goal.returns-in-Ok-false-clause-fault
returns-in-Ok-false-clause-fault g c = ok_not_err _ _ _ refl

pub returns-in-Ok-false-clause-long : goal.returns-in-Ok-false-clause-long
returns-in-Ok-false-clause-long g c = λ other. absurd (ok_not_err _ _ _ refl other)

pub returns-in-Ok-false-clause-cause : goal.returns-in-Ok-false-clause-cause
returns-in-Ok-false-clause-cause g c = λ other. absurd (ok_not_err _ _ _ refl other)

pub returns-in-Err-clause-stopped : goal.returns-in-Err-clause-stopped
returns-in-Err-clause-stopped g c =
    piece_stops _ _ _ c.loop-all.all.items _ _ c.loop-all.invariant.taken (search rules) c.in-Err.ensures.stopped

pub returns-in-Err-clause-fault : goal.returns-in-Err-clause-fault
returns-in-Err-clause-fault g c = not_write _ _ refl (piece_not_write c.in-Err.fault _ refl c.in-Err.ensures.fault)

pub returns-in-Err-clause-long : goal.returns-in-Err-clause-long
returns-in-Err-clause-long g c = λ other. absurd (not_long _ _ refl (piece_not_long c.in-Err.fault _ refl c.in-Err.ensures.fault) other)

pub returns-in-Err-clause-cause : goal.returns-in-Err-clause-cause
returns-in-Err-clause-cause g c = λ other. c.in-Err.ensures.cause (ap Err (same_fault _ _ _ refl other))

pub returns-clause-stopped : goal.returns-clause-stopped
returns-clause-stopped g c = (c.loop-all.all.items, c.loop-all.invariant.taken, c.loop-all.invariant.within)

pub returns-clause-fault : goal.returns-clause-fault
returns-clause-fault g c = not_write _ _ refl tt

pub returns-clause-cause : goal.returns-clause-cause
returns-clause-cause g c = λ other. absurd (not_read _ _ refl tt other)
