use Rattle.std.proofs.Common.{length, take, refl, inl, inr}
use Rattle.bsp_check.proofs.Faults.{ok_not_err, true_not_false, not_read}
use Rattle.bsp_check.proofs.Pieces.{empty_piece, kept_piece, within_room, longer, room_left}
use Rattle.bsp_check.proofs.reading.read_piece.Goals as goal

pub returns-in-Ok-eq0-clause-piece : goal.returns-in-Ok-eq0-clause-piece
returns-in-Ok-eq0-clause-piece g c = empty_piece _ _ c.in-Ok-eq0.field-0 _ c.read.new.buf c.args.all.now.items c.in-Ok-eq0.field-0-test c.in-Ok-eq0.ensures.bytes.0

pub returns-in-Ok-eq0-clause-more : goal.returns-in-Ok-eq0-clause-more
returns-in-Ok-eq0-clause-more g c = λ other. absurd (true_not_false _ other refl)

pub returns-in-Ok-eq0-clause-same : goal.returns-in-Ok-eq0-clause-same
returns-in-Ok-eq0-clause-same g c = λ is. refl

pub returns-in-Ok-extend_from_slice-clause-end : goal.returns-in-Ok-extend_from_slice-clause-end
returns-in-Ok-extend_from_slice-clause-end g c = λ other. absurd (true_not_false _ refl other)

pub returns-in-Ok-extend_from_slice-clause-same : goal.returns-in-Ok-extend_from_slice-clause-same
returns-in-Ok-extend_from_slice-clause-same g c = λ other. absurd (true_not_false _ refl other)

pub returns-in-Ok-extend_from_slice-clause-cause : goal.returns-in-Ok-extend_from_slice-clause-cause
returns-in-Ok-extend_from_slice-clause-cause g c = λ other. absurd (ok_not_err _ _ _ refl other)

pub returns-in-Err-extend_from_slice-clause-end : goal.returns-in-Err-extend_from_slice-clause-end
returns-in-Err-extend_from_slice-clause-end g c = λ other. absurd (ok_not_err _ _ _ other refl)

pub returns-in-Err-extend_from_slice-clause-more : goal.returns-in-Err-extend_from_slice-clause-more
returns-in-Err-extend_from_slice-clause-more g c = λ other. absurd (ok_not_err _ _ _ other refl)

pub returns-in-Err-extend_from_slice-clause-same : goal.returns-in-Err-extend_from_slice-clause-same
returns-in-Err-extend_from_slice-clause-same g c = λ other. absurd (ok_not_err _ _ _ other refl)

pub returns-in-Err-extend_from_slice-clause-fault : goal.returns-in-Err-extend_from_slice-clause-fault
returns-in-Err-extend_from_slice-clause-fault g c = inr refl

pub returns-in-Err-extend_from_slice-clause-cause : goal.returns-in-Err-extend_from_slice-clause-cause
returns-in-Err-extend_from_slice-clause-cause g c = λ other. absurd (not_read _ _ refl tt other)

pub returns-in-Err-clause-more : goal.returns-in-Err-clause-more
returns-in-Err-clause-more g c = λ other. absurd (ok_not_err _ _ _ other refl)

pub returns-in-Err-clause-same : goal.returns-in-Err-clause-same
returns-in-Err-clause-same g c = λ other. absurd (ok_not_err _ _ _ other refl)

pub returns-in-Err-clause-fault : goal.returns-in-Err-clause-fault
returns-in-Err-clause-fault g c = inl refl

pub returns-in-Err-clause-cause : goal.returns-in-Err-clause-cause
returns-in-Err-clause-cause g c = λ is. c.in-Err.ensures.failed

pub returns-in-Ok-eq0-clause-end : goal.returns-in-Ok-eq0-clause-end
returns-in-Ok-eq0-clause-end g c = λ is some.
    c.in-Ok-eq0.ensures.bytes.1 c.in-Ok-eq0.field-0-test (room_left (length c.read.new.buf) (length c.args.room.now) c.read.auto.buf some)

pub returns-in-Ok-extend_from_slice-clause-piece : goal.returns-in-Ok-extend_from_slice-clause-piece
returns-in-Ok-extend_from_slice-clause-piece g c =
    let read = c.in-Ok.ensures in
    (take c.in-Ok.n c.read.new.buf, read.bytes.0, c.in-Ok-extend_from_slice.ensures.items, within_room c.in-Ok.n _ c.read.new.buf c.read.auto.buf read.bound.0)

pub returns-in-Ok-extend_from_slice-clause-more : goal.returns-in-Ok-extend_from_slice-clause-more
returns-in-Ok-extend_from_slice-clause-more g c = λ is.
    longer c.in-Ok.n c.read.new.buf c.args.all.now.items c.extend_from_slice.new.self.items c.in-Ok-extend_from_slice.ensures.items c.in-Ok.ensures.bound.0 c.in-Ok.n-test.1

pub returns-in-Err-extend_from_slice-clause-stopped : goal.returns-in-Err-extend_from_slice-clause-stopped
returns-in-Err-extend_from_slice-clause-stopped g c =
    let read = c.in-Ok.ensures in (take c.in-Ok.n c.read.new.buf, read.bytes.0, within_room c.in-Ok.n _ c.read.new.buf c.read.auto.buf read.bound.0)

pub returns-in-Err-clause-stopped : goal.returns-in-Err-clause-stopped
returns-in-Err-clause-stopped g c = kept_piece _ _ _ c.in-Err.ensures.bytes
