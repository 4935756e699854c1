use Rattle.std.proofs.Common.{◌≡◌, refl, ap}
use Rattle.bsp_ret.specs.Pieces.{Fed}
use Rattle.bsp_ret.proofs.PieceLemmas.{clear_so_far}
use Rattle.bsp_ret.proofs.FeedLemmas.{known_reading, noted_on}
use Rattle.bsp_ret.proofs.reader.RetReader.feed.Goals as goal

pub judge_lines-requires : goal.judge_lines-requires
judge_lines-requires c =
    let r = c.self.inside in
    let known = known_reading r.progress r.notes r.closed.items r.bytes.items c.in-Reading.is c.self.invariant in
    rw (c.deref.ensures.value, c.in_ok-extend_from_slice.ensures.items) (noted_on r.notes r.closed.items r.bytes.items c.args.piece.now known.noted)

pub returns-in-Ok-clause-ok : goal.returns-in-Ok-clause-ok
returns-in-Ok-clause-ok c = λ reading.
    let bytes : c.self.inside.bytes.items ≡ c.args.self.now.bytes = ap (λ (f : Fed). f.bytes) c.self.view_is in
    let known = rw c.deref.ensures.value at c.in-Ok.ensures.ok in
    (rw (c.in_ok-extend_from_slice.ensures.items, c.in-Reading.is, ← bytes) refl, clear_so_far c.in-Ok.notes c.judge_lines.new.closed.items c.extend_from_slice.new.self.items known)
