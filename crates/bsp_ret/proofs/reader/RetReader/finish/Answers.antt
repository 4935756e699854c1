use Rattle.std.proofs.Common.{◌≡◌, ◌∙◌, refl, sym, ap}
use Rattle.bsp_fields.specs.Lines.{lines}
use Rattle.bsp_ret.specs.Pieces.{Fed}
use Rattle.bsp_ret.specs.Notes.{IsNotedTo}
use Rattle.bsp_ret.proofs.LawLemmas.{fault_of, read_is_fault}
use Rattle.bsp_ret.proofs.FeedLemmas.{known_reading}
use Rattle.bsp_ret.proofs.reader.RetReader.finish.Goals as goal

pub returns-clause-reading : goal.returns-clause-reading
returns-clause-reading c = λ reading.
    let r = c.self.inside in
    let known : IsNotedTo r.notes r.closed.items c.deref.result.now = rw c.deref.ensures.value (known_reading r.progress r.notes r.closed.items r.bytes.items c.in-Reading.is c.self.invariant) in
    let bytes : c.deref.result.now ≡ c.args.self.now.bytes = c.deref.ensures.value ∙ ap (λ (f : Fed). f.bytes) c.self.view_is in
    let file = c.in-Ok.ensures.ok r.closed.items known in
    (rw bytes at (sym (read_is_fault (lines c.deref.result.now)) ∙ ap fault_of file.read), rw (← c.self.view_is) refl)

pub returns-in-Err-clause-reading : goal.returns-in-Err-clause-reading
returns-in-Err-clause-reading c = λ reading.
    let r = c.self.inside in
    let known : IsNotedTo r.notes r.closed.items c.deref.result.now = rw c.deref.ensures.value (known_reading r.progress r.notes r.closed.items r.bytes.items c.in-Reading.is c.self.invariant) in
    let bytes : c.deref.result.now ≡ c.args.self.now.bytes = c.deref.ensures.value ∙ ap (λ (f : Fed). f.bytes) c.self.view_is in
    (rw bytes at (sym (read_is_fault (lines c.deref.result.now)) ∙ ap fault_of (c.in-Err.ensures.fault r.closed.items known)), rw (← c.self.view_is) refl)
