use Rattle.std.proofs.Common.{◌≡◌, ◌+◌, ◌<◌, ◌∙◌, List, ℕ, length, refl, ap, arith}
use Rattle.bsp_ret.specs.declared.model.FaultCode.TheVariants.{F08}
use Rattle.bsp_ret.specs.declared.model.RetFault.{RetFault}
use Rattle.bsp_fields.specs.Lines.{lines}
use Rattle.bsp_ret.specs.Pieces.{Fed, fault_at_end}
use Rattle.bsp_ret.proofs.FeedLemmas.{known_reading, came_some}
use Rattle.bsp_ret.proofs.reader.RetReader.unended.Goals as goal

-- F08 at one more than the lines that came
told : (at : ℕ) (bytes items : List ℕ) → items ≡ bytes → at ≡ length (lines items) + 1 → ◌≡◌ {A = RetFault} (record { code = F08; at = at }) (fault_at_end F08 bytes)
told at bytes items same is = rw (is, same) refl

pub returns : goal.returns
returns c =
    let r = c.self.inside in
    let known = known_reading r.progress r.notes r.closed.items r.bytes.items (ap (λ (f : Fed). f.progress) c.self.view_is ∙ c.requires) c.self.invariant in
    let some : r.notes.judged < length r.bytes.items = omega (arith, c.if-judged-len.false, c.len.ensures, r.bytes.ok.0, known.noted.places.within) in
    let count = came_some r.notes r.closed.items r.bytes.items known some in
    told (r.notes.at.records + 2) c.args.self.now.bytes r.bytes.items (ap (λ (f : Fed). f.bytes) c.self.view_is) (omega (arith, count))
