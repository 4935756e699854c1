use Rattle.std.proofs.Common.{◌≡◌, ◌∙◌, true, sym}
use Rattle.std.specs.Str.{bytes_eq}
use Rattle.bsp_memos.proofs.ReasonLemmas.{same_reason}
use Rattle.bsp_memos.proofs.memo.Memo.has_same_claim.Goals as goal

pub returns-then-eq : goal.returns-then-eq
returns-then-eq c =
    let own = c.self.inside.fields in
    let other = c.other.inside.fields in
    let reasons : bytes_eq own.reason other.reason ≡ true = sym (same_reason own.reason other.reason) ∙ sym c.if-eq.ensures in
    rw (← c.self.view_is, ← c.other.view_is) (rw reasons c.eq-then-eq.ensures)
