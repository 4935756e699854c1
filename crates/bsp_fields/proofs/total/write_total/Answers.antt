use Rattle.std.proofs.Common.{◌≡◌, ◌≤◌, ◌↔◌, ◌∙◌, ℤ, ℕ, List, Ok, ap, arith, subst, unsigned_abs}
use Rattle.bsp_fields.specs.Zoned.{IsSpelling, spelling}
use Rattle.bsp_fields.proofs.ZonedLemmas.{stored}
use Rattle.bsp_fields.proofs.total.write_total.Goals as goal

pub returns : goal.returns
returns c =
    let IsOnly : ℤ → Type 0 = λ units. (text : List ℕ) → IsSpelling 15 units text ↔ (text ≡ c.write_zoned.result) in
    let small : unsigned_abs c.total.inside.units ≤ 999_999_999_999_999 = c.total.invariant in
    let same = stored c.total.inside.units (omega (arith, small)) ∙ c.total.view_is in
    record {
      text = c.write_zoned.ensures.text ∙ ap (spelling 15) same;
      one_spelling = subst IsOnly same c.write_zoned.ensures.one_spelling;
      reads_back = c.write_zoned.ensures.reads_back ∙ ap (λ (units : ℤ). Ok units) same;
    }
