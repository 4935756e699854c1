use Rattle.std.proofs.Common.{◌≡◌, ◌≤◌, ◌↔◌, ◌∙◌, ℤ, ℕ, List, Ok, ap, arith, subst, unsigned_abs}
use Rattle.bsp_fields.specs.Zoned.{IsSpelling, spelling}
use Rattle.bsp_fields.proofs.ZonedLemmas.{stored}
use Rattle.bsp_fields.proofs.amount.write_amount.Goals as goal

pub returns : goal.returns
returns c =
    let IsOnly : ℤ → Type 0 = λ units. (text : List ℕ) → IsSpelling 11 units text ↔ (text ≡ c.write_zoned.result) in
    let small : unsigned_abs c.amount.inside.units ≤ 99_999_999_999 = c.amount.invariant in
    let same = stored c.amount.inside.units (omega (arith, small)) ∙ c.amount.view_is in
    record {
      text = c.write_zoned.ensures.text ∙ ap (spelling 11) same;
      one_spelling = subst IsOnly same c.write_zoned.ensures.one_spelling;
      reads_back = c.write_zoned.ensures.reads_back ∙ ap (λ (units : ℤ). Ok units) same;
    }
