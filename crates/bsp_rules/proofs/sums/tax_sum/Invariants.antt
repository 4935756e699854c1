use Rattle.std.proofs.Common.{◌≡◌, ◌≤◌, ◌*◌, take, map, unsigned_abs}
use Rattle.bsp_rules.specs.Amounts.{sum_of, tax_amount}
use Rattle.bsp_rules.proofs.sums.tax_sum.Given as goal

abbrev pub invariant-loop-tax : goal.invariant-loop-tax
invariant-loop-tax l =
    (l.sum ≡ sum_of (map tax_amount (take l.tax-index l.taxes))) × (unsigned_abs l.sum ≤ 99_999_999_999 * l.tax-index)
