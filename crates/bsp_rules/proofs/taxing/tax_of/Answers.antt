use Rattle.std.proofs.Common.{◌≡◌, ◌∙◌, ◌≤◌, ℤ, Bool, true, false, Ok, [], ◌∷◌, ap, subst, sym, arith, unsigned_abs, to_z, of_z}
use Rattle.std.specs.Int.{w64}
use Rattle.std.proofs.lemmas.Int.{to_z-of_z, fits_signed_from_abs}
use Rattle.bsp_fields.specs.FirstFault.{first_fault_or}
use Rattle.bsp_rules.specs.Amounts.{commission_amount}
use Rattle.bsp_rules.specs.Commission.{IsCommission, commission_on}
use Rattle.bsp_rules.proofs.CommissionLemmas.{commission_is}
use Rattle.bsp_rules.proofs.taxing.tax_of.Goals as goal

-- what is read is the number itself
passed : {F : Type 0} (applies : Bool) (fault : F) (number told : ℤ) → Ok told ≡ first_fault_or ((applies, fault) ∷ []) number → told ≡ number
passed true fault number told h = absurd (cc)
passed false fault number told h = cc

-- an amount in the places of an `i64`
stored : (z : ℤ) → unsigned_abs z ≤ 99_999_999_999 → to_z w64 (of_z w64 z) ≡ z
stored z small = to_z-of_z w64 z (fits_signed_from_abs w64 z (omega arith))

pub returns : goal.returns
returns c =
    let h = c.args.hundredths in
    let b = commission_amount c.args.transaction.now.amounts in
    let basis = stored c.commission_amount.result c.commission_amount.ensures.bound ∙ c.commission_amount.ensures.value in
    let small : unsigned_abs c.commission-tax.result ≤ 99_999_999_999 =
    omega (arith, rw (stored c.commission_amount.result c.commission_amount.ensures.bound) at c.commission-tax.ensures.size, c.commission_amount.ensures.bound) in
    let number : c.in-Ok.amount ≡ commission_on h b =
    passed _ _ _ _ c.in-Ok.ensures
    ∙ stored c.commission-tax.result small
    ∙ c.commission-tax.ensures.number
    ∙ ap (commission_on h) basis in
    record { value = number; rounded = subst (λ (k : ℤ). IsCommission h b k) (sym number) (commission_is h b) }
