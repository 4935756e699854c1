use Rattle.bsp_store_base.proofs.Std.{◌∙◌, ◌≡◌, AllByRecursion, List, map, refl, rules, ℕ}
use Rattle.sqlite_value.specs.Order.{Row}
use Rattle.bsp_store_base.specs.Entries.{CommissionTax, Period, Rate}
use Rattle.bsp_store_base.proofs.Base.{commission_tax_row, IsCommissionTax, IsPeriod, IsRate, period_row, placed, rate_row}
use Rattle.bsp_store_load.specs.Stored.{AreReadAs}
use Rattle.bsp_store_load.proofs.PlanReads.{found_is, not_none, placed_read}
use Rattle.bsp_store_load.proofs.published.text_of.Goals as goal

rates_read : (values : List Rate) → AllByRecursion IsRate values → (rows : List Row) → rows ≡ map rate_row (placed 0 values) → AreReadAs (λ rate row. IsRate rate × (place : ℕ) × (row ≡ rate_row (place, rate))) rows values
rates_read = placed_read _ rate_row IsRate (λ place rate fits. (fits, place, refl))

periods_read : (values : List Period) → AllByRecursion IsPeriod values → (rows : List Row) → rows ≡ map period_row (placed 0 values) → AreReadAs (λ period row. IsPeriod period × (place : ℕ) × (row ≡ period_row (place, period))) rows values
periods_read = placed_read _ period_row IsPeriod (λ place period fits. (fits, place, refl))

taxes_read : (values : List CommissionTax) → AllByRecursion IsCommissionTax values → (rows : List Row) → rows ≡ map commission_tax_row (placed 0 values) → AreReadAs (λ tax row. IsCommissionTax tax × (place : ℕ) × (row ≡ commission_tax_row (place, tax))) rows values
taxes_read = placed_read _ commission_tax_row IsCommissionTax (λ place tax fits. (fits, place, refl))

pub returns-in_default-2 : goal.returns-in_default-2
returns-in_default-2 c = λ p tokens terms is s formed are listed.
    not_none _ c.in_ok-rates.field-0 (c.in_ok-rates.ensures p.rates (rates_read p.rates formed.rates c.deref-2.result.now (c.deref-2.ensures.value ∙ are.rates))) c.in_default-2.is

pub returns-in_default-3 : goal.returns-in_default-3
returns-in_default-3 c = λ p tokens terms is s formed are listed.
    not_none _ c.in_ok-periods.field-0 (c.in_ok-periods.ensures p.periods (periods_read p.periods formed.periods c.deref-3.result.now (c.deref-3.ensures.value ∙ are.periods))) c.in_default-3.is

pub returns-in_default-4 : goal.returns-in_default-4
returns-in_default-4 c = λ p tokens terms is s formed are listed.
    not_none _ c.in_ok-commission_taxes.field-0 (c.in_ok-commission_taxes.ensures p.commission_taxes (taxes_read p.commission_taxes formed.commission_taxes c.deref-4.result.now (c.deref-4.ensures.value ∙ are.commission_taxes))) c.in_default-4.is

pub returns : goal.returns
returns c = λ p tokens terms is s formed are listed. record {
  terms = search rules;
  airlines = search rules;
  rates = found_is _ c.in_ok-rates.field-0 (c.in_ok-rates.ensures p.rates (rates_read p.rates formed.rates c.deref-2.result.now (c.deref-2.ensures.value ∙ are.rates))) c.in-Some-2.rates c.in-Some-2.is;
  periods = found_is _ c.in_ok-periods.field-0 (c.in_ok-periods.ensures p.periods (periods_read p.periods formed.periods c.deref-3.result.now (c.deref-3.ensures.value ∙ are.periods))) c.in-Some-3.periods c.in-Some-3.is;
  commission_taxes = found_is _ c.in_ok-commission_taxes.field-0 (c.in_ok-commission_taxes.ensures p.commission_taxes (taxes_read p.commission_taxes formed.commission_taxes c.deref-4.result.now (c.deref-4.ensures.value ∙ are.commission_taxes)))
      c.in-Some-4.commission_taxes c.in-Some-4.is;
}
