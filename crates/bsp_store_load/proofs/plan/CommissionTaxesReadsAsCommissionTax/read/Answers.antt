use Rattle.bsp_store_base.proofs.Std.{◌∙◌, ap, none-some, same_Some, Some, sym, ℕ}
use Rattle.bsp_store_base.specs.Entries.{CommissionTax}
use Rattle.bsp_store_load.proofs.plan.CommissionTaxesReadsAsCommissionTax.read.Goals as goal

pub returns-in_err-read_entry : goal.returns-in_err-read_entry
returns-in_err-read_entry c = λ tax is. absurd (none-some _ (sym c.in_err-read_entry.was ∙ c.read_entry.ensures.back (is.1, tax) is.0 tt is.2))

pub returns : goal.returns
returns c = λ tax is. ap (λ (e : ℕ × CommissionTax). Some e.1) (same_Some c.in_ok-read_entry.field-0 (is.1, tax) (sym c.in_ok-read_entry.was ∙ c.read_entry.ensures.back (is.1, tax) is.0 tt is.2))
