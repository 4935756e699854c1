use Rattle.bsp_store_base.proofs.Std.{◌∙◌, ap, none-some, same_Some, Some, sym, ℕ}
use Rattle.bsp_store_base.specs.Entries.{Rate}
use Rattle.bsp_store_load.proofs.plan.RatesReadsAsRate.read.Goals as goal

pub returns-in_err-read_entry : goal.returns-in_err-read_entry
returns-in_err-read_entry c = λ rate is. absurd (none-some _ (sym c.in_err-read_entry.was ∙ c.read_entry.ensures.back (is.1, rate) is.0 tt is.2))

pub returns : goal.returns
returns c = λ rate is. ap (λ (e : ℕ × Rate). Some e.1) (same_Some c.in_ok-read_entry.field-0 (is.1, rate) (sym c.in_ok-read_entry.was ∙ c.read_entry.ensures.back (is.1, rate) is.0 tt is.2))
