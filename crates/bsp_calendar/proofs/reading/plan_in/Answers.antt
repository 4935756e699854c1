use Rattle.std.proofs.Common.{ℕ}
use Rattle.std.specs.Global.{Vec}
use Rattle.std.specs.Prelude.{codes}
use Rattle.std.proofs.lemmas.Result.{err_from_is_err_and}
use Rattle.toml.specs.Data.{get_member}
use Rattle.toml.specs.View.{table_view}
use Rattle.bsp_calendar.specs.PlanDocument.{airline_of, listed, period_of, plan_data, plan_in, rate_of, tax_of}
use Rattle.bsp_calendar.specs.declared.entries.CommissionTax.{CommissionTax}
use Rattle.bsp_calendar.specs.declared.entries.Period.{Period}
use Rattle.bsp_calendar.specs.declared.entries.Rate.{Rate}
use Rattle.bsp_calendar.proofs.DocumentLemmas.{fault_passed, no_airlines, no_periods, no_rates, no_taxes}
use Rattle.bsp_calendar.proofs.reading.plan_in.Goals as goal

pub returns-in_err-commission_taxes : goal.returns-in_err-commission_taxes
returns-in_err-commission_taxes c =
    let members = table_view c.args.document.now in
    let p = err_from_is_err_and c.from_residual-in_err-commission_taxes.result c.from_residual-in_err-commission_taxes.ensures.1 in
    rw (p.1, p.2)
    (fault_passed (listed tax_of (get_member (codes "commission_tax") members)) (plan_in members) (λ (v : Vec CommissionTax). v.items) plan_data c.in_err-commission_taxes.field-0.0 c.in_err-commission_taxes.ensures (no_taxes members))

pub returns-in_err-airlines : goal.returns-in_err-airlines
returns-in_err-airlines c =
    let members = table_view c.args.document.now in
    let p = err_from_is_err_and c.from_residual.result c.from_residual.ensures.1 in
    rw (p.1, p.2)
    (fault_passed (listed airline_of (get_member (codes "airline") members)) (plan_in members) (λ (v : Vec ℕ). v.items) plan_data c.in_err-airlines.field-0.0 c.in_err-airlines.ensures (no_airlines members))

pub returns-in_err-rates : goal.returns-in_err-rates
returns-in_err-rates c =
    let members = table_view c.args.document.now in
    let p = err_from_is_err_and c.from_residual-in_err-rates.result c.from_residual-in_err-rates.ensures.1 in
    rw (p.1, p.2)
    (fault_passed (listed rate_of (get_member (codes "rate") members)) (plan_in members) (λ (v : Vec Rate). v.items) plan_data c.in_err-rates.field-0.0 c.in_err-rates.ensures (no_rates members))

pub returns-in_err-periods : goal.returns-in_err-periods
returns-in_err-periods c =
    let members = table_view c.args.document.now in
    let p = err_from_is_err_and c.from_residual-in_err-periods.result c.from_residual-in_err-periods.ensures.1 in
    rw (p.1, p.2)
    (fault_passed (listed period_of (get_member (codes "period") members)) (plan_in members) (λ (v : Vec Period). v.items) plan_data c.in_err-periods.field-0.0 c.in_err-periods.ensures (no_periods members))
