use Rattle.std.proofs.Common.{ℕ, List, ◌∙◌, ap, subst}
use Rattle.std.specs.Prelude.{codes}
use Rattle.toml.specs.View.{table_view}
use Rattle.bsp_calendar.specs.PlanDocument.{airline_of, period_of, rate_of, tax_of}
use Rattle.bsp_calendar.specs.Requests.{rates_within_bounds, taxes_within_bounds}
use Rattle.bsp_calendar.specs.declared.entries.CommissionTax.{CommissionTax}
use Rattle.bsp_calendar.specs.declared.entries.Period.{Period}
use Rattle.bsp_calendar.specs.declared.entries.Rate.{Rate}
use Rattle.bsp_plan_trial.specs.Texts.{PutsList}
use Rattle.bsp_plan_trial.proofs.TextLemmas.{all_true}
use Rattle.bsp_plan_trial.proofs.writing.put_lists.Goals as goal

pub returns : goal.returns
returns c = λ sound.
    let start = table_view c.args.table.now in
    let first = table_view c.put_list.new.table in
    let second = table_view c.put_list-2.new.table in
    let third = table_view c.put_list-3.new.table in
    record {
      first = first;
      airlines = subst (λ (xs : List ℕ). PutsList airline_of (codes "airline") xs start first) c.airlines.ensures (c.in_ok-put_list.ensures (all_true c.airlines.result.now));
      second = second;
      rates = subst (λ (xs : List Rate). PutsList rate_of (codes "rate") xs first second) c.rates.ensures (c.in_ok-put_list-2.ensures (ap rates_within_bounds c.rates.ensures ∙ sound.rates_bounds));
      third = third;
      periods = subst (λ (xs : List Period). PutsList period_of (codes "period") xs second third) c.periods.ensures (c.in_ok-put_list-3.ensures (all_true c.periods.result.now));
      taxes = subst (λ (xs : List CommissionTax). PutsList tax_of (codes "commission_tax") xs third (table_view c.put_list-4.new.table)) c.commission_taxes.ensures
          (c.in_ok-put_list-4.ensures (ap taxes_within_bounds c.commission_taxes.ensures ∙ sound.taxes_bounds));
    }
