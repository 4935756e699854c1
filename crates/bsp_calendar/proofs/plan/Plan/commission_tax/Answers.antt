use Rattle.std.proofs.Common.{◌≡◌, refl}
use Rattle.bsp_calendar.specs.Published.{number_or_zero}
use Rattle.bsp_calendar.specs.declared.entries.CommissionTax.{CommissionTax}
use Rattle.bsp_calendar.proofs.TaxLemmas.{tax_answered, tax_bound}
use Rattle.bsp_calendar.proofs.plan.Plan.commission_tax.Goals as goal

pub returns-in-Some-clause-value : goal.returns-in-Some-clause-value
returns-in-Some-clause-value c =
    let found = c.last_up_to.ensures in
    let answered : c.in-Some.tax.hundredths ≡ number_or_zero (λ (t : CommissionTax). t.hundredths) c.last_up_to.result = rw c.in-Some.is refl in
    rw (← c.self.view_is)
    (tax_answered c.self.inside.lists.commission_taxes c.args.day c.day_key.result c.last_up_to.result c.in-Some.tax.hundredths c.day_key.ensures.civil found.all_valid found.distinct c.day_key.ensures.key found.last answered).0

pub returns-in-Some-clause-latest : goal.returns-in-Some-clause-latest
returns-in-Some-clause-latest c =
    let found = c.last_up_to.ensures in
    let answered : c.in-Some.tax.hundredths ≡ number_or_zero (λ (t : CommissionTax). t.hundredths) c.last_up_to.result = rw c.in-Some.is refl in
    rw (← c.self.view_is)
    (tax_answered c.self.inside.lists.commission_taxes c.args.day c.day_key.result c.last_up_to.result c.in-Some.tax.hundredths c.day_key.ensures.civil found.all_valid found.distinct c.day_key.ensures.key found.last answered).1

pub returns-in-Some-clause-bound : goal.returns-in-Some-clause-bound
returns-in-Some-clause-bound c =
    let found = c.last_up_to.ensures in
    let taxes = c.self.inside.lists.commission_taxes in
    let answered : c.in-Some.tax.hundredths ≡ number_or_zero (λ (t : CommissionTax). t.hundredths) c.last_up_to.result = rw c.in-Some.is refl in
    tax_bound taxes c.args.day c.in-Some.tax.hundredths c.self.invariant.sound.taxes_bounds
    (tax_answered taxes c.args.day c.day_key.result c.last_up_to.result c.in-Some.tax.hundredths c.day_key.ensures.civil found.all_valid found.distinct c.day_key.ensures.key found.last answered).1

pub returns-in-None-clause-value : goal.returns-in-None-clause-value
returns-in-None-clause-value c =
    let found = c.last_up_to.ensures in
    let answered : 0 ≡ number_or_zero (λ (t : CommissionTax). t.hundredths) c.last_up_to.result = rw c.in-None.is refl in
    rw (← c.self.view_is)
    (tax_answered c.self.inside.lists.commission_taxes c.args.day c.day_key.result c.last_up_to.result 0 c.day_key.ensures.civil found.all_valid found.distinct c.day_key.ensures.key found.last answered).0

pub returns-in-None-clause-latest : goal.returns-in-None-clause-latest
returns-in-None-clause-latest c =
    let found = c.last_up_to.ensures in
    let answered : 0 ≡ number_or_zero (λ (t : CommissionTax). t.hundredths) c.last_up_to.result = rw c.in-None.is refl in
    rw (← c.self.view_is)
    (tax_answered c.self.inside.lists.commission_taxes c.args.day c.day_key.result c.last_up_to.result 0 c.day_key.ensures.civil found.all_valid found.distinct c.day_key.ensures.key found.last answered).1
