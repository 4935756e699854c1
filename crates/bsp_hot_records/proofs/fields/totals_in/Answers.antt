use Rattle.std.proofs.Common.{refl, rules}
use Rattle.std.specs.Int.{w128}
use Rattle.std.specs.Prelude.{FitsSigned}
use Rattle.std.proofs.lemmas.Int.{to_z-of_z}
use Rattle.bsp_hot_records.specs.Records.{totals_fit}
use Rattle.bsp_hot_records.proofs.fields.totals_in.Goals as goal

pub returns : goal.returns
unfolding totals_fit
returns c =
    let documents = c.in-Some.ensures in
    let cash = c.in-Some-total_in.ensures in
    let credit = c.in-Some-total_in-2.ensures in
    let commission = c.in-Some-total_in-3.ensures in
    let net = c.in-Some-total_in-4.ensures in
    let cash_fits : FitsSigned w128 c.in-Some-total_in.cash = search rules in
    let credit_fits : FitsSigned w128 c.in-Some-total_in-2.credit = search rules in
    let commission_fits : FitsSigned w128 c.in-Some-total_in-3.commission = search rules in
    let net_fits : FitsSigned w128 c.in-Some-total_in-4.net = search rules in
    record {
      fits = rw (documents.fits, cash.fits, credit.fits, commission.fits, net.fits) refl;
      value =
          rw (to_z-of_z w128 c.in-Some-total_in.cash cash_fits, to_z-of_z w128 c.in-Some-total_in-2.credit credit_fits, to_z-of_z w128 c.in-Some-total_in-3.commission commission_fits, to_z-of_z w128 c.args.tax c.ranges.tax, to_z-of_z w128 c.in-Some-total_in-4.net net_fits, documents.value, cash.value, credit.value, commission.value, net.value) refl;
      none = tt;
    }

pub returns-in_default : goal.returns-in_default
unfolding totals_fit
returns-in_default c =
    rw (c.in_default.ensures.none) (record { fits = tt; value = tt; none = refl })

pub returns-in_default-total_in : goal.returns-in_default-total_in
unfolding totals_fit
returns-in_default-total_in c =
    rw (c.in-Some.ensures.fits, c.in_default-total_in.ensures.none) (record { fits = tt; value = tt; none = refl })

pub returns-in_default-total_in-2 : goal.returns-in_default-total_in-2
unfolding totals_fit
returns-in_default-total_in-2 c =
    rw (c.in-Some.ensures.fits, c.in-Some-total_in.ensures.fits, c.in_default-total_in-2.ensures.none) (record { fits = tt; value = tt; none = refl })

pub returns-in_default-total_in-3 : goal.returns-in_default-total_in-3
unfolding totals_fit
returns-in_default-total_in-3 c =
    rw (c.in-Some.ensures.fits, c.in-Some-total_in.ensures.fits, c.in-Some-total_in-2.ensures.fits, c.in_default-total_in-3.ensures.none)
    (record { fits = tt; value = tt; none = refl })

pub returns-in_default-total_in-4 : goal.returns-in_default-total_in-4
unfolding totals_fit
returns-in_default-total_in-4 c =
    rw (c.in-Some.ensures.fits, c.in-Some-total_in.ensures.fits, c.in-Some-total_in-2.ensures.fits, c.in-Some-total_in-3.ensures.fits, c.in_default-total_in-4.ensures.none)
    (record { fits = tt; value = tt; none = refl })
