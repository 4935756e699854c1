use Rattle.std.proofs.Common.{sym, subst}
use Rattle.bsp_store_open.specs.Opening.{IsOfVersion, Reports}
use Rattle.bsp_store_open.proofs.OpeningLemmas.{after, denies, gives, other_version, of_table, stops}
use Rattle.bsp_store_open.proofs.reading.plan_rows.Goals as goal

pub returns-in_err-meta : goal.returns-in_err-meta
returns-in_err-meta g c = stops c.from_residual.ensures.1 (of_table c.in_err-meta.ensures) (λ fault trees none. absurd none)

pub returns-in_err-expect_version : goal.returns-in_err-expect_version
returns-in_err-expect_version g c =
    let meta = of_table c.in_ok-meta.ensures in
    let reports = subst (Reports _) c.deref.ensures.value c.in_err-expect_version.ensures.reported in
    denies _ c.from_residual-in_err-expect_version.ensures.1 meta (λ is trees read. other_version trees _ _ read (λ v. c.in_err-expect_version.ensures.refused (subst IsOfVersion (sym c.deref.ensures.value) v)) reports)

pub returns-in_err-terms : goal.returns-in_err-terms
returns-in_err-terms g c =
    let meta = of_table c.in_ok-meta.ensures in
    stops c.from_residual-in_err-terms.ensures.1 (after meta (of_table c.in_err-terms.ensures)) (λ fault trees it. absurd it.1)

pub returns-in_err-airlines : goal.returns-in_err-airlines
returns-in_err-airlines g c =
    let meta = of_table c.in_ok-meta.ensures in
    let two = after meta (of_table c.in_ok-terms.ensures) in
    stops c.from_residual-in_err-airlines.ensures.1 (after two (of_table c.in_err-airlines.ensures)) (λ fault trees it. absurd it.1)

pub returns-in_err-rates : goal.returns-in_err-rates
returns-in_err-rates g c =
    let meta = of_table c.in_ok-meta.ensures in
    let two = after meta (of_table c.in_ok-terms.ensures) in
    let three = after two (of_table c.in_ok-airlines.ensures) in
    stops c.from_residual-in_err-rates.ensures.1 (after three (of_table c.in_err-rates.ensures)) (λ fault trees it. absurd it.1)

pub returns-in_err-periods : goal.returns-in_err-periods
returns-in_err-periods g c =
    let meta = of_table c.in_ok-meta.ensures in
    let two = after meta (of_table c.in_ok-terms.ensures) in
    let three = after two (of_table c.in_ok-airlines.ensures) in
    let four = after three (of_table c.in_ok-rates.ensures) in
    stops c.from_residual-in_err-periods.ensures.1 (after four (of_table c.in_err-periods.ensures)) (λ fault trees it. absurd it.1)

pub returns-in_err-commission_taxes : goal.returns-in_err-commission_taxes
returns-in_err-commission_taxes g c =
    let meta = of_table c.in_ok-meta.ensures in
    let two = after meta (of_table c.in_ok-terms.ensures) in
    let three = after two (of_table c.in_ok-airlines.ensures) in
    let four = after three (of_table c.in_ok-rates.ensures) in
    let five = after four (of_table c.in_ok-periods.ensures) in
    stops c.from_residual-in_err-commission_taxes.ensures.1 (after five (of_table c.in_err-commission_taxes.ensures)) (λ fault trees it. absurd it.1)

pub returns : goal.returns
returns g c =
    let meta = of_table c.in_ok-meta.ensures in
    let two = after meta (of_table c.in_ok-terms.ensures) in
    let three = after two (of_table c.in_ok-airlines.ensures) in
    let four = after three (of_table c.in_ok-rates.ensures) in
    let five = after four (of_table c.in_ok-periods.ensures) in
    gives (after five (of_table c.in_ok-commission_taxes.ensures)) (λ done. subst IsOfVersion c.deref.ensures.value c.in_ok-expect_version.ensures.ok) (λ trees found. record {
      meta = found.0.0.0.0.0;
      terms = found.0.0.0.0.1;
      airlines = found.0.0.0.1;
      rates = found.0.0.1;
      periods = found.0.1;
      commission_taxes = found.1;
    })
