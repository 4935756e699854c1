use Rattle.std.proofs.Common.{◌≡◌, sym, inl, inr, ◌∙◌, true, false, Ok, Err}
use Rattle.std.proofs.lemmas.Bool.{false≢true}
use Rattle.std.proofs.lemmas.Result.{err_from_is_err_and}
use Rattle.bsp_calendar.specs.Requests.{are_within_bounds, have_airlines, has_difference}
use Rattle.bsp_calendar.specs.Standing.{plan_of}
use Rattle.bsp_calendar.proofs.ExtendLemmas.{without_airline, with_difference, have_from, difference_of_terms, difference_of_rates, difference_of_periods, difference_of_taxes, no_difference, filled}
use Rattle.bsp_calendar.proofs.plan.Plan.lists_with.Goals as goal

pub returns-then-not-have_airlines-clause-lists : goal.returns-then-not-have_airlines-clause-lists
returns-then-not-have_airlines-clause-lists c =
    let i = c.self.inside in
    let p = plan_of i.terms i.lists.airlines i.lists.rates i.lists.periods i.lists.commission_taxes i.day i.closed in
    let text = c.args.text.now in
    let bounds : are_within_bounds text ≡ true = sym c.if-not-are_within_bounds.ensures in
    let have : have_airlines p text ≡ false = have_from p text c.in_ok-airlines.airlines c.deref.result.now c.deref-2.result.now false c.in_ok-airlines.ensures c.deref.ensures.value c.deref-2.ensures.value c.if-not-have_airlines.ensures in
    rw (← c.self.view_is) (inr (without_airline p text bounds have))

pub returns-then-differ_in_terms-clause-lists : goal.returns-then-differ_in_terms-clause-lists
returns-then-differ_in_terms-clause-lists c =
    let i = c.self.inside in
    let p = plan_of i.terms i.lists.airlines i.lists.rates i.lists.periods i.lists.commission_taxes i.day i.closed in
    let text = c.args.text.now in
    let bounds : are_within_bounds text ≡ true = sym c.if-not-are_within_bounds.ensures in
    let have : have_airlines p text ≡ true = have_from p text c.in_ok-airlines.airlines c.deref.result.now c.deref-2.result.now true c.in_ok-airlines.ensures c.deref.ensures.value c.deref-2.ensures.value c.if-not-have_airlines.ensures in
    let other : has_difference p text ≡ true = difference_of_terms p text (sym c.if-differ_in_terms.ensures) in
    rw (← c.self.view_is) (inr (with_difference p text bounds have other))

pub returns-in_err-rates-clause-lists : goal.returns-in_err-rates-clause-lists
returns-in_err-rates-clause-lists c =
    let i = c.self.inside in
    let p = plan_of i.terms i.lists.airlines i.lists.rates i.lists.periods i.lists.commission_taxes i.day i.closed in
    let text = c.args.text.now in
    let bounds : are_within_bounds text ≡ true = sym c.if-not-are_within_bounds.ensures in
    let have : have_airlines p text ≡ true = have_from p text c.in_ok-airlines.airlines c.deref.result.now c.deref-2.result.now true c.in_ok-airlines.ensures c.deref.ensures.value c.deref-2.ensures.value c.if-not-have_airlines.ensures in
    let q = err_from_is_err_and c.from_residual-in_err-rates.result c.from_residual-in_err-rates.ensures.1 in
    rw (q.1, q.2, ← c.self.view_is)
    (elim c.in_err-rates.ensures [
      | inl lack ↦ inl lack
      | inr both ↦ inr (rw both.0 (with_difference p text bounds have (difference_of_rates p text c.deref-3.result.now c.deref-3.ensures.value both.1)))
    ])

pub returns-in_err-periods-clause-lists : goal.returns-in_err-periods-clause-lists
returns-in_err-periods-clause-lists c =
    let i = c.self.inside in
    let p = plan_of i.terms i.lists.airlines i.lists.rates i.lists.periods i.lists.commission_taxes i.day i.closed in
    let text = c.args.text.now in
    let bounds : are_within_bounds text ≡ true = sym c.if-not-are_within_bounds.ensures in
    let have : have_airlines p text ≡ true = have_from p text c.in_ok-airlines.airlines c.deref.result.now c.deref-2.result.now true c.in_ok-airlines.ensures c.deref.ensures.value c.deref-2.ensures.value c.if-not-have_airlines.ensures in
    let q = err_from_is_err_and c.from_residual-in_err-periods.result c.from_residual-in_err-periods.ensures.1 in
    rw (q.1, q.2, ← c.self.view_is)
    (elim c.in_err-periods.ensures [
      | inl lack ↦ inl lack
      | inr both ↦ inr (rw both.0 (with_difference p text bounds have (difference_of_periods p text c.deref-4.result.now c.deref-4.ensures.value both.1)))
    ])

pub returns-in_err-commission_taxes-clause-lists : goal.returns-in_err-commission_taxes-clause-lists
returns-in_err-commission_taxes-clause-lists c =
    let i = c.self.inside in
    let p = plan_of i.terms i.lists.airlines i.lists.rates i.lists.periods i.lists.commission_taxes i.day i.closed in
    let text = c.args.text.now in
    let bounds : are_within_bounds text ≡ true = sym c.if-not-are_within_bounds.ensures in
    let have : have_airlines p text ≡ true = have_from p text c.in_ok-airlines.airlines c.deref.result.now c.deref-2.result.now true c.in_ok-airlines.ensures c.deref.ensures.value c.deref-2.ensures.value c.if-not-have_airlines.ensures in
    let q = err_from_is_err_and c.from_residual-in_err-commission_taxes.result c.from_residual-in_err-commission_taxes.ensures.1 in
    rw (q.1, q.2, ← c.self.view_is)
    (elim c.in_err-commission_taxes.ensures [
      | inl lack ↦ inl lack
      | inr both ↦ inr (rw both.0 (with_difference p text bounds have (difference_of_taxes p text c.deref-5.result.now c.deref-5.ensures.value both.1)))
    ])

pub returns-in_err-check_new-clause-lists : goal.returns-in_err-check_new-clause-lists
returns-in_err-check_new-clause-lists c =
    let i = c.self.inside in
    let p = plan_of i.terms i.lists.airlines i.lists.rates i.lists.periods i.lists.commission_taxes i.day i.closed in
    let text = c.args.text.now in
    let bounds : are_within_bounds text ≡ true = sym c.if-not-are_within_bounds.ensures in
    let have : have_airlines p text ≡ true = have_from p text c.in_ok-airlines.airlines c.deref.result.now c.deref-2.result.now true c.in_ok-airlines.ensures c.deref.ensures.value c.deref-2.ensures.value c.if-not-have_airlines.ensures in
    let none : has_difference p text ≡ false = no_difference p text c.deref-3.result.now c.deref-4.result.now c.deref-5.result.now c.deref-3.ensures.value c.deref-4.ensures.value c.deref-5.ensures.value (sym c.if-differ_in_terms.ensures) c.in_ok-rates.ensures.1 c.in_ok-periods.ensures.1 c.in_ok-commission_taxes.ensures.1 in
    let q = err_from_is_err_and c.from_residual-in_err-check_new.result c.from_residual-in_err-check_new.ensures.1 in
    rw (q.1, q.2, ← c.self.view_is)
    (filled p text c.in_ok-airlines.airlines c.in_ok-rates.rates c.in_ok-periods.periods c.in_ok-commission_taxes.commission_taxes (Err c.in_err-check_new.field-0.0) bounds have none
    (rw c.deref.ensures.value at c.in_ok-airlines.ensures)
    (rw c.deref-3.ensures.value at c.in_ok-rates.ensures.0)
    (rw c.deref-4.ensures.value at c.in_ok-periods.ensures.0)
    (rw c.deref-5.ensures.value at c.in_ok-commission_taxes.ensures.0)
    (rw (← c.self.view_is) at c.in_err-check_new.ensures))

pub returns-clause-lists : goal.returns-clause-lists
returns-clause-lists c =
    let i = c.self.inside in
    let p = plan_of i.terms i.lists.airlines i.lists.rates i.lists.periods i.lists.commission_taxes i.day i.closed in
    let text = c.args.text.now in
    let bounds : are_within_bounds text ≡ true = sym c.if-not-are_within_bounds.ensures in
    let have : have_airlines p text ≡ true = have_from p text c.in_ok-airlines.airlines c.deref.result.now c.deref-2.result.now true c.in_ok-airlines.ensures c.deref.ensures.value c.deref-2.ensures.value c.if-not-have_airlines.ensures in
    let none : has_difference p text ≡ false = no_difference p text c.deref-3.result.now c.deref-4.result.now c.deref-5.result.now c.deref-3.ensures.value c.deref-4.ensures.value c.deref-5.ensures.value (sym c.if-differ_in_terms.ensures) c.in_ok-rates.ensures.1 c.in_ok-periods.ensures.1 c.in_ok-commission_taxes.ensures.1 in
    rw (← c.self.view_is)
    (filled p text c.in_ok-airlines.airlines c.in_ok-rates.rates c.in_ok-periods.periods c.in_ok-commission_taxes.commission_taxes (Ok tt) bounds have none
    (rw c.deref.ensures.value at c.in_ok-airlines.ensures)
    (rw c.deref-3.ensures.value at c.in_ok-rates.ensures.0)
    (rw c.deref-4.ensures.value at c.in_ok-periods.ensures.0)
    (rw c.deref-5.ensures.value at c.in_ok-commission_taxes.ensures.0)
    (rw (← c.self.view_is) at c.in_ok-check_new.ensures))

pub returns-then-not-have_airlines-clause-bounds : goal.returns-then-not-have_airlines-clause-bounds
returns-then-not-have_airlines-clause-bounds c h = absurd (false≢true (sym h ∙ sym c.if-not-are_within_bounds.ensures))

pub returns-then-differ_in_terms-clause-bounds : goal.returns-then-differ_in_terms-clause-bounds
returns-then-differ_in_terms-clause-bounds c h = absurd (false≢true (sym h ∙ sym c.if-not-are_within_bounds.ensures))

pub returns-in_err-rates-clause-bounds : goal.returns-in_err-rates-clause-bounds
returns-in_err-rates-clause-bounds c h = absurd (false≢true (sym h ∙ sym c.if-not-are_within_bounds.ensures))

pub returns-in_err-periods-clause-bounds : goal.returns-in_err-periods-clause-bounds
returns-in_err-periods-clause-bounds c h = absurd (false≢true (sym h ∙ sym c.if-not-are_within_bounds.ensures))

pub returns-in_err-commission_taxes-clause-bounds : goal.returns-in_err-commission_taxes-clause-bounds
returns-in_err-commission_taxes-clause-bounds c h = absurd (false≢true (sym h ∙ sym c.if-not-are_within_bounds.ensures))

pub returns-in_err-check_new-clause-bounds : goal.returns-in_err-check_new-clause-bounds
returns-in_err-check_new-clause-bounds c h = absurd (false≢true (sym h ∙ sym c.if-not-are_within_bounds.ensures))

pub returns-clause-bounds : goal.returns-clause-bounds
returns-clause-bounds c h = absurd (false≢true (sym h ∙ sym c.if-not-are_within_bounds.ensures))
