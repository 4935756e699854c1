-- A sound plan is made again from its entries, its day and its closes.
use Rattle.std.proofs.Common.{◌≡◌, ℕ, zero, suc, ◌+◌, ◌<◌, ◌&&◌, Bool, true, false, List, [], Ok, length, get_or, take, drop, map, refl, sym, ap, subst, ◌∙◌, arith, nat_eq}
use Rattle.std.specs.Prelude.{Some, None}
use Rattle.std.specs.List.{list_all, list_any}
use Rattle.std.specs.Ordering.{eq_by_cmp}
use Rattle.std.proofs.lemmas.Bool.{and_from, eq-eqb, false_from_ne_true, both_ways, or_from}
use Rattle.std.proofs.lemmas.Cmp.{nat_eq_equiv, eq_by_cmp_equiv}
use Rattle.std.proofs.lemmas.List.{get_or-map, get_or-take, get_or_default, length-take-le, length-map, drop_more, drop_all, nil_from_length}
use Rattle.std.proofs.lemmas.List.Sums.{AllPass-from_list_all}
use Rattle.bsp_fields.specs.Days.{day_number}
use Rattle.bsp_calendar.specs.DayOrder.{is_before, is_up_to}
use Rattle.bsp_calendar.specs.History.{Request, IsReached, IsTextOf, IsMadeAgain}
use Rattle.bsp_calendar.specs.History.Request.{Close}
use Rattle.bsp_calendar.specs.KeyLaws.{day_cmp, rate_key_cmp, alike_rates, rate_itself, alike_periods, period_itself, alike_taxes, tax_itself}
use Rattle.bsp_calendar.specs.Published.{Published, has_begun, opening, is_among}
use Rattle.bsp_calendar.specs.Requests.{once, AreDistinct, has_conflict, same_airline, same_rate, same_period, same_tax, differ_in_rate, differ_in_days, differ_in_tax, terms_within_bounds, rates_within_bounds, taxes_within_bounds, are_within_bounds, have_airlines, has_difference, are_in_order, has_late_rate, has_late_tax, extended, with_entries, on_day, closing}
use Rattle.bsp_calendar.specs.SoundPlan.{IsSoundPlan}
use Rattle.bsp_calendar.specs.Standing.{IsPlaceOf, first_codes, ends_before, plan_of}
use Rattle.bsp_calendar.specs.declared.entries.CommissionTax.{CommissionTax}
use Rattle.bsp_calendar.specs.declared.entries.Period.{Period}
use Rattle.bsp_calendar.specs.declared.entries.PlanText.{PlanText}
use Rattle.bsp_calendar.specs.declared.entries.Rate.{Rate}
use Rattle.bsp_calendar.proofs.AnswerLemmas.{close_over}
use Rattle.bsp_calendar.proofs.DayLemmas.{up_to_true, not_up_to_from, before_true, not_before_from}
use Rattle.bsp_calendar.proofs.ExtendLemmas.{accepted}
use Rattle.bsp_calendar.proofs.KeyLemmas.{is_eq-nat_cmp, rate_key, same_rates, same_taxes, tax_key}
use Rattle.bsp_calendar.proofs.ListLemmas.{with_item, each_passes}
use Rattle.bsp_calendar.proofs.ListedLemmas.{once_same, no_conflict, agree_distinct, contains_any}
use Rattle.bsp_calendar.proofs.PeriodLemmas.{IsStanding}
use Rattle.bsp_calendar.proofs.RateKeyLemmas.{day_total, rate_key_total}
use Rattle.bsp_calendar.proofs.SoundLemmas.{closed_within}

-- ---- entries each once are published as they are

pub airlines_once : (xs : List ℕ) → AreDistinct same_airline xs → once same_airline xs ≡ xs
airlines_once xs apart = once_same nat_eq nat_eq_equiv (λ (a : ℕ). a) xs apart

pub periods_once : (qs : List Period) → AreDistinct same_period qs → once same_period qs ≡ qs
periods_once qs apart = once_same nat_eq nat_eq_equiv (λ (q : Period). q.code) qs apart

pub rates_once : (rs : List Rate) → AreDistinct same_rate rs → once same_rate rs ≡ rs
rates_once rs apart =
    subst (λ (s : Rate → Rate → Bool). AreDistinct s rs → once s rs ≡ rs) same_rates (once_same (eq_by_cmp rate_key_cmp) (eq_by_cmp_equiv rate_key_total) rate_key rs) apart

pub taxes_once : (ts : List CommissionTax) → AreDistinct same_tax ts → once same_tax ts ≡ ts
taxes_once ts apart =
    subst (λ (s : CommissionTax → CommissionTax → Bool). AreDistinct s ts → once s ts ≡ ts) same_taxes (once_same (eq_by_cmp day_cmp) (eq_by_cmp_equiv day_total) tax_key ts) apart

taxes_agree : (ts : List CommissionTax) → AreDistinct same_tax ts → has_conflict same_tax differ_in_tax ts ≡ false
taxes_agree ts apart =
    let eq = eq_by_cmp day_cmp in
    let laws = eq_by_cmp_equiv day_total in
    subst (λ (s : CommissionTax → CommissionTax → Bool). AreDistinct s ts → has_conflict s differ_in_tax ts ≡ false) same_taxes
    (λ distinct. no_conflict eq laws tax_key differ_in_tax alike_taxes tax_itself ts (agree_distinct eq laws tax_key differ_in_tax alike_taxes tax_itself ts distinct)) apart

rates_agree : (rs : List Rate) → AreDistinct same_rate rs → has_conflict same_rate differ_in_rate rs ≡ false
rates_agree rs apart =
    let eq = eq_by_cmp rate_key_cmp in
    let laws = eq_by_cmp_equiv rate_key_total in
    subst (λ (s : Rate → Rate → Bool). AreDistinct s rs → has_conflict s differ_in_rate rs ≡ false) same_rates
    (λ distinct. no_conflict eq laws rate_key differ_in_rate alike_rates rate_itself rs (agree_distinct eq laws rate_key differ_in_rate alike_rates rate_itself rs distinct)) apart

periods_agree : (qs : List Period) → AreDistinct same_period qs → has_conflict same_period differ_in_days qs ≡ false
periods_agree qs apart =
    let code_of : Period → ℕ = λ q. q.code in
    let alike : (x y : Period) → nat_eq x.code y.code ≡ true → differ_in_days x y ≡ false → x ≡ y = λ x y one same. alike_periods x y (is_eq-nat_cmp x.code y.code ∙ one) same in
    no_conflict nat_eq nat_eq_equiv code_of differ_in_days alike period_itself qs (agree_distinct nat_eq nat_eq_equiv code_of differ_in_days alike period_itself qs apart)

module _ (p : Published) (s : IsSoundPlan p) where
  -- the plan with so many of its periods closed
  abbrev at : ℕ → Published
  at n = plan_of p.terms p.airlines p.rates p.periods p.commission_taxes p.day n

  at_last : p ≡ at (length p.closed)
  at_last = λ i. record { terms = p.terms; airlines = p.airlines; rates = p.rates; periods = p.periods; commission_taxes = p.commission_taxes; day = p.day; closed = s.closed_first i }

  not_before_opening : is_before p.day opening.day ≡ false
  not_before_opening = not_before_from (day_number opening.day) (day_number p.day) (up_to_true (day_number opening.day) (day_number p.day) s.day)

  -- ---- its text

  module _ (text : PlanText) (t : IsTextOf p text) where
    text_bounds : are_within_bounds text ≡ true
    text_bounds =
        and_from (terms_within_bounds text.terms) (rates_within_bounds text.rates.items && taxes_within_bounds text.commission_taxes.items) (s.terms_bounds text.terms t.terms)
        (and_from (rates_within_bounds text.rates.items) (taxes_within_bounds text.commission_taxes.items) (ap rates_within_bounds t.rates ∙ s.rates_bounds) (ap taxes_within_bounds t.commission_taxes ∙ s.taxes_bounds))

    text_airlines : have_airlines opening text ≡ true
    text_airlines =
        ap (λ (rs : List Rate). list_all (λ r. is_among r.airline text.airlines.items) rs) t.rates
        ∙ (ap (λ (codes : List ℕ). list_all (λ (r : Rate). is_among r.airline codes) p.rates) t.airlines ∙ s.rates_airlines)

    text_same : has_difference opening text ≡ false
    text_same =
        or_from (has_conflict same_rate differ_in_rate text.rates.items) _
        (ap (has_conflict same_rate differ_in_rate) t.rates ∙ rates_agree p.rates s.rates)
        (or_from (has_conflict same_period differ_in_days text.periods.items) (has_conflict same_tax differ_in_tax text.commission_taxes.items)
        (ap (has_conflict same_period differ_in_days) t.periods ∙ periods_agree p.periods s.periods)
        (ap (has_conflict same_tax differ_in_tax) t.commission_taxes ∙ taxes_agree p.commission_taxes s.commission_taxes))

    text_in_order : are_in_order (once same_period text.periods.items) ≡ true
    text_in_order = ap are_in_order (ap (once same_period) t.periods ∙ periods_once p.periods s.periods) ∙ s.in_order

    text_not_late : has_late_rate opening text ≡ false
    text_not_late =
        ap (list_any (λ (r : Rate). is_up_to r.from opening.day)) (ap (once same_rate) t.rates ∙ rates_once p.rates s.rates)
        ∙ false_from_ne_true _
        (λ late.
        let (r, in', up) = contains_any (λ (x : Rate). is_up_to x.from opening.day) p.rates late in
        both_ways _ (not_up_to_from (day_number r.from) (day_number opening.day) (before_true (day_number opening.day) (day_number r.from) (each_passes (λ (x : Rate). is_before opening.day x.from) p.rates r s.rates_begin in'))) up)

    no_tax_late : has_late_tax opening text ≡ false
    no_tax_late =
        ap (list_any (has_begun opening.day)) (ap (once same_tax) t.commission_taxes ∙ taxes_once p.commission_taxes s.commission_taxes)
        ∙ false_from_ne_true _
        (λ late.
        let (x, in', up) = contains_any (has_begun opening.day) p.commission_taxes late in
        both_ways _ (not_up_to_from (day_number x.from) (day_number opening.day) (before_true (day_number opening.day) (day_number x.from) (each_passes (λ (y : CommissionTax). is_before opening.day y.from) p.commission_taxes x s.taxes_begin in'))) up)

    -- the entries on the opening day
    entries_are : with_entries opening text ≡ plan_of p.terms p.airlines p.rates p.periods p.commission_taxes opening.day 0
    entries_are =
        let airlines : once same_airline text.airlines.items ≡ p.airlines = ap (once same_airline) t.airlines ∙ airlines_once p.airlines s.airlines in
        let rates : once same_rate text.rates.items ≡ p.rates = ap (once same_rate) t.rates ∙ rates_once p.rates s.rates in
        let periods : once same_period text.periods.items ≡ p.periods = ap (once same_period) t.periods ∙ periods_once p.periods s.periods in
        let taxes : once same_tax text.commission_taxes.items ≡ p.commission_taxes = ap (once same_tax) t.commission_taxes ∙ taxes_once p.commission_taxes s.commission_taxes in
        let terms = sym t.terms in
        λ i. record { terms = terms i; airlines = airlines i; rates = rates i; periods = periods i; commission_taxes = taxes i; day = opening.day; closed = [] }

    text_accepted : extended opening text ≡ Ok (plan_of p.terms p.airlines p.rates p.periods p.commission_taxes opening.day 0)
    text_accepted = accepted opening text text_bounds text_airlines text_same text_in_order text_not_late no_tax_late ∙ ap (λ (q : Published). Ok q) entries_are

  day_accepted : on_day (plan_of p.terms p.airlines p.rates p.periods p.commission_taxes opening.day 0) p.day ≡ Ok (at 0)
  day_accepted = rw not_before_opening refl

  -- ---- its closes

  close_accepted : (n : ℕ) (code : ℕ) → n < length p.closed → code ≡ get_or (first_codes p.periods (length p.closed)) n 0 → closing (at n) code ≡ Ok (at (n + 1))
  close_accepted n code lt is =
      let count = length p.closed in
      let within = closed_within p s in
      let f : Period → ℕ = λ q. q.code in
      with_item p.periods n (omega arith) (λ d.
      let q = get_or p.periods n d in
      let long : length (take count p.periods) ≡ count = length-take-le count p.periods within in
      let same : q.code ≡ code = sym (is ∙ (get_or-map f (take count p.periods) n d 0 (omega arith) ∙ ap f (get_or-take count p.periods n d lt))) in
      let over : is_before q.last p.day ≡ true =
      subst (λ (x : Period). is_before x.last p.day ≡ true) (get_or-take count p.periods n d lt) (AllPass-from_list_all (ends_before p.day) (take count p.periods) s.closed_over n d (omega arith)) in
      let standing_n : IsStanding p.periods n = record { within = omega arith; distinct = s.periods; in_order = s.in_order } in
      let place : IsPlaceOf p.periods code (Some n) = (omega arith, λ e. eq-eqb _ _ (ap f (get_or_default p.periods n e d (omega arith)) ∙ same)) in
      (close_over p.terms p.airlines p.rates p.periods p.commission_taxes p.day n code standing_n q place (get_or_default p.periods n d q (omega arith)) over).0)

  abbrev codes : List ℕ
  codes = first_codes p.periods (length p.closed)

  codes_long : length codes ≡ length p.closed
  codes_long = length-map (take (length p.closed) p.periods) (λ (q : Period). q.code) ∙ length-take-le (length p.closed) p.periods (closed_within p s)

  abbrev closes : List ℕ → List Request
  closes = map (λ code. Close code)

  -- what is left to close leads to the plan
  closes_left : (left n : ℕ) → n + left ≡ length p.closed → IsReached (at n) (closes (drop n codes)) (at (length p.closed))
  closes_left zero n all =
      let long = codes_long in
      let same : length p.closed ≡ n = omega arith in
      subst (λ (xs : List ℕ). IsReached (at n) (closes xs) (at (length p.closed))) (sym (drop_all n codes (omega arith))) (ap at same)
  closes_left (suc left) n more =
      let long = codes_long in
      subst (λ (xs : List ℕ). IsReached (at n) (closes xs) (at (length p.closed))) (sym (drop_more codes n 0 (omega arith)))
      (at (n + 1), close_accepted n (get_or codes n 0) (omega arith) refl, closes_left left (n + 1) (omega arith))

  all_closed : IsReached (at 0) (closes p.closed) p
  all_closed =
      subst (λ (xs : List ℕ). IsReached (at 0) (closes xs) p) (sym s.closed_first)
      (subst (λ (q : Published). IsReached (at 0) (closes codes) q) (sym at_last) (closes_left (length p.closed) 0 (omega arith)))

  -- ---- without terms

  day_alone : p.terms ≡ None → p ≡ record opening { day = p.day }
  day_alone none =
      let e = s.without_terms none in
      let within = closed_within p s in
      let short : length p.periods ≡ 0 = ap (length {A = Period}) e.periods in
      let closed : p.closed ≡ [] = nil_from_length p.closed (omega arith) in
      λ i. record { terms = none i; airlines = e.airlines i; rates = e.rates i; periods = e.periods i; commission_taxes = e.commission_taxes i; day = p.day; closed = closed i }

  pub made_again : IsMadeAgain p
  made_again = record {
    with_terms = λ text t. (plan_of p.terms p.airlines p.rates p.periods p.commission_taxes opening.day 0, text_accepted text t, (at 0, day_accepted, all_closed));
    without_terms = λ none. (record opening { day = p.day }, rw not_before_opening refl, day_alone none);
  }
