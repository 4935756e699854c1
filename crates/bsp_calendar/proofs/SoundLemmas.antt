-- Each accepted request keeps the rules of a plan.
use Rattle.std.proofs.Common.{◌≡◌, ℕ, ◌+◌, ◌<◌, ◌≤◌, ◌==◌, Bool, true, false, not, List, [], ◌∷◌, ◌++◌, Ok, None, length, get_or, take, drop, min, refl, sym, ap, subst, ◌∙◌, arith, nat_eq, inl, inr}
use Rattle.std.specs.Prelude.{Option, Some, nat_le}
use Rattle.std.specs.List.{Contains, find, list_all, list_any}
use Rattle.std.specs.Ordering.{eq_by_cmp}
use Rattle.std.proofs.lemmas.Cmp.{nat_eq_equiv, eq_by_cmp_equiv}
use Rattle.std.proofs.lemmas.Bool.{and_parts, and_from, or_left, eqb-true, cases_lt, both_ways}
use Rattle.std.proofs.lemmas.List.{length-map, length-take, length_push, drop_at, map_more}
use Rattle.std.proofs.lemmas.List.Elements.{Contains-append_cases}
use Rattle.std.proofs.lemmas.List.Folds.{list_any-append, list_all_more}
use Rattle.bsp_fields.specs.CivilDay.{CivilDay}
use Rattle.bsp_fields.specs.Days.{day_number}
use Rattle.bsp_calendar.specs.DayOrder.{is_up_to, is_before}
use Rattle.bsp_calendar.specs.History.{Request, outcome, IsReached}
use Rattle.bsp_calendar.specs.History.Request.{Publish, SetDay, Close}
use Rattle.bsp_calendar.specs.KeyLaws.{rate_key_cmp, day_cmp}
use Rattle.bsp_calendar.specs.Published.{Published, has_begun, opening, is_among}
use Rattle.bsp_calendar.specs.Requests.{once, AreDistinct, same_airline, same_rate, same_period, same_tax, terms_within_bounds, rates_within_bounds, taxes_within_bounds, extended, with_entries, on_day, closing, has_code, is_over, next_open}
use Rattle.bsp_calendar.specs.SoundPlan.{IsPlan, IsSoundPlan}
use Rattle.bsp_calendar.specs.Standing.{first_codes, ends_before}
use Rattle.bsp_calendar.specs.declared.entries.CommissionTax.{CommissionTax}
use Rattle.bsp_calendar.specs.declared.entries.Period.{Period}
use Rattle.bsp_calendar.specs.declared.entries.PlanText.{PlanText}
use Rattle.bsp_calendar.specs.declared.entries.Rate.{Rate}
use Rattle.bsp_calendar.specs.declared.entries.Terms.{Terms}
use Rattle.bsp_calendar.proofs.DayLemmas.{up_to_true, up_to_from, up_to_itself, not_up_to, before_true, before_from, not_before, below_trans, up_to_trans, up_to_next}
use Rattle.bsp_calendar.proofs.ExtendLemmas.{among_once, first_periods_more, first_codes_more}
use Rattle.bsp_calendar.proofs.KeyLemmas.{rate_key, same_rates, tax_key, same_taxes}
use Rattle.bsp_calendar.proofs.ListLemmas.{with_item, each_passes, all_pass}
use Rattle.bsp_calendar.proofs.ListedLemmas.{once_contains, once_distinct, once_more_front, any_false}
use Rattle.bsp_calendar.proofs.OutcomeLemmas.{IsPublished, published, day_set, IsClosing, closed_now}
use Rattle.bsp_calendar.proofs.PeriodLemmas.{IsStanding, next_open_is, next_open_none}
use Rattle.bsp_calendar.proofs.RateKeyLemmas.{day_total, rate_key_total}

-- ---- the opening

pub opening_sound : IsSoundPlan opening
opening_sound = record {
  airlines = λ i j d lt l. absurd (omega arith);
  rates = λ i j d lt l. absurd (omega arith);
  periods = λ i j d lt l. absurd (omega arith);
  commission_taxes = λ i j d lt l. absurd (omega arith);
  without_terms = λ none. record { airlines = refl; rates = refl; periods = refl; commission_taxes = refl };
  terms_bounds = λ t some. absurd (cc some);
  rates_bounds = refl;
  taxes_bounds = refl;
  rates_airlines = refl;
  rates_begin = refl;
  taxes_begin = refl;
  in_order = refl;
  day = up_to_itself (day_number opening.day);
  closed_first = refl;
  closed_over = refl;
}

-- ---- the closed periods of a sound plan

pub closed_within : (p : Published) → IsSoundPlan p → length p.closed ≤ length p.periods
closed_within p s =
    let code_of : Period → ℕ = λ q. q.code in
    let long : length p.closed ≡ min (length p.closed) (length p.periods) =
    ap (length {A = ℕ}) s.closed_first ∙ (length-map (take (length p.closed) p.periods) code_of ∙ length-take (length p.closed) p.periods) in
    omega arith

pub standing : (p : Published) → IsSoundPlan p → IsStanding p.periods (length p.closed)
standing p s = record { within = closed_within p s; distinct = s.periods; in_order = s.in_order }

-- the same of the fields of a plan
pub standing_in : {terms : Option Terms} {airlines : List ℕ} {rates : List Rate} {periods : List Period} {taxes : List CommissionTax} {day : CivilDay} {closed : ℕ} → IsPlan terms airlines rates periods taxes day closed → IsStanding periods closed
standing_in h = record { within = h.within; distinct = h.sound.periods; in_order = h.sound.in_order }

-- ---- a text

-- each rate once, of which those published stay in front
pub rates_distinct : (rs : List Rate) → AreDistinct same_rate (once same_rate rs)
rates_distinct rs = subst (λ (s : Rate → Rate → Bool). AreDistinct s (once s rs)) same_rates (once_distinct (eq_by_cmp rate_key_cmp) (eq_by_cmp_equiv rate_key_total) rate_key rs)

pub rates_front : (rs more : List Rate) → AreDistinct same_rate rs → (new : List Rate) × (once same_rate (rs ++ more) ≡ rs ++ new)
rates_front rs more apart =
    subst (λ (s : Rate → Rate → Bool). AreDistinct s rs → (new : List Rate) × (once s (rs ++ more) ≡ rs ++ new)) same_rates
    (once_more_front (eq_by_cmp rate_key_cmp) (eq_by_cmp_equiv rate_key_total) rate_key rs more) apart

-- the rates that a text adds begin after the business day
pub new_rates : (p : Published) (text : PlanText) (m : Published) → IsSoundPlan p → IsPublished p text m → (new : List Rate) × (once same_rate (p.rates ++ text.rates.items) ≡ p.rates ++ new) × ((r : Rate) → Contains new r → is_up_to r.from p.day ≡ false)
new_rates p text m s told =
    let (new, front) = rates_front p.rates text.rates.items s.rates in
    let late : list_any (λ r. is_up_to r.from p.day) (drop (length p.rates) (p.rates ++ new)) ≡ false = rw front at told.none_late in
    let none : list_any (λ r. is_up_to r.from p.day) new ≡ false = rw (drop_at p.rates new (length p.rates) refl) at late in
    (new, front, λ r in'. any_false (λ (x : Rate). is_up_to x.from p.day) new r none in')

-- the same of taxes on commission
taxes_distinct : (ts : List CommissionTax) → AreDistinct same_tax (once same_tax ts)
taxes_distinct ts = subst (λ (s : CommissionTax → CommissionTax → Bool). AreDistinct s (once s ts)) same_taxes (once_distinct (eq_by_cmp day_cmp) (eq_by_cmp_equiv day_total) tax_key ts)

pub taxes_front : (ts more : List CommissionTax) → AreDistinct same_tax ts → (new : List CommissionTax) × (once same_tax (ts ++ more) ≡ ts ++ new)
taxes_front ts more apart =
    subst (λ (s : CommissionTax → CommissionTax → Bool). AreDistinct s ts → (new : List CommissionTax) × (once s (ts ++ more) ≡ ts ++ new)) same_taxes
    (once_more_front (eq_by_cmp day_cmp) (eq_by_cmp_equiv day_total) tax_key ts more) apart

pub new_taxes : (p : Published) (text : PlanText) (m : Published) → IsSoundPlan p → IsPublished p text m → (new : List CommissionTax) × (once same_tax (p.commission_taxes ++ text.commission_taxes.items) ≡ p.commission_taxes ++ new) × ((t : CommissionTax) → Contains new t → is_up_to t.from p.day ≡ false)
new_taxes p text m s told =
    let (new, front) = taxes_front p.commission_taxes text.commission_taxes.items s.commission_taxes in
    let late : list_any (has_begun p.day) (drop (length p.commission_taxes) (p.commission_taxes ++ new)) ≡ false = rw front at told.no_tax_late in
    let none : list_any (has_begun p.day) new ≡ false = rw (drop_at p.commission_taxes new (length p.commission_taxes) refl) at late in
    (new, front, λ t in'. any_false (has_begun p.day) new t none in')

-- a published airline stays
pub airline_kept : (airlines more : List ℕ) (airline : ℕ) → is_among airline airlines ≡ true → is_among airline (once same_airline (airlines ++ more)) ≡ true
airline_kept airlines more airline h =
    among_once (airlines ++ more) airline ∙ (list_any-append (λ other. airline == other) airlines more ∙ or_left (is_among airline airlines) (is_among airline more) h)

published_sound : (p : Published) (text : PlanText) (m : Published) → IsSoundPlan p → IsPublished p text m → IsSoundPlan (with_entries p text)
published_sound p text m s told =
    let bounds = and_parts (terms_within_bounds text.terms) _ told.bounds in
    let entries = and_parts (rates_within_bounds text.rates.items) (taxes_within_bounds text.commission_taxes.items) bounds.1 in
    let (new, front, late) = new_rates p text m s told in
    let (more_taxes, of_taxes, late_taxes) = new_taxes p text m s told in
    let n = length p.closed in
    record {
      airlines = once_distinct nat_eq nat_eq_equiv (λ (a : ℕ). a) (p.airlines ++ text.airlines.items);
      rates = rates_distinct (p.rates ++ text.rates.items);
      periods = once_distinct nat_eq nat_eq_equiv (λ (q : Period). q.code) (p.periods ++ text.periods.items);
      commission_taxes = taxes_distinct (p.commission_taxes ++ text.commission_taxes.items);
      without_terms = λ none. absurd (cc none);
      terms_bounds = λ t some. let e : text.terms ≡ t = cc in subst (λ (x : Terms). terms_within_bounds x ≡ true) e bounds.0;
      rates_bounds = all_pass (λ (r : Rate). nat_le r.hundredths 10_000) (once same_rate (p.rates ++ text.rates.items))
          (λ r in'. elim (Contains-append_cases p.rates text.rates.items r (once_contains same_rate (p.rates ++ text.rates.items) r in')) [
            | inl old ↦ each_passes (λ (x : Rate). nat_le x.hundredths 10_000) p.rates r s.rates_bounds old
            | inr more ↦ each_passes (λ (x : Rate). nat_le x.hundredths 10_000) text.rates.items r entries.0 more
          ]);
      taxes_bounds = all_pass (λ (t : CommissionTax). nat_le t.hundredths 10_000) (once same_tax (p.commission_taxes ++ text.commission_taxes.items))
          (λ t in'. elim (Contains-append_cases p.commission_taxes text.commission_taxes.items t (once_contains same_tax (p.commission_taxes ++ text.commission_taxes.items) t in')) [
            | inl old ↦ each_passes (λ (x : CommissionTax). nat_le x.hundredths 10_000) p.commission_taxes t s.taxes_bounds old
            | inr more ↦ each_passes (λ (x : CommissionTax). nat_le x.hundredths 10_000) text.commission_taxes.items t entries.1 more
          ]);
      rates_airlines = all_pass (λ (r : Rate). is_among r.airline (once same_airline (p.airlines ++ text.airlines.items))) (once same_rate (p.rates ++ text.rates.items))
          (λ r in'. elim (Contains-append_cases p.rates text.rates.items r (once_contains same_rate (p.rates ++ text.rates.items) r in')) [
            | inl old ↦ airline_kept p.airlines text.airlines.items r.airline (each_passes (λ (x : Rate). is_among x.airline p.airlines) p.rates r s.rates_airlines old)
            | inr more ↦ among_once (p.airlines ++ text.airlines.items) r.airline ∙ each_passes (λ (x : Rate). is_among x.airline (p.airlines ++ text.airlines.items)) text.rates.items r told.airlines more
          ]);
      rates_begin = subst (λ (rs : List Rate). list_all (λ r. is_before opening.day r.from) rs ≡ true) (sym front)
          (all_pass (λ (r : Rate). is_before opening.day r.from) (p.rates ++ new)
          (λ r in'. elim (Contains-append_cases p.rates new r in') [
            | inl old ↦ each_passes (λ (x : Rate). is_before opening.day x.from) p.rates r s.rates_begin old
            | inr more ↦ before_from (day_number opening.day) (day_number r.from) (up_to_next _ _ _ (up_to_true (day_number opening.day) (day_number p.day) s.day) (not_up_to (day_number r.from) (day_number p.day) (late r more)))
          ]));
      taxes_begin = subst (λ (ts : List CommissionTax). list_all (λ t. is_before opening.day t.from) ts ≡ true) (sym of_taxes)
          (all_pass (λ (t : CommissionTax). is_before opening.day t.from) (p.commission_taxes ++ more_taxes)
          (λ t in'. elim (Contains-append_cases p.commission_taxes more_taxes t in') [
            | inl old ↦ each_passes (λ (x : CommissionTax). is_before opening.day x.from) p.commission_taxes t s.taxes_begin old
            | inr more ↦ before_from (day_number opening.day) (day_number t.from) (up_to_next _ _ _ (up_to_true (day_number opening.day) (day_number p.day) s.day) (not_up_to (day_number t.from) (day_number p.day) (late_taxes t more)))
          ]));
      in_order = told.in_order;
      day = s.day;
      closed_first = s.closed_first ∙ sym (first_codes_more p.periods text.periods.items (once same_period (p.periods ++ text.periods.items)) n (standing p s) refl);
      closed_over = ap (list_all (ends_before p.day)) (first_periods_more p.periods text.periods.items (once same_period (p.periods ++ text.periods.items)) n (standing p s) refl) ∙ s.closed_over;
    }

pub publish_sound : (p : Published) (text : PlanText) (m : Published) → IsSoundPlan p → extended p text ≡ Ok m → IsSoundPlan m
publish_sound p text m s h = let told = published p text m h in subst IsSoundPlan told.is (published_sound p text m s told)

-- ---- the business day

pub day_sound : (p : Published) (day : CivilDay) (m : Published) → IsSoundPlan p → on_day p day ≡ Ok m → IsSoundPlan m
day_sound p day m s h =
    let told = day_set p day m h in
    let up : is_up_to p.day day ≡ true = up_to_from (day_number p.day) (day_number day) (not_before (day_number day) (day_number p.day) told.0) in
    subst IsSoundPlan told.1 (record {
      airlines = s.airlines;
      rates = s.rates;
      periods = s.periods;
      commission_taxes = s.commission_taxes;
      without_terms = λ none. let e = s.without_terms none in record { airlines = e.airlines; rates = e.rates; periods = e.periods; commission_taxes = e.commission_taxes };
      terms_bounds = s.terms_bounds;
      rates_bounds = s.rates_bounds;
      taxes_bounds = s.taxes_bounds;
      rates_airlines = s.rates_airlines;
      rates_begin = s.rates_begin;
      taxes_begin = s.taxes_begin;
      in_order = s.in_order;
      day = up_to_from (day_number opening.day) (day_number day) (up_to_trans _ _ _ (up_to_true (day_number opening.day) (day_number p.day) s.day) (up_to_true (day_number p.day) (day_number day) up));
      closed_first = s.closed_first;
      closed_over = all_pass (ends_before day) (take (length p.closed) p.periods)
          (λ q in'. before_from (day_number q.last) (day_number day) (below_trans _ _ _ (before_true (day_number q.last) (day_number p.day) (each_passes (ends_before p.day) (take (length p.closed) p.periods) q s.closed_over in')) (up_to_true (day_number p.day) (day_number day) up)));
    })

-- ---- a close

-- the earliest open period, by the count of the closed
pub next_open_at : (p : Published) (d : Period) → IsSoundPlan p → length p.closed < length p.periods → next_open p ≡ Some (get_or p.periods (length p.closed) d)
next_open_at p d s lt =
    ap (λ (codes : List ℕ). find (λ (q : Period). not (is_among q.code codes)) p.periods) s.closed_first ∙ next_open_is p.periods (length p.closed) d s.periods lt

pub next_open_past : (p : Published) → IsSoundPlan p → length p.periods ≤ length p.closed → next_open p ≡ None
next_open_past p s ge =
    ap (λ (codes : List ℕ). find (λ (q : Period). not (is_among q.code codes)) p.periods) s.closed_first ∙ next_open_none p.periods (length p.closed) ge

-- a period that is closed is one of the list
pub closing_within : (p : Published) (code : ℕ) (m : Published) → IsSoundPlan p → IsClosing p code m → length p.closed < length p.periods
closing_within p code m s told = elim (cases_lt (length p.closed) (length p.periods)) [
  | inl lt ↦ lt
  | inr ge ↦ absurd (both_ways _ (ap (has_code code) (next_open_past p s ge)) told.earliest)
]

closing_sound : (p : Published) (code : ℕ) (m : Published) → IsSoundPlan p → IsClosing p code m → IsSoundPlan (record p { closed = p.closed ++ code ∷ [] })
closing_sound p code m s told =
    let n = length p.closed in
    let lt = closing_within p code m s told in
    with_item p.periods n lt (λ d.
    let q = get_or p.periods n d in
    let next : next_open p ≡ Some q = next_open_at p d s lt in
    let is : q.code ≡ code = eqb-true q.code code (sym (ap (has_code code) next) ∙ told.earliest) in
    let over : is_before q.last p.day ≡ true = sym (ap (is_over p) next) ∙ told.over in
    let long : length (p.closed ++ code ∷ []) ≡ n + 1 = length_push p.closed code in
    let codes : first_codes p.periods (n + 1) ≡ first_codes p.periods n ++ q.code ∷ [] = map_more (λ (r : Period). r.code) p.periods n d lt in
    record {
      airlines = s.airlines;
      rates = s.rates;
      periods = s.periods;
      commission_taxes = s.commission_taxes;
      without_terms = λ none. let e = s.without_terms none in record { airlines = e.airlines; rates = e.rates; periods = e.periods; commission_taxes = e.commission_taxes };
      terms_bounds = s.terms_bounds;
      rates_bounds = s.rates_bounds;
      taxes_bounds = s.taxes_bounds;
      rates_airlines = s.rates_airlines;
      rates_begin = s.rates_begin;
      taxes_begin = s.taxes_begin;
      in_order = s.in_order;
      day = s.day;
      closed_first =
          ap (λ (codes : List ℕ). codes ++ code ∷ []) s.closed_first
          ∙ (ap (λ (c : ℕ). first_codes p.periods n ++ c ∷ []) (sym is) ∙ (sym codes ∙ ap (first_codes p.periods) (sym long)));
      closed_over =
          ap (λ (k : ℕ). list_all (ends_before p.day) (take k p.periods)) long
          ∙ (list_all_more (ends_before p.day) p.periods n d lt ∙ and_from (list_all (ends_before p.day) (take n p.periods)) (ends_before p.day q) s.closed_over over);
    })

pub close_sound : (p : Published) (code : ℕ) (m : Published) → IsSoundPlan p → closing p code ≡ Ok m → IsSoundPlan m
close_sound p code m s h = elim (closed_now p code m h) [
  | inl same ↦ subst IsSoundPlan same.1 s
  | inr more ↦ subst IsSoundPlan more.1.is (closing_sound p code m s more.1)
]

-- ---- any request, and many

pub sound_kept : (p : Published) (request : Request) (m : Published) → IsSoundPlan p → outcome p request ≡ Ok m → IsSoundPlan m
sound_kept p (Publish text) m s h = publish_sound p text m s h
sound_kept p (SetDay day) m s h = day_sound p day m s h
sound_kept p (Close code) m s h = close_sound p code m s h

pub reached_sound : (requests : List Request) (p m : Published) → IsSoundPlan p → IsReached p requests m → IsSoundPlan m
reached_sound [] p m s is = subst IsSoundPlan (sym is) s
reached_sound (r ∷ rs) p m s (next, done, rest) = reached_sound rs next m (sound_kept p r next s done) rest

-- one more accepted request
pub reached_more : (requests : List Request) (start p : Published) (request : Request) (m : Published) → IsReached start requests p → outcome p request ≡ Ok m → IsReached start (requests ++ request ∷ []) m
reached_more [] start p r m is h = (m, subst (λ (x : Published). outcome x r ≡ Ok m) is h, refl)
reached_more (q ∷ rs) start p r m (next, done, rest) h = (next, done, reached_more rs next p r m rest h)

-- where there is a period, terms are published
pub terms_there : (p : Published) → IsSoundPlan p → (q : Period) → Contains p.periods q → (t : Terms) × (p.terms ≡ Some t)
terms_there p s q in' = there p.terms refl where
  there : (o : Option Terms) → p.terms ≡ o → (t : Terms) × (p.terms ≡ Some t)
  there None is = let (k, l, e) = in' in let none : length p.periods ≡ 0 = ap (length {A = Period}) (s.without_terms is).periods in absurd (omega arith)
  there (Some t) is = (t, is)
