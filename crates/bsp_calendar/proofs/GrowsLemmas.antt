-- What accepted requests leave of a plan as it was.
use Rattle.std.proofs.Common.{◌≡◌, ℕ, ◌<◌, ◌==◌, ◌||◌, length, take, ltb, arith, Bool, true, false, not, get_or, List, [], ◌∷◌, ◌++◌, Ok, refl, sym, ap, subst, ◌∙◌, nat_eq, inl, inr}
use Rattle.std.specs.Prelude.{Option, Some, None, if◌then◌else◌}
use Rattle.std.specs.List.{All, Contains, filter, find, list_any}
use Rattle.std.specs.Option.{option_or}
use Rattle.std.proofs.lemmas.Bool.{and_right, both_ways, or_left, or_right, eq-eqb, eqb-true, ltb-true}
use Rattle.std.proofs.lemmas.Cmp.{nat_eq_equiv}
use Rattle.std.proofs.lemmas.List.{append-nil, get_or-take, length-take-le}
use Rattle.std.proofs.lemmas.List.Elements.{Contains-get_or, filter-append}
use Rattle.std.proofs.lemmas.List.Folds.{find-append, list_any-append, list_any_none}
use Rattle.std.proofs.lemmas.List.Sums.{AllPass-from_list_all}
use Rattle.bsp_fields.specs.CivilDay.{CivilDay}
use Rattle.bsp_fields.specs.Days.{day_number}
use Rattle.bsp_calendar.specs.DayOrder.{is_before, is_up_to}
use Rattle.bsp_calendar.specs.History.{Request, outcome, IsReached}
use Rattle.bsp_calendar.specs.History.Request.{Publish, SetDay, Close}
use Rattle.bsp_calendar.specs.Published.{Published, is_among, is_closed, period_of, closed_period, applies, has_begun, number_or_zero, latest, rate_on, commission_tax_on, is_taxed, UntaxedIsZero}
use Rattle.bsp_calendar.specs.Requests.{extended, with_entries, on_day, closing, has_code, next_open}
use Rattle.bsp_calendar.specs.SoundPlan.{Grows, IsSoundPlan}
use Rattle.bsp_calendar.specs.Standing.{ends_before, first_codes}
use Rattle.bsp_calendar.specs.declared.entries.CommissionTax.{CommissionTax}
use Rattle.bsp_calendar.specs.declared.entries.Period.{Period}
use Rattle.bsp_calendar.specs.declared.entries.PlanText.{PlanText}
use Rattle.bsp_calendar.specs.declared.entries.Rate.{Rate}
use Rattle.bsp_calendar.specs.declared.entries.Terms.{Terms}
use Rattle.bsp_calendar.proofs.DayLemmas.{up_to_true, up_to_from, up_to_itself, not_up_to, not_up_to_from, before_true, below_weaker, not_before, up_to_trans, up_to_next}
use Rattle.bsp_calendar.proofs.ListLemmas.{find_contains, filter_none}
use Rattle.bsp_calendar.proofs.ListedLemmas.{any_false, once_more_front}
use Rattle.bsp_calendar.proofs.KeyLemmas.{tax_key}
use Rattle.bsp_calendar.proofs.OutcomeLemmas.{IsPublished, published, terms_kept, day_set, closed_now}
use Rattle.bsp_calendar.proofs.PeriodLemmas.{among_is}
use Rattle.bsp_calendar.proofs.SoundLemmas.{new_rates, new_taxes, airline_kept, closed_within, sound_kept, terms_there}

-- a period that is closed stays closed, as it is
closed_kept : (p m : Published) (code : ℕ) (q : Period) → (is_closed p code ≡ true → is_closed m code ≡ true) → (period_of p code ≡ Some q → period_of m code ≡ Some q) → (b : Bool) → is_closed p code ≡ b → (if b then period_of p code else None) ≡ Some q → closed_period m code ≡ Some q
closed_kept p m code q closed there true is h = ap (λ b. if b then period_of m code else None) (closed is) ∙ there h
closed_kept p m code q closed there false is h = absurd (cc h)

-- a closed period is over
pub closed_is_over : (p : Published) → IsSoundPlan p → (code : ℕ) (q : Period) → closed_period p code ≡ Some q → is_before q.last p.day ≡ true
closed_is_over p s code q h = by (is_closed p code) refl h where
  by : (b : Bool) → is_closed p code ≡ b → (if b then period_of p code else None) ≡ Some q → is_before q.last p.day ≡ true
  by false is e = absurd (cc e)
  by true is e =
      let n = length p.closed in
      let ((i, l, at), same) = find_contains (λ r. r.code == code) p.periods q e in
      let among : is_among q.code (first_codes p.periods n) ≡ true =
      ap (λ (c : ℕ). is_among c (first_codes p.periods n)) (eqb-true q.code code same) ∙ (ap (λ (codes : List ℕ). is_among code codes) (sym s.closed_first) ∙ is) in
      let place : is_among q.code (first_codes p.periods n) ≡ ltb i n =
      ap (λ (r : Period). is_among r.code (first_codes p.periods n)) (sym at) ∙ among_is p.periods i n q s.periods l in
      let lt : i < n = ltb-true i n (sym place ∙ among) in
      let long : length (take n p.periods) ≡ n = length-take-le n p.periods (closed_within p s) in
      let over : ends_before p.day (get_or (take n p.periods) i q) ≡ true = AllPass-from_list_all (ends_before p.day) (take n p.periods) s.closed_over i q (omega arith) in
      subst (λ (x : Period). is_before x.last p.day ≡ true) (get_or-take n p.periods i q lt ∙ at) over

-- ---- no request, and two in turn

pub grows_itself : (p : Published) → Grows p p
grows_itself p = record {
  airlines = λ a e. e;
  periods = λ code q e. e;
  closed = λ code e. e;
  closed_periods = λ code q e. e;
  forms = λ code q e. refl;
  terms = λ t e. e;
  rates = λ a on up. refl;
  commission_taxes = λ on up. refl;
  day = up_to_itself (day_number p.day);
}

-- a day that has begun in a plan has begun in what it grows to
begun_later : (p m : Published) (on : CivilDay) → Grows p m → is_up_to on p.day ≡ true → is_up_to on m.day ≡ true
begun_later p m on first up =
    up_to_from (day_number on) (day_number m.day) (up_to_trans _ _ _ (up_to_true (day_number on) (day_number p.day) up) (up_to_true (day_number p.day) (day_number m.day) first.day))

pub grows_further : (p m q : Published) → Grows p m → Grows m q → Grows p q
grows_further p m q first then' = record {
  airlines = λ a e. then'.airlines a (first.airlines a e);
  periods = λ code r e. then'.periods code r (first.periods code r e);
  closed = λ code e. then'.closed code (first.closed code e);
  closed_periods = λ code r e. then'.closed_periods code r (first.closed_periods code r e);
  forms = λ code r e. then'.forms code r (first.closed_periods code r e) ∙ first.forms code r e;
  terms = λ t e. then'.terms t (first.terms t e);
  rates = λ a on up. then'.rates a on (begun_later p m on first up) ∙ first.rates a on up;
  commission_taxes = λ on up. then'.commission_taxes on (begun_later p m on first up) ∙ first.commission_taxes on up;
  day = up_to_from (day_number p.day) (day_number q.day) (up_to_trans _ _ _ (up_to_true (day_number p.day) (day_number m.day) first.day) (up_to_true (day_number m.day) (day_number q.day) then'.day));
}

-- ---- a text

period_kept : (p : Published) (text : PlanText) → IsSoundPlan p → (code : ℕ) (q : Period) → period_of p code ≡ Some q → period_of (with_entries p text) code ≡ Some q
period_kept p text s code q e =
    let (new, front) = once_more_front nat_eq nat_eq_equiv (λ (r : Period). r.code) p.periods text.periods.items s.periods in
    ap (find (λ r. r.code == code)) front ∙ (find-append (λ r. r.code == code) p.periods new ∙ ap (λ o. option_or o (find (λ r. r.code == code) new)) e)

rate_kept : (p : Published) (text : PlanText) (m : Published) → IsSoundPlan p → IsPublished p text m → (airline : ℕ) (on : CivilDay) → is_up_to on p.day ≡ true → rate_on (with_entries p text) airline on ≡ rate_on p airline on
rate_kept p text m s told airline on up =
    let (new, front, late) = new_rates p text m s told in
    let none : filter (applies airline on) new ≡ [] =
    filter_none (applies airline on) new
    (λ k d l.
    let r = get_or new k d in
    and_right (r.airline == airline) (is_up_to r.from on)
    (not_up_to_from (day_number r.from) (day_number on) (up_to_next _ _ _ (up_to_true (day_number on) (day_number p.day) up) (not_up_to (day_number r.from) (day_number p.day) (late r (Contains-get_or new k d l)))))) in
    ap (λ (rs : List Rate). number_or_zero (λ (r : Rate). r.hundredths) (latest (λ (r : Rate). r.from) rs))
    (ap (filter (applies airline on)) front ∙ (filter-append (applies airline on) p.rates new ∙ (ap (λ (rs : List Rate). filter (applies airline on) p.rates ++ rs) none ∙ append-nil (filter (applies airline on) p.rates))))

-- taxes that begin after a day have not begun on any day up to it
none_begun : (new : List CommissionTax) (day on : CivilDay) → ((t : CommissionTax) → Contains new t → is_up_to t.from day ≡ false) → is_up_to on day ≡ true → All (λ t. has_begun on t ≡ false) new
none_begun new day on late up =
    λ k d l.
    let t = get_or new k d in
    not_up_to_from (day_number t.from) (day_number on) (up_to_next _ _ _ (up_to_true (day_number on) (day_number day) up) (not_up_to (day_number t.from) (day_number day) (late t (Contains-get_or new k d l))))

-- of a period of form 1 no tax has begun by its last day
pub untaxed_zero : UntaxedIsZero
untaxed_zero p q on form up =
    let later = λ (t : CommissionTax) (in' : Contains p.commission_taxes t). any_false (has_begun q.last) p.commission_taxes t form in' in
    ap (λ (ts : List CommissionTax). number_or_zero (λ (t : CommissionTax). t.hundredths) (latest tax_key ts))
    (filter_none (has_begun on) p.commission_taxes (none_begun p.commission_taxes q.last on later up))

tax_kept : (p : Published) (text : PlanText) (m : Published) → IsSoundPlan p → IsPublished p text m → (on : CivilDay) → is_up_to on p.day ≡ true → commission_tax_on (with_entries p text) on ≡ commission_tax_on p on
tax_kept p text m s told on up =
    let (new, front, late) = new_taxes p text m s told in
    let none : filter (has_begun on) new ≡ [] = filter_none (has_begun on) new (none_begun new p.day on late up) in
    ap (λ (ts : List CommissionTax). number_or_zero (λ (t : CommissionTax). t.hundredths) (latest tax_key ts))
    (ap (filter (has_begun on)) front ∙ (filter-append (has_begun on) p.commission_taxes new ∙ (ap (λ (ts : List CommissionTax). filter (has_begun on) p.commission_taxes ++ ts) none ∙ append-nil (filter (has_begun on) p.commission_taxes))))

or_false : (b : Bool) → (b || false) ≡ b
or_false true = refl
or_false false = refl

-- no tax that a text adds begins by a day that has begun
form_kept : (p : Published) (text : PlanText) (m : Published) → IsSoundPlan p → IsPublished p text m → (q : Period) → is_up_to q.last p.day ≡ true → is_taxed (with_entries p text) q ≡ is_taxed p q
form_kept p text m s told q up =
    let (new, front, late) = new_taxes p text m s told in
    let none : list_any (has_begun q.last) new ≡ false = list_any_none (has_begun q.last) new (none_begun new p.day q.last late up) in
    ap (list_any (has_begun q.last)) front
    ∙ (list_any-append (has_begun q.last) p.commission_taxes new ∙ (ap (λ (b : Bool). list_any (has_begun q.last) p.commission_taxes || b) none ∙ or_false (list_any (has_begun q.last) p.commission_taxes)))

closed_form_kept : (p : Published) (text : PlanText) (m : Published) → IsSoundPlan p → IsPublished p text m → (code : ℕ) (q : Period) → closed_period p code ≡ Some q → is_taxed (with_entries p text) q ≡ is_taxed p q
closed_form_kept p text m s told code q e =
    form_kept p text m s told q (up_to_from (day_number q.last) (day_number p.day) (below_weaker _ _ (before_true (day_number q.last) (day_number p.day) (closed_is_over p s code q e))))

publish_grows : (p : Published) (text : PlanText) (m : Published) → IsSoundPlan p → extended p text ≡ Ok m → Grows p m
publish_grows p text m s h =
    let told = published p text m h in
    subst (λ (x : Published). Grows p x) told.is (record {
      airlines = λ a e. airline_kept p.airlines text.airlines.items a e;
      periods = period_kept p text s;
      closed = λ code e. e;
      closed_periods = λ code q e. closed_kept p (with_entries p text) code q (λ x. x) (period_kept p text s code q) (is_closed p code) refl e;
      forms = closed_form_kept p text m s told;
      terms = λ t e. ap (λ (x : Published). x.terms) told.is ∙ terms_kept p text m told t e;
      rates = rate_kept p text m s told;
      commission_taxes = tax_kept p text m s told;
      day = up_to_itself (day_number p.day);
    })

-- ---- the business day

day_grows : (p : Published) (day : CivilDay) (m : Published) → on_day p day ≡ Ok m → Grows p m
day_grows p day m h =
    let told = day_set p day m h in
    subst (λ (x : Published). Grows p x) told.1 (record {
      airlines = λ a e. e;
      periods = λ code q e. e;
      closed = λ code e. e;
      closed_periods = λ code q e. e;
      forms = λ code q e. refl;
      terms = λ t e. e;
      rates = λ a on up. refl;
      commission_taxes = λ on up. refl;
      day = up_to_from (day_number p.day) (day_number day) (not_before (day_number day) (day_number p.day) told.0);
    })

-- ---- a close

among_more : (code other : ℕ) (codes : List ℕ) → is_among code codes ≡ true → is_among code (codes ++ other ∷ []) ≡ true
among_more code other codes h = list_any-append (λ x. code == x) codes (other ∷ []) ∙ or_left (is_among code codes) (is_among code (other ∷ [])) h

among_last : (code : ℕ) (codes : List ℕ) → is_among code (codes ++ code ∷ []) ≡ true
among_last code codes = list_any-append (λ x. code == x) codes (code ∷ []) ∙ or_right (is_among code codes) (is_among code (code ∷ [])) (or_left (code == code) false (eq-eqb code code refl))

close_grows : (p : Published) (code : ℕ) (m : Published) → closing p code ≡ Ok m → Grows p m
close_grows p code m h = elim (closed_now p code m h) [
  | inl same ↦ subst (λ (x : Published). Grows p x) same.1 (grows_itself p)
  | inr more ↦ subst (λ (x : Published). Grows p x) more.1.is (record {
    airlines = λ a e. e;
    periods = λ c q e. e;
    closed = λ c e. among_more c code p.closed e;
    closed_periods = λ c q e. closed_kept p (record p { closed = p.closed ++ code ∷ [] }) c q (λ x. among_more c code p.closed x) (λ x. x) (is_closed p c) refl e;
    forms = λ c q e. refl;
    terms = λ t e. e;
    rates = λ a on up. refl;
    commission_taxes = λ on up. refl;
    day = up_to_itself (day_number p.day);
  })
]

-- what a close leaves where the period was not closed
pub record IsJustClosed (p : Published) (code : ℕ) (m : Published) : Type 0 where
  pub closed : is_closed m code ≡ true
  pub day : m.day ≡ p.day
  pub terms : (t : Terms) × (m.terms ≡ Some t) × (p.terms ≡ Some t)

closed_one_period : (p : Published) (code : ℕ) → (o : Option Period) → next_open p ≡ o → has_code code o ≡ true → (q : Period) × Contains p.periods q
closed_one_period p code None is h = absurd (cc h)
closed_one_period p code (Some q) is h = (q, (find_contains (λ r. not (is_closed p r.code)) p.periods q is).0)

pub just_closed : (p : Published) (code : ℕ) (m : Published) → IsSoundPlan p → is_closed p code ≡ false → closing p code ≡ Ok m → IsJustClosed p code m
just_closed p code m s unclosed h = elim (closed_now p code m h) [
  | inl same ↦ absurd (both_ways _ unclosed same.0)
  | inr more ↦
      let (q, in') = closed_one_period p code (next_open p) refl more.1.earliest in
      let (t, e) = terms_there p s q in' in
      subst (λ (x : Published). IsJustClosed p code x) more.1.is (record { closed = among_last code p.closed; day = refl; terms = (t, e, e) })
]

-- ---- any request, and many

pub request_grows : (p : Published) (request : Request) (m : Published) → IsSoundPlan p → outcome p request ≡ Ok m → Grows p m
request_grows p (Publish text) m s h = publish_grows p text m s h
request_grows p (SetDay day) m s h = day_grows p day m h
request_grows p (Close code) m s h = close_grows p code m h

pub reached_grows : (requests : List Request) (p m : Published) → IsSoundPlan p → IsReached p requests m → Grows p m
reached_grows [] p m s is = subst (λ (x : Published). Grows p x) (sym is) (grows_itself p)
reached_grows (r ∷ rs) p m s (next, done, rest) =
    grows_further p next m (request_grows p r next s done) (reached_grows rs next m (sound_kept p r next s done) rest)
