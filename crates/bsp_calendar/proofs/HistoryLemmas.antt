-- Lemmas for the law of a plan's history.
use Rattle.std.proofs.Common.{◌≡◌, ℕ, ◌==◌, Bool, true, false, List, [], ◌∷◌, ◌++◌, refl, sym, ap, ◌∙◌, inl, inr, Ok, nat_eq, cond, length, subst}
use Rattle.std.specs.Prelude.{Option, Some}
use Rattle.std.specs.List.{flat_map, list_any}
use Rattle.std.proofs.lemmas.Cmp.{nat_eq_equiv}
use Rattle.std.proofs.lemmas.Bool.{or_parts, both_ways}
use Rattle.std.proofs.lemmas.List.{append-nil, append_assoc}
use Rattle.bsp_fields.specs.CivilDay.{CivilDay}
use Rattle.bsp_calendar.specs.History.{Request, outcome, IsReached, airlines_of, rates_of, periods_of, taxes_of, closes_of, publishes, same_code, IsLastDay, IsHistory}
use Rattle.bsp_calendar.specs.History.Request.{Publish, SetDay, Close}
use Rattle.bsp_calendar.specs.Published.{Published, is_among}
use Rattle.bsp_calendar.specs.Requests.{once, AreDistinct, closing, same_airline, same_rate, same_period, same_tax, extended, on_day}
use Rattle.bsp_calendar.specs.declared.entries.CommissionTax.{CommissionTax}
use Rattle.bsp_calendar.specs.declared.entries.Period.{Period}
use Rattle.bsp_calendar.specs.declared.entries.PlanText.{PlanText}
use Rattle.bsp_calendar.specs.declared.entries.Rate.{Rate}
use Rattle.bsp_calendar.specs.declared.entries.Terms.{Terms}
use Rattle.std.specs.Ordering.{eq_by_cmp}
use Rattle.std.proofs.lemmas.Cmp.{eq_by_cmp_equiv}
use Rattle.bsp_calendar.specs.KeyLaws.{day_cmp, rate_key_cmp}
use Rattle.bsp_calendar.proofs.MadeLemmas.{airlines_once, periods_once, rates_once, taxes_once}
use Rattle.bsp_calendar.proofs.OutcomeLemmas.{published, terms_kept, day_set, closed_now}
use Rattle.bsp_calendar.proofs.PeriodLemmas.{codes_apart}
use Rattle.bsp_calendar.proofs.SoundLemmas.{sound_kept}
use Rattle.bsp_calendar.specs.SoundPlan.{IsSoundPlan}
use Rattle.bsp_calendar.proofs.KeyLemmas.{eqb_symm, rate_key, same_rates, same_taxes, tax_key}
use Rattle.bsp_calendar.proofs.RateKeyLemmas.{day_total, rate_key_total}
use Rattle.bsp_calendar.proofs.ListLemmas.{contains_cases, contains_none}
use Rattle.bsp_calendar.proofs.ListedLemmas.{once_once, once_push}

-- ---- one list of entries, over many requests

-- the list is each of the old ones and more, once
abbrev Grown : {A : Type 0} → (A → A → Bool) → List A → List A → List A → Type 0
Grown same old more new = new ≡ once same (old ++ more)

-- entries each once may stand for all
abbrev Joins : {A : Type 0} → (A → A → Bool) → Type 0
Joins {A} same = (xs ys : List A) → once same (once same xs ++ ys) ≡ once same (xs ++ ys)

grown_none : {A : Type 0} (same : A → A → Bool) (old : List A) → once same old ≡ old → Grown same old [] old
grown_none same old fixed = rw append-nil (sym fixed)

grown_more : {A : Type 0} (same : A → A → Bool) → Joins same → (old a mid b new : List A) → Grown same old a mid → Grown same mid b new → Grown same old (a ++ b) new
grown_more same joins old a mid b new first second =
    second ∙ (ap (λ xs. once same (xs ++ b)) first ∙ (joins (old ++ a) b ∙ ap (once same) (append_assoc old a b)))

join_airlines : Joins same_airline
join_airlines = once_once nat_eq nat_eq_equiv (λ (a : ℕ). a)

join_codes : Joins same_code
join_codes = once_once nat_eq nat_eq_equiv (λ (a : ℕ). a)

join_periods : Joins same_period
join_periods = once_once nat_eq nat_eq_equiv (λ (q : Period). q.code)

join_rates : Joins same_rate
join_rates = subst (λ (s : Rate → Rate → Bool). Joins s) same_rates (once_once (eq_by_cmp rate_key_cmp) (eq_by_cmp_equiv rate_key_total) rate_key)

join_taxes : Joins same_tax
join_taxes = subst (λ (s : CommissionTax → CommissionTax → Bool). Joins s) same_taxes (once_once (eq_by_cmp day_cmp) (eq_by_cmp_equiv day_total) tax_key)

-- ---- one request

record Fixed (p : Published) : Type 0 where
  airlines : once same_airline p.airlines ≡ p.airlines
  rates : once same_rate p.rates ≡ p.rates
  periods : once same_period p.periods ≡ p.periods
  commission_taxes : once same_tax p.commission_taxes ≡ p.commission_taxes
  closed : once same_code p.closed ≡ p.closed

abbrev day_after : CivilDay → Request → CivilDay
day_after day (Publish text) = day
day_after day (SetDay other) = other
day_after day (Close code) = day

abbrev terms_after : Option Terms → Request → Option Terms
terms_after terms (Publish text) = Some text.terms
terms_after terms (SetDay day) = terms
terms_after terms (Close code) = terms

record Step (p : Published) (r : Request) (m : Published) : Type 0 where
  airlines : Grown same_airline p.airlines (airlines_of r) m.airlines
  rates : Grown same_rate p.rates (rates_of r) m.rates
  periods : Grown same_period p.periods (periods_of r) m.periods
  commission_taxes : Grown same_tax p.commission_taxes (taxes_of r) m.commission_taxes
  closed : Grown same_code p.closed (closes_of r) m.closed
  day : m.day ≡ day_after p.day r
  terms : m.terms ≡ terms_after p.terms r
  kept : (t : Terms) → p.terms ≡ Some t → m.terms ≡ Some t

step_publish : (p : Published) (text : PlanText) (m : Published) → Fixed p → extended p text ≡ Ok m → Step p (Publish text) m
step_publish p text m f h =
    let told = published p text m h in
    let is = sym told.is in
    record {
      airlines = ap (λ (q : Published). q.airlines) is;
      rates = ap (λ (q : Published). q.rates) is;
      periods = ap (λ (q : Published). q.periods) is;
      commission_taxes = ap (λ (q : Published). q.commission_taxes) is;
      closed = ap (λ (q : Published). q.closed) is ∙ grown_none same_code p.closed f.closed;
      day = ap (λ (q : Published). q.day) is;
      terms = ap (λ (q : Published). q.terms) is;
      kept = terms_kept p text m told;
    }

-- a request that publishes nothing and closes nothing, or one code
step_quiet : (p : Published) (r : Request) (m : Published) → Fixed p → m.airlines ≡ p.airlines → m.rates ≡ p.rates → m.periods ≡ p.periods → m.commission_taxes ≡ p.commission_taxes → m.terms ≡ p.terms → airlines_of r ≡ [] → rates_of r ≡ [] → periods_of r ≡ [] → taxes_of r ≡ [] → terms_after p.terms r ≡ p.terms → m.day ≡ day_after p.day r → Grown same_code p.closed (closes_of r) m.closed → Step p r m
step_quiet p r m f a s q x t na ns nq nx nt day closed = record {
  airlines = a ∙ (rw na (grown_none same_airline p.airlines f.airlines));
  rates = s ∙ (rw ns (grown_none same_rate p.rates f.rates));
  periods = q ∙ (rw nq (grown_none same_period p.periods f.periods));
  commission_taxes = x ∙ (rw nx (grown_none same_tax p.commission_taxes f.commission_taxes));
  closed = closed;
  day = day;
  terms = t ∙ sym nt;
  kept = λ u e. t ∙ e;
}

step_day : (p : Published) (day : CivilDay) (m : Published) → Fixed p → on_day p day ≡ Ok m → Step p (SetDay day) m
step_day p day m f h =
    let back = sym (day_set p day m h).1 in
    step_quiet p (SetDay day) m f (ap (λ (q : Published). q.airlines) back) (ap (λ (q : Published). q.rates) back) (ap (λ (q : Published). q.periods) back) (ap (λ (q : Published). q.commission_taxes) back) (ap (λ (q : Published). q.terms) back) refl refl refl refl refl (ap (λ (q : Published). q.day) back)
    (ap (λ (q : Published). q.closed) back ∙ grown_none same_code p.closed f.closed)

among_turned : (codes : List ℕ) (code : ℕ) → list_any (λ y. same_code y code) codes ≡ is_among code codes
among_turned codes code =
    let turned : ◌≡◌ {A = ℕ → Bool} (λ y. same_code y code) (λ y. code == y) = λ i. λ y. eqb_symm y code i in
    ap (λ (t : ℕ → Bool). list_any t codes) turned

once_code : (codes : List ℕ) (code : ℕ) → once same_code (codes ++ code ∷ []) ≡ cond (is_among code codes) (once same_code codes) (once same_code codes ++ code ∷ [])
once_code codes code = once_push nat_eq nat_eq_equiv (λ (a : ℕ). a) codes code ∙ ap (λ b. cond b (once same_code codes) (once same_code codes ++ code ∷ [])) (among_turned codes code)

step_close : (p : Published) (code : ℕ) (m : Published) → Fixed p → closing p code ≡ Ok m → Step p (Close code) m
step_close p code m f h = elim (closed_now p code m h) [
  | inl same ↦
      let back = sym same.1 in
      step_quiet p (Close code) m f (ap (λ (q : Published). q.airlines) back) (ap (λ (q : Published). q.rates) back) (ap (λ (q : Published). q.periods) back) (ap (λ (q : Published). q.commission_taxes) back) (ap (λ (q : Published). q.terms) back) refl refl refl refl refl (ap (λ (q : Published). q.day) back)
      (ap (λ (q : Published). q.closed) back ∙ sym (once_code p.closed code ∙ (rw same.0 f.closed)))
  | inr more ↦
      let back = sym more.1.is in
      step_quiet p (Close code) m f (ap (λ (q : Published). q.airlines) back) (ap (λ (q : Published). q.rates) back) (ap (λ (q : Published). q.periods) back) (ap (λ (q : Published). q.commission_taxes) back) (ap (λ (q : Published). q.terms) back) refl refl refl refl refl (ap (λ (q : Published). q.day) back)
      (ap (λ (q : Published). q.closed) back ∙ sym (once_code p.closed code ∙ (rw (more.0, f.closed) refl)))
]

step : (p : Published) (r : Request) (m : Published) → Fixed p → outcome p r ≡ Ok m → Step p r m
step p (Publish text) m f h = step_publish p text m f h
step p (SetDay day) m f h = step_day p day m f h
step p (Close code) m f h = step_close p code m f h

-- the entries and the closed codes of a sound plan are each there once
fixed_in : (p : Published) → IsSoundPlan p → Fixed p
fixed_in p s = record {
  airlines = airlines_once p.airlines s.airlines;
  rates = rates_once p.rates s.rates;
  periods = periods_once p.periods s.periods;
  commission_taxes = taxes_once p.commission_taxes s.commission_taxes;
  closed = airlines_once p.closed (subst (AreDistinct same_code) (sym s.closed_first) (codes_apart p.periods (length p.closed) s.periods));
}

-- ---- many requests

last_day_more : (r : Request) (rs : List Request) (first mid day : CivilDay) → mid ≡ day_after first r → IsLastDay mid rs day → IsLastDay first (r ∷ rs) day
last_day_more r rs first mid day is (inl (before, (after, split, none))) = inl (r ∷ before, (after, ap (λ (xs : List Request). r ∷ xs) split, none))
last_day_more (Publish text) rs first mid day is (inr (none, same)) = inr (none, same ∙ is)
last_day_more (SetDay other) rs first mid day is (inr (none, same)) = inl ([], (rs, ap (λ (d : CivilDay). SetDay d ∷ rs) (sym (same ∙ is)), none))
last_day_more (Close code) rs first mid day is (inr (none, same)) = inr (none, same ∙ is)

terms_quiet : (r : Request) (terms : Option Terms) → publishes r ≡ false → terms_after terms r ≡ terms
terms_quiet (Publish text) terms h = absurd (both_ways true h refl)
terms_quiet (SetDay day) terms h = refl
terms_quiet (Close code) terms h = refl

history : (rs : List Request) (p q : Published) → IsSoundPlan p → IsReached p rs q → IsHistory p rs q
history [] p q s is =
    let f = fixed_in p s in
    record {
      airlines = ap (λ (x : Published). x.airlines) is ∙ grown_none same_airline p.airlines f.airlines;
      rates = ap (λ (x : Published). x.rates) is ∙ grown_none same_rate p.rates f.rates;
      periods = ap (λ (x : Published). x.periods) is ∙ grown_none same_period p.periods f.periods;
      commission_taxes = ap (λ (x : Published). x.commission_taxes) is ∙ grown_none same_tax p.commission_taxes f.commission_taxes;
      closed = ap (λ (x : Published). x.closed) is ∙ grown_none same_code p.closed f.closed;
      day = inr (refl, ap (λ (x : Published). x.day) is);
      terms = λ text h. contains_none (Publish text) h;
      no_terms = λ h. ap (λ (x : Published). x.terms) is;
      old_terms = λ t e. ap (λ (x : Published). x.terms) is ∙ e;
    }
history (r ∷ rs) p q s (m, done, rest) =
    let one = step p r m (fixed_in p s) done in
    let w = history rs m q (sound_kept p r m s done) rest in
    record {
      airlines = grown_more same_airline join_airlines p.airlines (airlines_of r) m.airlines (flat_map airlines_of rs) q.airlines one.airlines w.airlines;
      rates = grown_more same_rate join_rates p.rates (rates_of r) m.rates (flat_map rates_of rs) q.rates one.rates w.rates;
      periods = grown_more same_period join_periods p.periods (periods_of r) m.periods (flat_map periods_of rs) q.periods one.periods w.periods;
      commission_taxes = grown_more same_tax join_taxes p.commission_taxes (taxes_of r) m.commission_taxes (flat_map taxes_of rs) q.commission_taxes one.commission_taxes w.commission_taxes;
      closed = grown_more same_code join_codes p.closed (closes_of r) m.closed (flat_map closes_of rs) q.closed one.closed w.closed;
      day = last_day_more r rs p.day m.day q.day one.day w.day;
      terms = λ text h. elim (contains_cases r rs (Publish text) h) [
        | inl here ↦ w.old_terms text.terms (one.terms ∙ ap (terms_after p.terms) here)
        | inr there ↦ w.terms text there
      ];
      no_terms = λ h.
          let parts = or_parts (publishes r) (list_any publishes rs) h in
          w.no_terms parts.1 ∙ (one.terms ∙ terms_quiet r p.terms parts.0);
      old_terms = λ t e. w.old_terms t (one.kept t e);
    }

-- what is reached from a sound plan is the history of that start and its requests
pub history_holds : (start : Published) (requests : List Request) (q : Published) → IsSoundPlan start → IsReached start requests q → IsHistory start requests q
history_holds start requests q s is = history requests start q s is
