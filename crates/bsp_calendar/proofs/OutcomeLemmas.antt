-- What an accepted request passed, and the plan that it made.
use Rattle.std.proofs.Common.{◌≡◌, ℕ, ◌==◌, ◌&&◌, ◌||◌, ◌⊎◌, Bool, true, false, not, [], ◌∷◌, ◌++◌, Ok, cond, refl, ap, sym, ◌∙◌, inl, inr}
use Rattle.std.specs.Prelude.{Option, Some, if◌then◌else◌}
use Rattle.std.specs.Str.{bytes_eq}
use Rattle.std.proofs.lemmas.Bool.{and_parts, or_parts, not-false, eqb-true}
use Rattle.std.proofs.lemmas.Slice.Eq.{bytes_eq-Decides}
use Rattle.bsp_fields.specs.CivilDay.{CivilDay}
use Rattle.bsp_fields.specs.FirstFault.{first_fault_or}
use Rattle.bsp_fields.proofs.FirstFaultLemmas.{row_passed, value_told}
use Rattle.bsp_calendar.specs.DayOrder.{is_before}
use Rattle.bsp_calendar.specs.Published.{Published, is_closed}
use Rattle.bsp_calendar.specs.Requests.{once, same_rate, same_period, same_tax, differ_in_rate, differ_in_days, differ_in_tax, differ_in_terms, has_conflict, are_within_bounds, have_airlines, has_difference, are_in_order, has_late_rate, has_late_tax, extended, with_entries, on_day, has_code, is_over, next_open, closing, with_closed}
use Rattle.bsp_calendar.specs.declared.entries.PlanText.{PlanText}
use Rattle.bsp_calendar.specs.declared.entries.Terms.{Terms}
use Rattle.bsp_calendar.specs.declared.fault.PlanFault.TheVariants.{WrongKey, Differs, OutOfOrder, LateRate, DayBackwards, NotEarliest, NotOver}

-- ---- tables with a value: no row applies

passed_one : {V F : Type 0} (a : Bool) (e : F) (v x : V) → first_fault_or ((a, e) ∷ []) v ≡ Ok x → (a ≡ false) × (v ≡ x)
passed_one a e v x h = let first = row_passed a e [] v x h in (first.0, value_told v x first.1)

passed_two : {V F : Type 0} (a b : Bool) (e f : F) (v x : V) → first_fault_or ((a, e) ∷ (b, f) ∷ []) v ≡ Ok x → (a ≡ false) × (b ≡ false) × (v ≡ x)
passed_two a b e f v x h =
    let first = row_passed a e ((b, f) ∷ []) v x h in
    let rest = passed_one b f v x first.1 in
    (first.0, rest.0, rest.1)

passed_four : {V F : Type 0} (a b c d : Bool) (e f g h : F) (v x : V) → first_fault_or ((a, e) ∷ (b, f) ∷ (c, g) ∷ (d, h) ∷ []) v ≡ Ok x → (a ≡ false) × (b ≡ false) × (c ≡ false) × (d ≡ false) × (v ≡ x)
passed_four a b c d e f g h v x told =
    let first = row_passed a e ((b, f) ∷ (c, g) ∷ (d, h) ∷ []) v x told in
    let second = row_passed b f ((c, g) ∷ (d, h) ∷ []) v x first.1 in
    let rest = passed_two c d g h v x second.1 in
    (first.0, second.0, rest.0, rest.1, rest.2)

-- ---- a text

pub record IsPublished (p : Published) (text : PlanText) (m : Published) : Type 0 where
  pub bounds : are_within_bounds text ≡ true
  pub airlines : have_airlines p text ≡ true
  pub terms : differ_in_terms p.terms text.terms ≡ false
  pub rates : has_conflict same_rate differ_in_rate (p.rates ++ text.rates.items) ≡ false
  pub periods : has_conflict same_period differ_in_days (p.periods ++ text.periods.items) ≡ false
  pub commission_taxes : has_conflict same_tax differ_in_tax (p.commission_taxes ++ text.commission_taxes.items) ≡ false
  pub in_order : are_in_order (once same_period (p.periods ++ text.periods.items)) ≡ true
  pub none_late : has_late_rate p text ≡ false
  pub no_tax_late : has_late_tax p text ≡ false
  pub is : with_entries p text ≡ m

pub published : (p : Published) (text : PlanText) (m : Published) → extended p text ≡ Ok m → IsPublished p text m
published p text m h =
    let told = passed_four (not (are_within_bounds text && have_airlines p text)) (has_difference p text) (not (are_in_order (once same_period (p.periods ++ text.periods.items)))) (has_late_rate p text || has_late_tax p text) WrongKey Differs OutOfOrder LateRate (with_entries p text) m h in
    let first = and_parts (are_within_bounds text) (have_airlines p text) (not-false _ told.0) in
    let conflict = or_parts (differ_in_terms p.terms text.terms) _ told.1 in
    let entries = or_parts (has_conflict same_rate differ_in_rate (p.rates ++ text.rates.items)) _ conflict.1 in
    let others = or_parts (has_conflict same_period differ_in_days (p.periods ++ text.periods.items)) (has_conflict same_tax differ_in_tax (p.commission_taxes ++ text.commission_taxes.items)) entries.1 in
    let late = or_parts (has_late_rate p text) (has_late_tax p text) told.3 in
    record {
      bounds = first.0;
      airlines = first.1;
      terms = conflict.0;
      rates = entries.0;
      periods = others.0;
      commission_taxes = others.1;
      in_order = not-false _ told.2;
      none_late = late.0;
      no_tax_late = late.1;
      is = told.4;
    }

terms_from : (s t : Terms) → s.currency ≡ t.currency → s.review_days ≡ t.review_days → s.documents_limit ≡ t.documents_limit → s ≡ t
terms_from s t c r d = λ i. record { currency = c i; review_days = r i; documents_limit = d i }

-- terms that do not differ from those published
pub same_terms : (s t : Terms) → differ_in_terms (Some s) t ≡ false → s ≡ t
same_terms s t h =
    let all = not-false _ h in
    let outer = and_parts (bytes_eq s.currency t.currency) ((s.review_days == t.review_days) && (s.documents_limit == t.documents_limit)) all in
    let inner = and_parts (s.review_days == t.review_days) (s.documents_limit == t.documents_limit) outer.1 in
    terms_from s t ((bytes_eq-Decides s.currency t.currency).0 outer.0) (eqb-true s.review_days t.review_days inner.0) (eqb-true s.documents_limit t.documents_limit inner.1)

-- published terms stay
pub terms_kept : (p : Published) (text : PlanText) (m : Published) → IsPublished p text m → (t : Terms) → p.terms ≡ Some t → m.terms ≡ Some t
terms_kept p text m h t e =
    ap (λ (q : Published). q.terms) (sym h.is)
    ∙ ap (λ (u : Terms). Some u) (sym (same_terms t text.terms (sym (ap (λ (o : Option Terms). differ_in_terms o text.terms) e) ∙ h.terms)))

-- ---- the business day

pub day_set : (p : Published) (day : CivilDay) (m : Published) → on_day p day ≡ Ok m → (is_before day p.day ≡ false) × (record p { day = day } ≡ m)
day_set p day m h = passed_one (is_before day p.day) DayBackwards (record p { day = day }) m h

-- ---- a close

-- the plan with one more closed period, which is the earliest open one and over
pub record IsClosing (p : Published) (code : ℕ) (m : Published) : Type 0 where
  pub earliest : has_code code (next_open p) ≡ true
  pub over : is_over p (next_open p) ≡ true
  pub is : record p { closed = p.closed ++ code ∷ [] } ≡ m

pub closed_one : (p : Published) (code : ℕ) (m : Published) → with_closed p code ≡ Ok m → IsClosing p code m
closed_one p code m h =
    let told = passed_two (not (has_code code (next_open p))) (not (is_over p (next_open p))) NotEarliest NotOver (record p { closed = p.closed ++ code ∷ [] }) m h in
    record { earliest = not-false _ told.0; over = not-false _ told.1; is = told.2 }

-- what an accepted close leaves, by whether the period was closed: the plan as it was, or one more closed period
pub closed_by : (p : Published) (code : ℕ) (m : Published) → (b : Bool) → is_closed p code ≡ b → closing p code ≡ Ok m → cond b (p ≡ m) (IsClosing p code m)
closed_by p code m true is h = let e : Ok p ≡ Ok m = sym (ap (λ b. if b then Ok p else with_closed p code) is) ∙ h in cc
closed_by p code m false is h = closed_one p code m (sym (ap (λ b. if b then Ok p else with_closed p code) is) ∙ h)

pub closed_now : (p : Published) (code : ℕ) (m : Published) → closing p code ≡ Ok m → ((is_closed p code ≡ true) × (p ≡ m)) ⊎ ((is_closed p code ≡ false) × IsClosing p code m)
closed_now p code m h = by (is_closed p code) refl where
  by : (b : Bool) → is_closed p code ≡ b → ((is_closed p code ≡ true) × (p ≡ m)) ⊎ ((is_closed p code ≡ false) × IsClosing p code m)
  by true is = inl (is, closed_by p code m true is h)
  by false is = inr (is, closed_by p code m false is h)
