-- A text that has nothing new leaves a plan as it was.
use Rattle.std.proofs.Common.{◌≡◌, ℕ, Bool, true, false, List, [], ◌∷◌, ◌++◌, Ok, length, drop, refl, sym, ap, ◌∙◌, nat_eq}
use Rattle.std.specs.Prelude.{Option, Some, None}
use Rattle.std.proofs.lemmas.Bool.{and_parts}
use Rattle.std.proofs.lemmas.Cmp.{nat_eq_equiv}
use Rattle.std.proofs.lemmas.List.{append-nil, drop_at}
use Rattle.bsp_calendar.specs.Published.{Published}
use Rattle.bsp_calendar.specs.Requests.{once, added, same_airline, same_rate, same_period, same_tax, extended, with_entries, has_terms, is_empty, holds_already}
use Rattle.bsp_calendar.specs.SoundPlan.{IsSoundPlan}
use Rattle.bsp_fields.specs.Changes.{change_of}
use Rattle.bsp_fields.specs.declared.change.Change.TheVariants.{Held}
use Rattle.bsp_calendar.specs.declared.entries.Period.{Period}
use Rattle.bsp_calendar.specs.declared.entries.PlanText.{PlanText}
use Rattle.bsp_calendar.specs.declared.entries.Terms.{Terms}
use Rattle.bsp_calendar.proofs.ListedLemmas.{once_more_front}
use Rattle.bsp_calendar.proofs.OutcomeLemmas.{published, terms_kept}
use Rattle.bsp_calendar.proofs.SoundLemmas.{rates_front, taxes_front}

nil_from_empty : {A : Type 0} (xs : List A) → is_empty xs ≡ true → xs ≡ []
nil_from_empty [] h = refl
nil_from_empty (x ∷ xs) h = absurd (cc h)

-- a list to which nothing new is added
none_new : {A : Type 0} (same : A → A → Bool) (xs more new : List A) → once same (xs ++ more) ≡ xs ++ new → is_empty (added same xs more) ≡ true → once same (xs ++ more) ≡ xs
none_new same xs more new front h =
    let rest : drop (length xs) (once same (xs ++ more)) ≡ new = ap (drop (length xs)) front ∙ drop_at xs new (length xs) refl in
    front ∙ (ap (λ ys. xs ++ ys) (nil_from_empty new (sym (ap is_empty rest) ∙ h)) ∙ append-nil xs)

terms_from_test : (o : Option Terms) → has_terms o ≡ true → (t : Terms) × (o ≡ Some t)
terms_from_test None h = absurd (cc h)
terms_from_test (Some t) h = (t, refl)

pub held_same : (p : Published) (text : PlanText) → IsSoundPlan p → extended p text ≡ Ok (with_entries p text) → holds_already p text ≡ true → with_entries p text ≡ p
held_same p text s h held =
    let old_terms = and_parts (has_terms p.terms) _ held in
    let old_airlines = and_parts (is_empty (added same_airline p.airlines text.airlines.items)) _ old_terms.1 in
    let old = and_parts (is_empty (added same_rate p.rates text.rates.items)) _ old_airlines.1 in
    let others = and_parts (is_empty (added same_period p.periods text.periods.items)) (is_empty (added same_tax p.commission_taxes text.commission_taxes.items)) old.1 in
    let (t, some) = terms_from_test p.terms old_terms.0 in
    let terms : Some text.terms ≡ p.terms = terms_kept p text (with_entries p text) (published p text (with_entries p text) h) t some ∙ sym some in
    let (new_airlines, airlines_front) = once_more_front nat_eq nat_eq_equiv (λ (a : ℕ). a) p.airlines text.airlines.items s.airlines in
    let (new_rates, front) = rates_front p.rates text.rates.items s.rates in
    let (new_taxes, of_taxes) = taxes_front p.commission_taxes text.commission_taxes.items s.commission_taxes in
    let (new_periods, periods_front) = once_more_front nat_eq nat_eq_equiv (λ (q : Period). q.code) p.periods text.periods.items s.periods in
    let airlines = none_new same_airline p.airlines text.airlines.items new_airlines airlines_front old_airlines.0 in
    let rates = none_new same_rate p.rates text.rates.items new_rates front old.0 in
    let periods = none_new same_period p.periods text.periods.items new_periods periods_front others.0 in
    let taxes = none_new same_tax p.commission_taxes text.commission_taxes.items new_taxes of_taxes others.1 in
    λ i. record { terms = terms i; airlines = airlines i; rates = rates i; periods = periods i; commission_taxes = taxes i; day = p.day; closed = p.closed }

pub was_held : (b : Bool) → change_of b ≡ Held → b ≡ true
was_held true h = refl
was_held false h = absurd (cc h)
