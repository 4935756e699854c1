-- What a request makes of the published plan: a plan text, another business day, the close of a period.
use Rattle.std.specs.Prelude.{◌≡◌, ℕ, nat_le, ◌==◌, ◌&&◌, ◌||◌, not, Bool, true, false, List, [], ◌∷◌, ◌++◌, length, drop, if◌then◌else◌, Option, Some, None, Result, Ok, Err}
use Rattle.std.specs.List.{AllPairs, list_all, list_any, filter, find}
use Rattle.std.specs.Str.{bytes_eq}
use Rattle.bsp_fields.specs.FirstFault.{first_fault_or}
use Rattle.bsp_fields.specs.Changes.{change_of}
use Rattle.bsp_fields.specs.CivilDay.{CivilDay}
use Rattle.bsp_calendar.specs.DayOrder.{is_up_to, is_before, is_next_day, same_day}
use Rattle.bsp_calendar.specs.Published.{Published, has_begun, is_among, is_closed}
use Rattle.bsp_fields.specs.declared.change.Change.{Change}
use Rattle.bsp_calendar.specs.declared.entries.CommissionTax.{CommissionTax}
use Rattle.bsp_calendar.specs.declared.entries.Period.{Period}
use Rattle.bsp_calendar.specs.declared.entries.PlanText.{PlanText}
use Rattle.bsp_calendar.specs.declared.entries.Rate.{Rate}
use Rattle.bsp_calendar.specs.declared.entries.Terms.{Terms}
use Rattle.bsp_calendar.specs.declared.fault.PlanFault.{PlanFault}
use Rattle.bsp_calendar.specs.declared.fault.PlanFault.TheVariants.{WrongKey, Differs, OutOfOrder, LateRate, DayBackwards, NotEarliest, NotOver, NoMemory}

-- ---- entries, each once

module _ {A : Type 0} (same : A → A → Bool) where
  -- each of a list once, where it comes first
  abbrev pub once : List A → List A
  once [] = []
  once (x ∷ xs) = x ∷ filter (λ y. not (same x y)) (once xs)

  -- those of `more` that are new beside `xs`, each once
  abbrev pub added : List A → List A → List A
  added xs more = drop (length xs) (once (xs ++ more))

  -- no two of the list have the same key
  abbrev pub AreDistinct : List A → Type 0
  AreDistinct xs = AllPairs (λ x y. same x y ≡ false) xs

  -- two of the list have the same key and differ
  abbrev pub has_conflict : (A → A → Bool) → List A → Bool
  has_conflict differ xs = list_any (λ x. list_any (λ y. same x y && differ x y) xs) xs

abbrev pub same_airline : ℕ → ℕ → Bool
same_airline a b = a == b

abbrev pub same_rate : Rate → Rate → Bool
same_rate r s = (r.airline == s.airline) && same_day r.from s.from

abbrev pub differ_in_rate : Rate → Rate → Bool
differ_in_rate r s = not (r.hundredths == s.hundredths)

abbrev pub same_tax : CommissionTax → CommissionTax → Bool
same_tax t u = same_day t.from u.from

abbrev pub differ_in_tax : CommissionTax → CommissionTax → Bool
differ_in_tax t u = not (t.hundredths == u.hundredths)

abbrev pub same_period : Period → Period → Bool
same_period q r = q.code == r.code

abbrev pub differ_in_days : Period → Period → Bool
differ_in_days q r = not (same_day q.first r.first && (same_day q.last r.last && same_day q.remittance r.remittance))

-- ---- a text that is published

-- the plan with the entries of a text
abbrev pub with_entries : Published → PlanText → Published
with_entries p text = record {
  terms = Some text.terms;
  airlines = once same_airline (p.airlines ++ text.airlines.items);
  rates = once same_rate (p.rates ++ text.rates.items);
  periods = once same_period (p.periods ++ text.periods.items);
  commission_taxes = once same_tax (p.commission_taxes ++ text.commission_taxes.items);
  day = p.day;
  closed = p.closed;
}

-- review days of 1 to 60, and a documents limit of 1 to 1,000,000
abbrev pub terms_within_bounds : Terms → Bool
terms_within_bounds terms =
    (nat_le 1 terms.review_days && nat_le terms.review_days 60)
    && (nat_le 1 terms.documents_limit && nat_le terms.documents_limit 1_000_000)

-- rates up to 10,000
abbrev pub rates_within_bounds : List Rate → Bool
rates_within_bounds rates = list_all (λ r. nat_le r.hundredths 10_000) rates

-- taxes on commission up to 10,000
abbrev pub taxes_within_bounds : List CommissionTax → Bool
taxes_within_bounds taxes = list_all (λ t. nat_le t.hundredths 10_000) taxes

abbrev pub are_within_bounds : PlanText → Bool
are_within_bounds text =
    terms_within_bounds text.terms && (rates_within_bounds text.rates.items && taxes_within_bounds text.commission_taxes.items)

-- each rate is that of a published airline, or of one of the text
abbrev pub have_airlines : Published → PlanText → Bool
have_airlines p text = list_all (λ r. is_among r.airline (p.airlines ++ text.airlines.items)) text.rates.items

abbrev pub differ_in_terms : Option Terms → Terms → Bool
differ_in_terms None terms = false
differ_in_terms (Some old) terms =
    not (bytes_eq old.currency terms.currency
    && ((old.review_days == terms.review_days) && (old.documents_limit == terms.documents_limit)))

-- an entry of the text differs from the published one of its key, or from another of the text
abbrev pub has_difference : Published → PlanText → Bool
has_difference p text =
    differ_in_terms p.terms text.terms
    || (has_conflict same_rate differ_in_rate (p.rates ++ text.rates.items)
    || (has_conflict same_period differ_in_days (p.periods ++ text.periods.items)
    || has_conflict same_tax differ_in_tax (p.commission_taxes ++ text.commission_taxes.items)))

-- the days of a period are in order
abbrev pub has_days_in_order : Period → Bool
has_days_in_order q = is_up_to q.first q.last && is_before q.last q.remittance

-- each period begins on the day after the one before it ended
abbrev pub follow_one_another : List Period → Bool
follow_one_another [] = true
follow_one_another (q ∷ []) = true
follow_one_another (q ∷ r ∷ rs) = is_next_day q.last r.first && follow_one_another (r ∷ rs)

abbrev pub are_in_order : List Period → Bool
are_in_order periods = list_all has_days_in_order periods && follow_one_another periods

-- a new rate does not begin after the business day
abbrev pub has_late_rate : Published → PlanText → Bool
has_late_rate p text = list_any (λ r. is_up_to r.from p.day) (added same_rate p.rates text.rates.items)

-- a new tax on commission does not begin after the business day
abbrev pub has_late_tax : Published → PlanText → Bool
has_late_tax p text = list_any (has_begun p.day) (added same_tax p.commission_taxes text.commission_taxes.items)

-- the plan that a text gives, or the first fault that applies
abbrev pub extended : Published → PlanText → Result Published PlanFault
extended p text =
    first_fault_or
    ((not (are_within_bounds text && have_airlines p text), WrongKey)
    ∷ (has_difference p text, Differs)
    ∷ (not (are_in_order (once same_period (p.periods ++ text.periods.items))), OutOfOrder)
    ∷ (has_late_rate p text || has_late_tax p text, LateRate)
    ∷ [])
    (with_entries p text)

abbrev pub has_terms : Option Terms → Bool
has_terms None = false
has_terms (Some terms) = true

abbrev pub is_empty : {A : Type 0} → List A → Bool
is_empty [] = true
is_empty (x ∷ xs) = false

-- nothing of the text is new
abbrev pub holds_already : Published → PlanText → Bool
holds_already p text =
    has_terms p.terms
    && (is_empty (added same_airline p.airlines text.airlines.items)
    && (is_empty (added same_rate p.rates text.rates.items)
    && (is_empty (added same_period p.periods text.periods.items)
    && is_empty (added same_tax p.commission_taxes text.commission_taxes.items))))

-- ---- the business day, and closing

-- the plan on another business day, or the fault
abbrev pub on_day : Published → CivilDay → Result Published PlanFault
on_day p day = first_fault_or ((is_before day p.day, DayBackwards) ∷ []) (record p { day = day })

-- the earliest period that is not closed
abbrev pub next_open : Published → Option Period
next_open p = find (λ q. not (is_closed p q.code)) p.periods

abbrev pub has_code : ℕ → Option Period → Bool
has_code code None = false
has_code code (Some q) = q.code == code

abbrev pub is_over : Published → Option Period → Bool
is_over p None = false
is_over p (Some q) = is_before q.last p.day

-- the plan with a period closed, or the first fault that applies
abbrev pub with_closed : Published → ℕ → Result Published PlanFault
with_closed p code =
    first_fault_or
    ((not (has_code code (next_open p)), NotEarliest) ∷ (not (is_over p (next_open p)), NotOver) ∷ [])
    (record p { closed = p.closed ++ code ∷ [] })

-- the same, but a period that is closed already stays so
abbrev pub closing : Published → ℕ → Result Published PlanFault
closing p code = if is_closed p code then Ok p else with_closed p code

-- ---- the contracts

-- a request that answers: the plan that was wanted; or its first fault, and the plan as it was
abbrev pub Answers : Result Published PlanFault → Bool → Published → Result Change PlanFault → Published → Type 0
Answers wanted held old (Ok change) new = (wanted ≡ Ok new) × (change ≡ change_of held)
Answers wanted held old (Err fault) new = (wanted ≡ Err fault) × (new ≡ old)

-- the same of a request that needs memory
abbrev pub AnswersOrLacksMemory : Result Published PlanFault → Bool → Published → Result Change PlanFault → Published → Type 0
AnswersOrLacksMemory wanted held old (Err NoMemory) new = new ≡ old
AnswersOrLacksMemory wanted held old result new = Answers wanted held old result new
