-- A record is allowed if and only if it may come here, says what those before it give, and is in order.
use Rattle.std.proofs.Common.{◌≡◌, ℕ, ◌+◌, Bool, true, false, ◌&&◌, List, [], ◌∷◌, ◌++◌, Option, Some, None, refl, ap, ◌∙◌, is_some, IsSome}
use Rattle.std.specs.Prelude.{◌==◌, is_none}
use Rattle.std.specs.Ordering.{int_eq}
use Rattle.std.proofs.Math.Bool.{and_assoc}
use Rattle.bsp_hot_records.specs.declared.code.DocumentCode.{DocumentCode}
use Rattle.bsp_hot_records.specs.declared.totals.Sums.{Sums}
use Rattle.bsp_hot_records.specs.declared.totals.Totals.{Totals}
use Rattle.bsp_hot_records.specs.declared.model.Heading.{Heading}
use Rattle.bsp_hot_records.specs.declared.model.Part.{Part}
use Rattle.bsp_hot_records.specs.declared.model.Part.TheVariants.{Amounts, Commission, CommissionTax, Related, Cash, Credit, Exchange}
use Rattle.bsp_hot_records.specs.declared.model.Record.{Record}
use Rattle.bsp_hot_records.specs.declared.model.Record.TheVariants as record_is
use Rattle.bsp_hot_records.specs.Sums.{has_totals, is_same as are_same, net_of, is_code}
use Rattle.bsp_hot_check.specs.declared.model.Place.{Place}
use Rattle.bsp_hot_check.specs.declared.model.Place.TheVariants.{Start, Headed, Between, Opened, Begun, InDocument, Totalled, Closed, Ended}
use Rattle.bsp_hot_check.specs.declared.model.Standing.{Standing}
use Rattle.bsp_hot_check.specs.Standings.{allowed, step, part_step, is_at, is_totalled, is_airline, is_period, is_currency, is_agent, is_agent_after, is_key_after, is_next, key_of, next_code, sums_at, takes_transaction}
use Rattle.bsp_explain.specs.declared.name.Name.TheVariants as name
use Rattle.bsp_hot_explain.specs.declared.comparison.Comparison.{Comparison}
use Rattle.bsp_hot_explain.specs.declared.comparison.Value.TheVariants as value
use Rattle.bsp_hot_explain.proofs.Differing.{none_differs, some_differs}
use Rattle.bsp_hot_explain.specs.Comparisons.{first_differing, comparison, comparisons, totals_comparisons, part_comparisons, related_comparisons, airline_or, period_or, currency_or, agent_or, code_or, all_same, is_in_place, is_in_order, part_in_place}

allowed_some : (test : Bool) (at : Standing) → is_some (allowed test at) ≡ test
allowed_some true at = refl
allowed_some false at = refl

and_false : (b : Bool) → (b && false) ≡ false
and_false true = refl
and_false false = refl

-- ---- totals

six_tests : (d c r m x n : Bool) → (d && c && r && m && x && n) ≡ (d && (c && (r && (m && (n && (x && true))))))
six_tests false c r m x n = refl
six_tests true false r m x n = refl
six_tests true true false m x n = refl
six_tests true true true false x n = refl
six_tests true true true true true true = refl
six_tests true true true true true false = refl
six_tests true true true true false true = refl
six_tests true true true true false false = refl

totals_are : (items : Option DocumentCode) (first : ℕ) (t : Totals) (s : Sums) → has_totals s t ≡ all_same (totals_comparisons items first t s)
unfolding has_totals are_same all_same
totals_are items first t s =
    six_tests (t.sums.documents == s.documents) (int_eq t.sums.cash s.cash) (int_eq t.sums.credit s.credit) (int_eq t.sums.commission s.commission) (int_eq t.sums.tax s.tax) (int_eq t.net (net_of s))

-- ---- each record

headed : (p : Bool) → p ≡ (p && true)
headed true = refl
headed false = refl

never : (p q : Bool) → (p && false) ≡ ((p && false) && q)
never true q = refl
never false q = refl

file_steps : (p : Bool) → p ≡ (p && (all_same [] && true))
unfolding all_same
file_steps p = headed p

three_tests : (p q r : Bool) → (p && q && r) ≡ ((p && true) && ((q && (r && true)) && true))
three_tests false q r = refl
three_tests true false r = refl
three_tests true true true = refl
three_tests true true false = refl

two_tests : (p q : Bool) → (p && q) ≡ ((p && true) && ((q && true) && true))
two_tests false q = refl
two_tests true true = refl
two_tests true false = refl

period_steps : (p : Bool) (heading : Option Heading) (period : ℕ) → (p && is_period heading period) ≡ ((p && is_some heading) && (all_same (comparison 14 18 name.Period (value.Period period) (value.Period (period_or heading period)) ∷ []) && true))
unfolding all_same
period_steps p None period = never p _
period_steps p (Some h) period = two_tests p (period == h.period)

-- the order of agents comes first in one and last in the other
office_tests : (p a e c : Bool) → (p && a && e && c) ≡ ((p && true) && ((e && (c && true)) && a))
office_tests false a e c = refl
office_tests true false true true = refl
office_tests true false true false = refl
office_tests true false false c = refl
office_tests true true true true = refl
office_tests true true true false = refl
office_tests true true false c = refl

no_office_tests : (p a q : Bool) → (p && a && false && false) ≡ ((p && false) && q)
no_office_tests true true q = refl
no_office_tests true false q = refl
no_office_tests false a q = refl

office_steps : (p a : Bool) (heading : Option Heading) (period : ℕ) (currency : List ℕ) → (p && a && is_period heading period && is_currency heading currency)
    ≡ ((p && is_some heading) && (all_same (comparison 22 26 name.Period (value.Period period) (value.Period (period_or heading period)) ∷ comparison 27 29 name.Currency (value.Currency currency) (value.Currency (currency_or heading currency)) ∷ []) && a))
unfolding all_same
office_steps p a None period currency = no_office_tests p a _
office_steps p a (Some h) period currency = office_tests p a _ _

transaction_none : (p q r : Bool) → (p && q && false) ≡ ((p && false) && r)
transaction_none true true r = refl
transaction_none true false r = refl
transaction_none false q r = refl

transaction_steps : (p : Bool) (heading : Option Heading) (stated next airline : ℕ) → (p && (stated == next) && is_airline heading airline)
    ≡ ((p && is_some heading) && (all_same (comparison 14 21 name.TransactionNumber (value.Transaction stated) (value.Transaction next) ∷ comparison 22 24 name.Airline (value.Airline airline) (value.Airline (airline_or heading airline)) ∷ []) && true))
unfolding all_same
transaction_steps p None stated next airline = transaction_none p _ _
transaction_steps p (Some h) stated next airline = three_tests p _ _

document_tests : (p t a k : Bool) → (p && t && a && k) ≡ ((p && true) && ((t && (a && true)) && k))
document_tests false t a k = refl
document_tests true false a k = refl
document_tests true true false k = refl
document_tests true true true k = refl

no_document_tests : (p t k q : Bool) → (p && t && false && k) ≡ ((p && false) && q)
no_document_tests true true k q = refl
no_document_tests true false k q = refl
no_document_tests false t k q = refl

document_steps : (p k : Bool) (office : Option ℕ) (stated next agent : ℕ) → (p && (stated == next) && is_agent office agent && k)
    ≡ ((p && is_some office) && (all_same (comparison 14 21 name.TransactionNumber (value.Transaction stated) (value.Transaction next) ∷ comparison 43 50 name.Agent (value.Agent agent) (value.Agent (agent_or office agent)) ∷ []) && k))
unfolding all_same
document_steps p k None stated next agent = no_document_tests p _ k _
document_steps p k (Some x) stated next agent = document_tests p _ _ k

-- ---- records of a document

part_tests : (t n : Bool) → (t && n) ≡ (t && ((n && true) && true))
part_tests true true = refl
part_tests true false = refl
part_tests false n = refl

related_tests : (t a n : Bool) → (t && a && n) ≡ (t && ((n && (a && true)) && true))
related_tests false a n = refl
related_tests true true true = refl
related_tests true true false = refl
related_tests true false true = refl
related_tests true false false = refl

part_steps_at : (at : Standing) (place : Place) (heading : Option Heading) (n : ℕ) (x : Part) → is_some (part_step at place heading (record { transaction = n; part = x }))
    ≡ (part_in_place place heading x && (all_same (part_comparisons at (record { transaction = n; part = x }) ++ related_comparisons heading x) && true))
unfolding all_same
part_steps_at at (InDocument p) (Some h) n (Related other) = allowed_some _ _ ∙ related_tests _ _ _
part_steps_at at (InDocument p) (Some h) n (Amounts taxed) = allowed_some _ _ ∙ part_tests _ _
part_steps_at at (InDocument p) (Some h) n (Commission amount) = allowed_some _ _ ∙ part_tests _ _
part_steps_at at (InDocument p) (Some h) n (CommissionTax amount) = allowed_some _ _ ∙ part_tests _ _
part_steps_at at (InDocument p) (Some h) n (Cash amount) = allowed_some _ _ ∙ part_tests _ _
part_steps_at at (InDocument p) (Some h) n (Credit amount) = allowed_some _ _ ∙ part_tests _ _
part_steps_at at (InDocument p) (Some h) n Exchange = allowed_some _ _ ∙ part_tests _ _
part_steps_at at (InDocument p) None n x = refl
part_steps_at at Start heading n x = refl
part_steps_at at Headed heading n x = refl
part_steps_at at Between heading n x = refl
part_steps_at at Opened heading n x = refl
part_steps_at at Begun heading n x = refl
part_steps_at at (Totalled c) heading n x = refl
part_steps_at at Closed heading n x = refl
part_steps_at at Ended heading n x = refl

-- ---- totals after other columns

code_tests : (n a t : Bool) → (n && a && t) ≡ (a && (n && t))
code_tests true a t = refl
code_tests false true t = refl
code_tests false false t = refl

last_true : (b : Bool) → b ≡ (b && true)
last_true true = refl
last_true false = refl

code_steps : (next : Option DocumentCode) (office : Option ℕ) (agent : ℕ) (code : DocumentCode) (t : Totals) (s : Sums) → (is_next next code && is_agent office agent && has_totals s t)
    ≡ ((is_some next && is_some office) && (all_same ((comparison 14 21 name.Agent (value.Agent agent) (value.Agent (agent_or office agent)) ∷ comparison 22 25 name.DocumentCode (value.Code code) (value.Code (code_or next code)) ∷ []) ++ totals_comparisons (Some code) 26 t s) && true))
unfolding all_same
code_steps None office agent code t s = refl
code_steps (Some c) None agent code t s = ap (λ b. b && has_totals s t) (and_false (is_code c code))
code_steps (Some c) (Some x) agent code t s =
    code_tests (is_code c code) (agent == x) (has_totals s t)
    ∙ ap (λ (h : Bool). (agent == x) && (is_code c code && h)) (totals_are (Some code) 26 t s)
    ∙ last_true ((agent == x) && (is_code c code && all_same (totals_comparisons (Some code) 26 t s)))

office_total_steps : (p q : Bool) (office : Option ℕ) (agent : ℕ) (t : Totals) (s : Sums) → (p && q && is_agent office agent && has_totals s t)
    ≡ ((p && q && is_some office) && (all_same ((comparison 14 21 name.Agent (value.Agent agent) (value.Agent (agent_or office agent)) ∷ []) ++ totals_comparisons None 22 t s) && true))
unfolding all_same
office_total_steps false q office agent t s = refl
office_total_steps true false office agent t s = refl
office_total_steps true true None agent t s = refl
office_total_steps true true (Some x) agent t s = rw (totals_are None 22 t s) (last_true _)

period_total_steps : (p : Bool) (heading : Option Heading) (period offices count : ℕ) (t : Totals) (s : Sums) → (p && is_period heading period && (offices == count) && has_totals s t)
    ≡ ((p && is_some heading) && (all_same ((comparison 14 18 name.Period (value.Period period) (value.Period (period_or heading period)) ∷ comparison 19 26 name.Offices (value.Count offices) (value.Count count) ∷ []) ++ totals_comparisons None 27 t s) && true))
unfolding all_same
period_total_steps false heading period offices count t s = refl
period_total_steps true None period offices count t s = refl
period_total_steps true (Some h) period offices count t s =
    ap (λ (b : Bool). (period == h.period) && (offices == count) && b) (totals_are None 27 t s)
    ∙ and_assoc (period == h.period) (offices == count) (all_same (totals_comparisons None 27 t s))
    ∙ last_true ((period == h.period) && ((offices == count) && all_same (totals_comparisons None 27 t s)))

file_total_steps : (p : Bool) (heading : Option Heading) (airline records count : ℕ) (t : Totals) (s : Sums) → (p && is_airline heading airline && (records == count) && has_totals s t)
    ≡ ((p && is_some heading) && (all_same ((comparison 14 16 name.Airline (value.Airline airline) (value.Airline (airline_or heading airline)) ∷ comparison 17 24 name.RecordCount (value.Count records) (value.Count count) ∷ []) ++ totals_comparisons None 25 t s) && true))
unfolding all_same
file_total_steps false heading airline records count t s = refl
file_total_steps true None airline records count t s = refl
file_total_steps true (Some h) airline records count t s =
    ap (λ (b : Bool). (airline == h.airline) && (records == count) && b) (totals_are None 25 t s)
    ∙ and_assoc (airline == h.airline) (records == count) (all_same (totals_comparisons None 25 t s))
    ∙ last_true ((airline == h.airline) && ((records == count) && all_same (totals_comparisons None 25 t s)))

-- ---- all records

pub steps_when : (at : Standing) (r : Record) → is_some (step at r) ≡ (is_in_place at r && (all_same (comparisons at r) && is_in_order at r))
unfolding step
steps_when at (record_is.FileHeader h) = allowed_some _ _ ∙ file_steps (is_at Start at.place)
steps_when at (record_is.PeriodHeader period) = allowed_some _ _ ∙ period_steps (is_at Headed at.place) at.heading period
steps_when at (record_is.OfficeHeader o) =
    allowed_some _ _ ∙ office_steps (is_at Between at.place) (is_agent_after at.agent o.agent) at.heading o.period o.currency
steps_when at (record_is.TransactionHeader t) =
    allowed_some _ _ ∙ transaction_steps (takes_transaction at.place) at.heading t.transaction (at.transactions + 1) t.airline
steps_when at (record_is.Document d) =
    allowed_some _ _ ∙ document_steps (is_at Begun at.place) (is_key_after at.office.latest (key_of d)) at.agent d.transaction at.transactions d.agent
steps_when at (record_is.PartOf y) = part_steps_at at at.place at.heading y.transaction y.part
steps_when at (record_is.CodeTotals t) =
    allowed_some _ _ ∙ code_steps (next_code at.office.codes at.place) at.agent t.agent t.code t.totals (sums_at at.office.codes t.code)
steps_when at (record_is.OfficeTotals t) =
    allowed_some _ _ ∙ office_total_steps (is_totalled at.place) (is_none (next_code at.office.codes at.place)) at.agent t.agent t.totals at.office.all
steps_when at (record_is.PeriodTotals t) =
    allowed_some _ _ ∙ period_total_steps (is_at Between at.place) at.heading t.period t.offices at.offices t.totals at.file
steps_when at (record_is.FileTotals t) =
    allowed_some _ _ ∙ file_total_steps (is_at Closed at.place) at.heading t.airline t.records (at.records + 1) t.totals at.file

-- ---- an option that is there or not

pub none_of : (o : Option Standing) (b : Bool) → is_some o ≡ b → b ≡ false → o ≡ None
none_of None b is lacks = refl
none_of (Some at) b is lacks = absurd (cc (is, lacks))

pub out_of_place : (at : Standing) (r : Record) → is_in_place at r ≡ false → step at r ≡ None
out_of_place at r out = none_of (step at r) _ (steps_when at r) (rw out refl)

same_or_not : (a b c : Bool) → b ≡ false → (a && (b && c)) ≡ false
same_or_not true b c lacks = rw lacks refl
same_or_not false b c lacks = refl

pub differing_stops : (at : Standing) (r : Record) (c : Comparison) → first_differing (comparisons at r) ≡ Some c → step at r ≡ None
differing_stops at r c differs =
    none_of (step at r) _ (steps_when at r) (same_or_not _ _ _ (some_differs (comparisons at r) c differs))

last_or_not : (a b c : Bool) → c ≡ false → (a && (b && c)) ≡ false
last_or_not true true c lacks = lacks
last_or_not true false c lacks = refl
last_or_not false b c lacks = refl

pub out_of_order : (at : Standing) (r : Record) → is_in_order at r ≡ false → step at r ≡ None
out_of_order at r out = none_of (step at r) _ (steps_when at r) (last_or_not _ _ _ out)

some_of : (o : Option Standing) (b : Bool) → is_some o ≡ b → b ≡ true → IsSome o
some_of (Some at) b is holds = refl
some_of None b is holds = absurd (cc (is, holds))

pub allowed_steps : (at : Standing) (r : Record) → is_in_place at r ≡ true → first_differing (comparisons at r) ≡ None → is_in_order at r ≡ true → IsSome (step at r)
allowed_steps at r place same order = some_of (step at r) _ (steps_when at r) (rw (place, none_differs (comparisons at r) same, order) refl)
