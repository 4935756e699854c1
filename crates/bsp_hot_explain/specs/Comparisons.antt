-- What a record of a HOT file says beside what those before it give, column by column.
use Rattle.std.specs.Prelude.{ℕ, ℤ, ◌+◌, ◌==◌, Bool, false, true, not, ◌&&◌, List, [], ◌∷◌, ◌++◌, Option, Some, None, is_some, is_none}
use Rattle.std.specs.List.{list_all, find}
use Rattle.std.specs.Ordering.{int_eq}
use Rattle.std.specs.Str.{bytes_eq}
use Rattle.bsp_hot_records.specs.declared.code.DocumentCode.{DocumentCode}
use Rattle.bsp_hot_records.specs.declared.totals.Sums.{Sums}
use Rattle.bsp_hot_records.specs.declared.totals.Totals.{Totals}
use Rattle.bsp_hot_records.specs.declared.model.Heading.{Heading}
use Rattle.bsp_hot_records.specs.declared.model.Part.{Part}
use Rattle.bsp_hot_records.specs.declared.model.Part.TheVariants.{Related}
use Rattle.bsp_hot_records.specs.declared.model.PartOf.{PartOf}
use Rattle.bsp_hot_records.specs.declared.model.Record.{Record}
use Rattle.bsp_hot_records.specs.declared.model.Record.TheVariants as record_is
use Rattle.bsp_hot_records.specs.Sums.{net_of, is_code}
use Rattle.bsp_hot_check.specs.declared.model.Place.{Place}
use Rattle.bsp_hot_check.specs.declared.model.Place.TheVariants.{Start, Headed, Between, Begun, InDocument, Closed}
use Rattle.bsp_hot_check.specs.declared.model.Standing.{Standing}
use Rattle.bsp_hot_check.specs.Standings.{is_at, is_totalled, takes, takes_related, takes_transaction, next_code, sums_at, key_of, is_key_after, is_agent_after}
use Rattle.bsp_explain.specs.declared.name.Name.{Name}
use Rattle.bsp_explain.specs.declared.name.Name.TheVariants as name
use Rattle.bsp_hot_explain.specs.declared.comparison.Value.{Value}
use Rattle.bsp_hot_explain.specs.declared.comparison.Value.TheVariants as value
use Rattle.bsp_hot_explain.specs.declared.comparison.Comparison.{Comparison}

abbrev pub same_value : Value → Value → Bool
same_value (value.Airline a) (value.Airline b) = a == b
same_value (value.Period a) (value.Period b) = a == b
same_value (value.Agent a) (value.Agent b) = a == b
same_value (value.Currency a) (value.Currency b) = bytes_eq a b
same_value (value.Transaction a) (value.Transaction b) = a == b
same_value (value.Code a) (value.Code b) = is_code b a
same_value (value.Count a) (value.Count b) = a == b
same_value (value.Amount a) (value.Amount b) = int_eq a b
same_value _ _ = false

abbrev pub is_same : Comparison → Bool
is_same c = same_value c.stated c.given

unfoldable pub all_same : List Comparison → Bool
all_same comparisons = list_all is_same comparisons

-- the first whose two values differ
unfoldable pub first_differing : List Comparison → Option Comparison
first_differing comparisons = find (λ c. not (is_same c)) comparisons

abbrev pub comparison_of : Option DocumentCode → ℕ → ℕ → Name → Value → Value → Comparison
comparison_of items first last what stated given = record { first = first; last = last; name = what; stated = stated; given = given; items = items }

abbrev pub comparison : ℕ → ℕ → Name → Value → Value → Comparison
comparison first last what stated given = comparison_of None first last what stated given

-- what the records before give, and of what they do not give the record's own
abbrev pub airline_or : Option Heading → ℕ → ℕ
airline_or None airline = airline
airline_or (Some h) airline = h.airline

abbrev pub period_or : Option Heading → ℕ → ℕ
period_or None period = period
period_or (Some h) period = h.period

abbrev pub currency_or : Option Heading → List ℕ → List ℕ
currency_or None currency = currency
currency_or (Some h) currency = h.currency

abbrev pub agent_or : Option ℕ → ℕ → ℕ
agent_or None agent = agent
agent_or (Some x) agent = x

abbrev pub code_or : Option DocumentCode → DocumentCode → DocumentCode
code_or None code = code
code_or (Some c) code = c

-- an amount in the 15 columns from a first one on, of all items, or of those of one code
abbrev pub amount_comparison : Option DocumentCode → ℕ → Name → ℤ → ℤ → Comparison
amount_comparison items first what stated given = comparison_of items first (first + 14) what (value.Amount stated) (value.Amount given)

-- the number of documents, cash, credit, commission, net and tax on commission, from a first column on
abbrev pub totals_comparisons : Option DocumentCode → ℕ → Totals → Sums → List Comparison
totals_comparisons items first t s =
    comparison_of items first (first + 7) name.Documents (value.Count t.sums.documents) (value.Count s.documents)
    ∷ amount_comparison items (first + 8) name.Cash t.sums.cash s.cash
    ∷ amount_comparison items (first + 23) name.Credit t.sums.credit s.credit
    ∷ amount_comparison items (first + 38) name.Commission t.sums.commission s.commission
    ∷ amount_comparison items (first + 53) name.Net t.net (net_of s)
    ∷ amount_comparison items (first + 68) name.CommissionTax t.sums.tax s.tax
    ∷ []

-- of a record after BKS24
abbrev pub part_comparisons : Standing → PartOf → List Comparison
part_comparisons at y = comparison 14 21 name.TransactionNumber (value.Transaction y.transaction) (value.Transaction at.transactions) ∷ []

abbrev pub related_comparisons : Option Heading → Part → List Comparison
related_comparisons heading (Related other) =
    comparison 22 24 name.Airline (value.Airline other.airline) (value.Airline (airline_or heading other.airline)) ∷ []
related_comparisons heading _ = []

-- what a record says beside what those before it give, in the order of the columns
abbrev pub comparisons : Standing → Record → List Comparison
comparisons at (record_is.FileHeader h) = []
comparisons at (record_is.PeriodHeader period) =
    comparison 14 18 name.Period (value.Period period) (value.Period (period_or at.heading period)) ∷ []
comparisons at (record_is.OfficeHeader o) =
    comparison 22 26 name.Period (value.Period o.period) (value.Period (period_or at.heading o.period))
    ∷ comparison 27 29 name.Currency (value.Currency o.currency) (value.Currency (currency_or at.heading o.currency))
    ∷ []
comparisons at (record_is.TransactionHeader t) =
    comparison 14 21 name.TransactionNumber (value.Transaction t.transaction) (value.Transaction (at.transactions + 1))
    ∷ comparison 22 24 name.Airline (value.Airline t.airline) (value.Airline (airline_or at.heading t.airline))
    ∷ []
comparisons at (record_is.Document d) =
    comparison 14 21 name.TransactionNumber (value.Transaction d.transaction) (value.Transaction at.transactions)
    ∷ comparison 43 50 name.Agent (value.Agent d.agent) (value.Agent (agent_or at.agent d.agent))
    ∷ []
comparisons at (record_is.PartOf y) = part_comparisons at y ++ related_comparisons at.heading y.part
comparisons at (record_is.CodeTotals t) =
    (comparison 14 21 name.Agent (value.Agent t.agent) (value.Agent (agent_or at.agent t.agent))
    ∷ comparison 22 25 name.DocumentCode (value.Code t.code) (value.Code (code_or (next_code at.office.codes at.place) t.code))
    ∷ []) ++ totals_comparisons (Some t.code) 26 t.totals (sums_at at.office.codes t.code)
comparisons at (record_is.OfficeTotals t) =
    (comparison 14 21 name.Agent (value.Agent t.agent) (value.Agent (agent_or at.agent t.agent)) ∷ [])
    ++ totals_comparisons None 22 t.totals at.office.all
comparisons at (record_is.PeriodTotals t) =
    (comparison 14 18 name.Period (value.Period t.period) (value.Period (period_or at.heading t.period))
    ∷ comparison 19 26 name.Offices (value.Count t.offices) (value.Count at.offices)
    ∷ []) ++ totals_comparisons None 27 t.totals at.file
comparisons at (record_is.FileTotals t) =
    (comparison 14 16 name.Airline (value.Airline t.airline) (value.Airline (airline_or at.heading t.airline))
    ∷ comparison 17 24 name.RecordCount (value.Count t.records) (value.Count (at.records + 1))
    ∷ []) ++ totals_comparisons None 25 t.totals at.file

-- a further record of a document, whatever the airline of a related document
abbrev pub part_in_place : Place → Option Heading → Part → Bool
part_in_place (InDocument x) (Some h) (Related other) = takes_related x other.number
part_in_place (InDocument x) (Some h) y = takes h.airline x y
part_in_place _ _ y = false

-- a record of this name may come here
abbrev pub is_in_place : Standing → Record → Bool
is_in_place at (record_is.FileHeader h) = is_at Start at.place
is_in_place at (record_is.PeriodHeader period) = is_at Headed at.place && is_some at.heading
is_in_place at (record_is.OfficeHeader o) = is_at Between at.place && is_some at.heading
is_in_place at (record_is.TransactionHeader t) = takes_transaction at.place && is_some at.heading
is_in_place at (record_is.Document d) = is_at Begun at.place && is_some at.agent
is_in_place at (record_is.PartOf y) = part_in_place at.place at.heading y.part
is_in_place at (record_is.CodeTotals t) = is_some (next_code at.office.codes at.place) && is_some at.agent
is_in_place at (record_is.OfficeTotals t) = is_totalled at.place && is_none (next_code at.office.codes at.place) && is_some at.agent
is_in_place at (record_is.PeriodTotals t) = is_at Between at.place && is_some at.heading
is_in_place at (record_is.FileTotals t) = is_at Closed at.place && is_some at.heading

-- an office's agent comes after the one before, and a document after the one before it in its office
abbrev pub is_in_order : Standing → Record → Bool
is_in_order at (record_is.OfficeHeader o) = is_agent_after at.agent o.agent
is_in_order at (record_is.Document d) = is_key_after at.office.latest (key_of d)
is_in_order at _ = true
