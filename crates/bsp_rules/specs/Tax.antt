-- The tax on commission that is taken of a transaction as it is accepted.
use Rattle.std.specs.Prelude.{◌≡◌, ℕ, ℤ, pos, true, false, List, fold, if◌then◌else◌, Option, Some, None}
use Rattle.bsp_fields.specs.CivilDay.{CivilDay}
use Rattle.bsp_calendar.specs.DayOrder.{is_before, is_up_to}
use Rattle.bsp_calendar.specs.Published.{Published, commission_tax_on, is_taxed}
use Rattle.bsp_calendar.specs.declared.entries.Period.{Period}
use Rattle.bsp_ret_records.specs.declared.codes.TransactionCode.{TransactionCode}
use Rattle.bsp_ret_records.specs.declared.codes.TransactionCode.TheVariants.{Tktt, Rfnd, Canx}
use Rattle.bsp_ret_records.specs.declared.transactions.Transaction.{Transaction}
use Rattle.bsp_rules.specs.declared.facts.RelatedDocument.{RelatedDocument}
use Rattle.bsp_rules.specs.declared.rows.Item.{Item}
use Rattle.bsp_rules.specs.Amounts.{commission_amount}
use Rattle.bsp_rules.specs.Commission.{commission_on}

-- the date of issue of a ticket, and of the ticket in a related place
abbrev pub issued_of : Option Item → Option CivilDay
issued_of None = None
issued_of (Some i) = Some i.transaction.issued

abbrev pub ticket_issued : Option RelatedDocument → Option CivilDay
ticket_issued None = None
ticket_issued (Some r) = issued_of r.ticket

abbrev pub earlier_of : CivilDay → Option CivilDay → CivilDay
earlier_of day None = day
earlier_of day (Some other) = if is_before other day then other else day

-- the earliest of a date of issue and those of the related tickets
abbrev pub earliest : CivilDay → List (Option RelatedDocument) → CivilDay
earliest issued related = fold (λ day place. earlier_of day (ticket_issued place)) issued related

-- the tax of the plan that is taken, in hundredths of a percent: a TKTT's on its date of issue, an RFND's on the earlier of its own date of issue and its ticket's, and none of a CANX
unfoldable pub hundredths_for : Transaction → List (Option RelatedDocument) → Published → ℕ
hundredths_for t related p = by_code t.code where
  by_code : TransactionCode → ℕ
  by_code Tktt = commission_tax_on p t.issued
  by_code Rfnd = commission_tax_on p (earliest t.issued related)
  by_code Canx = 0

-- the tax of so many hundredths of a percent of a transaction's commission
abbrev pub tax_on : ℕ → Transaction → ℤ
tax_on hundredths t = commission_on hundredths (commission_amount t.amounts)

-- a transaction of an agent as it is accepted in a period: it lives, and its tax is taken
abbrev pub accepted_item : ℕ → ℕ → Transaction → List (Option RelatedDocument) → Published → Item
accepted_item agent period t related p = record {
  agent = agent;
  period = period;
  transaction = t;
  lives = true;
  tax = tax_on (hundredths_for t related p) t;
  hundredths = hundredths_for t related p;
}

-- in a period of form 1 no tax is taken of what is issued by its last day
abbrev pub UntaxedInForm1 : Type 0
UntaxedInForm1 =
    (t : Transaction) (related : List (Option RelatedDocument)) (p : Published) (q : Period) →
    is_taxed p q ≡ false → is_up_to t.issued q.last ≡ true →
    (hundredths_for t related p ≡ 0) × (tax_on (hundredths_for t related p) t ≡ pos 0)
