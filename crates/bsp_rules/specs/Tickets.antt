-- The amounts of a transaction against those of its related tickets.
use Rattle.std.specs.Prelude.{◌==◌, ℤ, pos, ◌-ℤ◌, nat_le, Bool, false, ◌&&◌, not, List, map, Option, Some, None, is_some, unsigned_abs}
use Rattle.std.specs.List.{list_all, list_any}
use Rattle.std.specs.Int.{int_max}
use Rattle.std.specs.Ordering.{int_eq}
use Rattle.std.specs.Str.{bytes_eq}
use Rattle.bsp_ret_records.specs.Values.{none_or}
use Rattle.bsp_ret_records.specs.declared.codes.TransactionCode.{TransactionCode}
use Rattle.bsp_ret_records.specs.declared.codes.TransactionCode.TheVariants.{Tktt, Rfnd, Canx}
use Rattle.bsp_ret_records.specs.declared.transactions.Tax.{Tax}
use Rattle.bsp_ret_records.specs.declared.transactions.Amounts.{Amounts}
use Rattle.bsp_ret_records.specs.declared.transactions.Transaction.{Transaction}
use Rattle.bsp_rules.specs.declared.facts.RelatedDocument.{RelatedDocument}
use Rattle.bsp_rules.specs.declared.rows.Item.{Item}
use Rattle.bsp_rules.specs.Commission.{is_commission}
use Rattle.bsp_rules.specs.Amounts.{amount_or_zero, gross, sum_of}

-- the amounts of a ticket, and of the ticket in a related place
abbrev pub amounts_of : Option Item → Option Amounts
amounts_of None = None
amounts_of (Some i) = i.transaction.amounts

abbrev pub ticket_amounts : Option RelatedDocument → Option Amounts
ticket_amounts None = None
ticket_amounts (Some r) = amounts_of r.ticket

-- fare and taxes, and the fare, of amounts that are there
abbrev pub gross_or_zero : Option Amounts → ℤ
gross_or_zero None = pos 0
gross_or_zero (Some a) = gross a

abbrev pub fare_or_zero : Option Amounts → ℤ
fare_or_zero None = pos 0
fare_or_zero (Some a) = a.fare

-- over all related tickets
abbrev pub tickets_gross : List (Option RelatedDocument) → ℤ
tickets_gross related = sum_of (map (λ r. gross_or_zero (ticket_amounts r)) related)

abbrev pub tickets_fare : List (Option RelatedDocument) → ℤ
tickets_fare related = sum_of (map (λ r. fare_or_zero (ticket_amounts r)) related)

-- an exchange takes the tickets' fares and taxes, and its commission is the rate's on what its fare is above the tickets' fares
unfoldable pub fits_exchange : Transaction → Amounts → List (Option RelatedDocument) → Bool
fits_exchange t a related =
    int_eq (amount_or_zero t.exchange) (tickets_gross related)
    && is_commission a.rate (int_max (pos 0) (a.fare -ℤ tickets_fare related)) a.commission

-- one of the ticket's taxes has this code, and at least this size
abbrev pub is_within : Tax → Option Tax → Bool
is_within tax None = false
is_within tax (Some other) = bytes_eq other.code tax.code && nat_le (unsigned_abs tax.amount) (unsigned_abs other.amount)

abbrev pub covers_tax : List (Option Tax) → Tax → Bool
covers_tax taxes tax = list_any (is_within tax) taxes

-- the fare and each tax are at most the ticket's in size, there is no other tax code, and the rate is the one that the ticket claimed
unfoldable pub covers : Amounts → Amounts → Bool
covers ticket a =
    nat_le (unsigned_abs a.fare) (unsigned_abs ticket.fare)
    && list_all (none_or (covers_tax ticket.taxes)) a.taxes
    && (a.rate == ticket.rate)

-- a refund is within its ticket, and its commission is the rate's on its fare
unfoldable pub fits_refund : Amounts → List (Option RelatedDocument) → Bool
fits_refund a related =
    list_all (λ r. none_or (λ ticket. covers ticket a) (ticket_amounts r)) related
    && is_commission a.rate a.fare a.commission

abbrev pub disagree_with_tickets : Transaction → Option Amounts → List (Option RelatedDocument) → Bool
disagree_with_tickets t None related = false
disagree_with_tickets t (Some a) related = by_code t.code where
  by_code : TransactionCode → Bool
  by_code Tktt = is_some t.exchange && not (fits_exchange t a related)
  by_code Rfnd = not (fits_refund a related)
  by_code Canx = false

-- of a TKTT with an exchange and of an RFND: amounts or commission do not agree with the related tickets
unfoldable pub disagrees_with_tickets : Transaction → List (Option RelatedDocument) → Bool
disagrees_with_tickets t related = disagree_with_tickets t t.amounts related
