-- The verdict on a transaction: the first row that applies.
use Rattle.std.specs.Prelude.{ℕ, ◌==◌, nat_le, Bool, false, ◌&&◌, ◌||◌, not, List, [], ◌∷◌, Option, Some, None, is_some, is_none, unwrap_or, Result, Ok, Err, is_err}
use Rattle.std.specs.List.{list_any}
use Rattle.std.specs.Str.{bytes_eq}
use Rattle.bsp_fields.specs.Codes.{document_reading}
use Rattle.bsp_fields.specs.Decimal.{fixed_digits}
use Rattle.bsp_fields.specs.FirstFault.{first_fault_or}
use Rattle.bsp_calendar.specs.declared.entries.Terms.{Terms}
use Rattle.bsp_calendar.specs.DayOrder.{is_before}
use Rattle.bsp_calendar.specs.Published.{Published, has_airline, rate_on, target_of, target_or_zero}
use Rattle.bsp_ret_records.specs.declared.codes.TransactionCode.{TransactionCode}
use Rattle.bsp_ret_records.specs.declared.codes.TransactionCode.TheVariants.{Tktt, Rfnd, Canx}
use Rattle.bsp_ret_records.specs.declared.transactions.ReportedDocument.{ReportedDocument}
use Rattle.bsp_ret_records.specs.declared.transactions.Transaction.{Transaction}
use Rattle.bsp_rules.specs.declared.facts.Facts.{Facts}
use Rattle.bsp_rules.specs.declared.facts.OwnNumber.{OwnNumber}
use Rattle.bsp_rules.specs.declared.facts.RelatedDocument.{RelatedDocument}
use Rattle.bsp_rules.specs.declared.rows.Item.{Item}
use Rattle.bsp_rules.specs.declared.verdict.Refusal.TheVariants.{WrongAgent, UnknownAirline, WrongCheckDigit, NotYetIssued, NotInStock, NumberUsed, WrongAmounts, NoTicket, TicketEnded, WrongAgainstTicket, NoPeriod, LimitReached}
use Rattle.bsp_rules.specs.declared.verdict.Reporter.{Reporter}
use Rattle.bsp_rules.specs.declared.verdict.Reporter.TheVariants.{Office, Agent}
use Rattle.bsp_rules.specs.declared.verdict.Verdict.{Verdict}
use Rattle.bsp_rules.specs.declared.verdict.Verdict.TheVariants.{Held, Accepted, Refused}
use Rattle.bsp_rules.specs.Amounts.{has_wrong_amounts}
use Rattle.bsp_rules.specs.Tickets.{disagrees_with_tickets}

-- ---- the rows' tests

-- an agent reports, and not the one that the transaction bears
abbrev pub is_other_agent : Reporter → Transaction → Bool
is_other_agent Office t = false
is_other_agent (Agent agent) t = not (bytes_eq (fixed_digits 8 agent) t.agent)

unfoldable pub has_wrong_agent : Reporter → Transaction → Facts → Bool
has_wrong_agent reporter t f = not f.registered || is_other_agent reporter t

-- the number is not ten digits, or the check digit is not theirs
abbrev pub is_wrong : ReportedDocument → Bool
is_wrong d = is_err (document_reading d.number d.check_digit)

abbrev pub is_wrong_place : Option ReportedDocument → Bool
is_wrong_place None = false
is_wrong_place (Some d) = is_wrong d

-- of record 2, or of a record 3
unfoldable pub has_wrong_check_digit : Transaction → Bool
has_wrong_check_digit t = is_wrong t.document || list_any is_wrong_place t.related

-- of a CANX, in a CANX; of another, in any code
abbrev pub is_number_used : TransactionCode → OwnNumber → Bool
is_number_used Tktt own = own.is_used
is_number_used Rfnd own = own.is_used
is_number_used Canx own = own.is_cancelled

-- a related document of another airline than record 2, or without an accepted TKTT
abbrev pub is_missing : ℕ → Option RelatedDocument → Bool
is_missing airline None = false
is_missing airline (Some r) = not (r.document.airline == airline) || is_none r.ticket

-- one is missing, or there is none at all
abbrev pub are_missing : ℕ → List (Option RelatedDocument) → Bool
are_missing airline related = list_any (is_missing airline) related || not (list_any is_some related)

-- of an RFND or a TKTT with an exchange: a related document is missing; of a CANX: the number is another airline's
unfoldable pub lacks_ticket : Transaction → Facts → Bool
lacks_ticket t f = by_code t.code where
  by_code : TransactionCode → Bool
  by_code Tktt = is_some t.exchange && are_missing t.document.airline f.related
  by_code Rfnd = are_missing t.document.airline f.related
  by_code Canx = f.own.is_of_another_airline

-- the ticket does not live
abbrev pub is_cancelled : Option Item → Bool
is_cancelled None = false
is_cancelled (Some i) = not i.lives

-- the related ticket is cancelled, or a living transaction relates to it
abbrev pub is_ended : Option RelatedDocument → Bool
is_ended None = false
is_ended (Some r) = is_cancelled r.ticket || r.is_related_to

-- of an RFND or a TKTT with an exchange: a related ticket is ended; of a CANX: the number's transaction lies in a closed period, or a living one relates to it
unfoldable pub has_ended : Transaction → Facts → Bool
has_ended t f = by_code t.code where
  by_code : TransactionCode → Bool
  by_code Tktt = is_some t.exchange && list_any is_ended f.related
  by_code Rfnd = list_any is_ended f.related
  by_code Canx = f.own.is_in_closed_period || f.own.is_related_to

-- the documents limit; 0 before terms are published
abbrev pub limit_of : Option Terms → ℕ
limit_of None = 0
limit_of (Some terms) = terms.documents_limit

-- ---- the table

abbrev pub rows : Reporter → Transaction → Facts → Published → List (Bool × Verdict)
rows reporter t f p =
    (has_wrong_agent reporter t f, Refused WrongAgent)
    ∷ (is_some f.held, Held (unwrap_or f.held 0))
    ∷ (not (has_airline p t.document.airline), Refused UnknownAirline)
    ∷ (has_wrong_check_digit t, Refused WrongCheckDigit)
    ∷ (is_before p.day t.issued, Refused NotYetIssued)
    ∷ (not f.in_range, Refused NotInStock)
    ∷ (is_number_used t.code f.own, Refused NumberUsed)
    ∷ (has_wrong_amounts t (rate_on p t.document.airline t.issued), Refused WrongAmounts)
    ∷ (lacks_ticket t f, Refused NoTicket)
    ∷ (has_ended t f, Refused TicketEnded)
    ∷ (disagrees_with_tickets t f.related, Refused WrongAgainstTicket)
    ∷ (is_none (target_of p t.issued), Refused NoPeriod)
    ∷ (nat_le (limit_of p.terms) f.count, Refused LimitReached)
    ∷ []

-- the verdict of the first row that applies; and where none applies, accepted in the target period
abbrev pub told : Result ℕ Verdict → Verdict
told (Ok period) = Accepted period
told (Err verdict) = verdict

unfoldable pub verdict_on : Reporter → Transaction → Facts → Published → Verdict
verdict_on reporter t f p = told (first_fault_or (rows reporter t f p) (target_or_zero p t.issued))
