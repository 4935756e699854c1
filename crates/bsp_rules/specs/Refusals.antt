-- The codes of the refusals.
use Rattle.std.specs.Prelude.{ℕ, List, codes}
use Rattle.bsp_rules.specs.declared.verdict.Refusal.{Refusal}
use Rattle.bsp_rules.specs.declared.verdict.Refusal.TheVariants.{WrongAgent, UnknownAirline, WrongCheckDigit, NotYetIssued, NotInStock, NumberUsed, WrongAmounts, NoTicket, TicketEnded, WrongAgainstTicket, NoPeriod, LimitReached}

abbrev pub code_text : Refusal → List ℕ
code_text UnknownAirline = codes "E01"
code_text WrongAgent = codes "E02"
code_text WrongCheckDigit = codes "E03"
code_text NotYetIssued = codes "E04"
code_text NotInStock = codes "E05"
code_text NumberUsed = codes "E06"
code_text WrongAmounts = codes "E07"
code_text NoTicket = codes "E08"
code_text TicketEnded = codes "E09"
code_text NoPeriod = codes "E10"
code_text LimitReached = codes "E11"
code_text WrongAgainstTicket = codes "E12"
