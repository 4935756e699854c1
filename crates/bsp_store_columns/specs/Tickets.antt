-- The keys of tickets.
use Rattle.std.specs.Prelude.{◌≡◌, if◌then◌else◌, None, Ok, Option, Some, ℕ}
use Rattle.bsp_rows.specs.Codes.{check_digit_of, code_reading}
use Rattle.bsp_rows.specs.ReportedDocument.{ReportedDocument}
use Rattle.bsp_rows.specs.declared.keys.ItemKey.{ItemKey}
use Rattle.bsp_store_columns.specs.declared.tickets.TicketKey.{TicketKey}

-- the agent and the number of an item's key
abbrev pub ticket : ItemKey → TicketKey
ticket k = record { agent = k.agent; number = k.number }

-- those of a CANX are no ticket's
abbrev pub ticket_of : ItemKey → Option TicketKey
ticket_of k = if k.is_canx then None else Some (ticket k)

-- the number of a document has ten digits, and its check digit
pub record IsCheckedDocument (document : ReportedDocument) : Type 0 where
  pub number : ℕ
  pub reads : code_reading 10 document.number ≡ Ok number
  pub is_checked : document.check_digit ≡ check_digit_of number
