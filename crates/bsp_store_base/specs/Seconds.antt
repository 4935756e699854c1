-- The second related documents of items, by the keys of their tickets.
use Rattle.std.specs.Prelude.{Bool, false, if◌then◌else◌, None, Option, option_and_then, option_map, true, filter_map}
use Rattle.std.specs.Cmp.{IsTotalOrder, nat_cmp_total, on_total, then_total}
use Rattle.bsp_store_base.specs.Std.{entries, FinMap, from_sorted, nat_cmp, on, then_cmp, Ordering}
use Rattle.bsp_rows.specs.GroupValues.{second_of}
use Rattle.bsp_store_base.specs.Entries.{Item, ItemKey, ReportedDocument, TicketKey}
use Rattle.bsp_rows.specs.Rows.{item_cmp}
use Rattle.bsp_store_base.specs.Synced.{with_value}
pub use Rattle.bsp_store_columns.specs.Tickets.{ticket, ticket_of}

-- by agent, and then by number
abbrev pub ticket_cmp : TicketKey → TicketKey → Ordering
ticket_cmp = then_cmp (on (λ k. k.agent) nat_cmp) (on (λ k. k.number) nat_cmp)

pub ticket_total : IsTotalOrder ticket_cmp
ticket_total = then_total (on_total (λ (k : TicketKey). k.agent) nat_cmp_total) (on_total (λ (k : TicketKey). k.number) nat_cmp_total)

-- the key of the TKTT or RFND
abbrev pub sale_at : TicketKey → ItemKey
sale_at t = record { agent = t.agent; number = t.number; is_canx = false }

-- the second document of an item, if there is an item and it has one
abbrev pub second_in : Option Item → Option ReportedDocument
second_in item = option_and_then (λ (i : Item). second_of i.transaction) item

-- the second document of an entry under its ticket, if the entry is no CANX and has one
abbrev pub second_pair : Bool → TicketKey → Option ReportedDocument → Option (TicketKey × ReportedDocument)
second_pair true t d = None
second_pair false t d = option_map (λ document. (t, document)) d

abbrev pub second_entry : ItemKey × Item → Option (TicketKey × ReportedDocument)
second_entry e = second_pair e.0.is_canx (ticket e.0) (second_of e.1.transaction)

-- those of items, which are in the order of their tickets too
unfoldable pub seconds_of : FinMap item_cmp Item → FinMap ticket_cmp ReportedDocument
seconds_of items = from_sorted (filter_map second_entry (entries items))

-- with the second document of what is at a key, or without one
abbrev pub with_second : ItemKey → Option Item → FinMap ticket_cmp ReportedDocument → FinMap ticket_cmp ReportedDocument
with_second k item seconds = if k.is_canx then seconds else with_value (ticket k) (second_in item) seconds
