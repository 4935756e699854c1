-- The second related document of an item, as a row of its own table.
use Rattle.std.specs.Prelude.{Bool, false, if◌then◌else◌, is_some, Option}
use Rattle.std.specs.FinMap.{FinMap, get}
use Rattle.bsp_store_base.specs.Entries.{Item, ItemKey, ReportedDocument}
use Rattle.bsp_store_base.specs.Seconds.{second_in, ticket, ticket_cmp}

-- whether the ticket of an item's key has a row; a CANX has none
abbrev pub has_second : ItemKey → FinMap ticket_cmp ReportedDocument → Bool
has_second k seconds = if k.is_canx then false else is_some (get seconds (ticket k))

-- whether what is at the key gives the ticket a row
abbrev pub gives_second : ItemKey → Option Item → Bool
gives_second k item = if k.is_canx then false else is_some (second_in item)
