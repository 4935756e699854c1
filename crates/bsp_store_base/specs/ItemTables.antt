-- The tables of items, and of what items and tallies have beside their own rows, as those of maps of the content.
use Rattle.std.proofs.Common.{[], ◌∷◌}
use Rattle.sqlite_value.specs.Order.{Row}
use Rattle.bsp_store_base.specs.Entries.{Item, item_cmp, ItemKey, ReportedDocument, Tally, tally_cmp, TallyKey}
use Rattle.bsp_store_base.specs.Base.{agent_text, airline_text, flag, item_row, item_table, item_tax_row, item_tax_table, MapTable, number_text, period_text, second_related_table, second_row, tally_tax_row, tally_tax_table, ticket_cmp}
use Rattle.bsp_store_columns.specs.declared.tickets.TicketKey.{TicketKey}

-- ---- items and their taxes

-- the columns of a key, and a row that begins with such
abbrev pub item_key_row : ItemKey → Row
item_key_row key = agent_text key.agent ∷ number_text key.number ∷ flag key.is_canx ∷ []

abbrev pub items_map : MapTable ItemKey Item item_cmp
items_map = record {
  at = 7;
  table = item_table;
  of = λ c. c.items;
  with = λ m c. record c { items = m };
  row_of = item_row;
  key_of = item_key_row;
  keys = 3;
}

abbrev pub item_taxes_map : MapTable ItemKey Item item_cmp
item_taxes_map = record {
  at = 11;
  table = item_tax_table;
  of = λ c. c.item_taxes;
  with = λ m c. record c { item_taxes = m };
  row_of = item_tax_row;
  key_of = item_key_row;
  keys = 3;
}

-- ---- taxes of tallies

abbrev pub tally_taxes_map : MapTable TallyKey Tally tally_cmp
tally_taxes_map = record {
  at = 12;
  table = tally_tax_table;
  of = λ c. c.tally_taxes;
  with = λ m c. record c { tally_taxes = m };
  row_of = tally_tax_row;
  key_of = λ key. agent_text key.agent ∷ airline_text key.airline ∷ period_text key.period ∷ [];
  keys = 3;
}

-- ---- second related documents

abbrev pub seconds_map : MapTable TicketKey ReportedDocument ticket_cmp
seconds_map = record {
  at = 13;
  table = second_related_table;
  of = λ c. c.seconds;
  with = λ m c. record c { seconds = m };
  row_of = second_row;
  key_of = λ key. agent_text key.agent ∷ number_text key.number ∷ [];
  keys = 2;
}
