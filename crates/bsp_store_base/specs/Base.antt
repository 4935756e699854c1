-- The definitions of this crate that the definitions and the proofs cite, passed on from one place. Declares nothing.
pub use Rattle.bsp_store_columns.specs.Airlines.{entry_of, HasStoredPlace, place_of, published_at, registered, with_published}
unfoldable pub use Rattle.bsp_store_columns.specs.Airlines.{airline_entries}
pub use Rattle.bsp_store_base.specs.Calls.{Changes, GivesUp, GivesUpIf, IsKept}
pub use Rattle.bsp_store_base.specs.Columns.{agent_row, agent_text, airline_row, airline_text, commission_tax_row, count, flag, item_row, item_tax_row, memo_row, Meta, meta_row, meta_rows, number_text, period_row, period_text, placed, rate_row, second_row, stock_row, tally_row, tally_tax_row, tax_row, terms_row, terms_rows, version}
pub use Rattle.bsp_store_base.specs.Content.{agent_part, airline_part, commission_tax_part, Content, content_with, form, item_part, item_tax_part, memo_part, meta_part, period_part, rate_part, second_part, stock_part, tally_part, tally_tax_part, terms_part, width_of}
pub use Rattle.bsp_store_base.specs.Forms.{AreTerms, IsAgent, IsAgentEntry, IsAirline, IsAirlineEntry, IsCommissionTax, IsFormed, IsItemEntry, IsMemoEntry, IsMeta, IsPeriod, IsRangeEntry, IsRate, IsSecondEntry, IsTaxEntry}
pub use Rattle.bsp_store_base.specs.Kept.{columns_of, Form, HasCommitted, HasContents, HasRowsNow, IsInside, IsOutside, Keeps, KeepsRows, KeepsSound, KeepsTable, Part, Reads, Spares}
pub use Rattle.bsp_store_base.specs.MapTables.{after, holds_row, IsText, MapTable}
pub use Rattle.bsp_store_base.specs.Order.{AreInOrder, IsInOrder}
pub use Rattle.bsp_store_columns.specs.Reading.{agent_in, amount_in, below, code_in, if_there, int_in, text_in, token_in}
pub use Rattle.bsp_store_base.specs.Schema.{agent_table, airline_table, commission_tax_table, item_table, item_tax_table, memo_table, meta_table, our_schema, period_table, rate_table, second_related_table, stock_table, tally_table, tally_tax_table}
pub use Rattle.bsp_store_base.specs.Seconds.{second_entry, second_in, ticket_cmp, ticket_of, with_second, ticket_total}
unfoldable pub use Rattle.bsp_store_base.specs.Seconds.{seconds_of}
pub use Rattle.bsp_store_base.specs.Shows.{AreAllOf, ShowsTable}
pub use Rattle.bsp_store_columns.specs.Taxes.{tax_with}
