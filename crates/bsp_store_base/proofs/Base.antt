-- The definitions of this crate and its lemmas that the proofs cite, passed on from one place. Declares nothing.
pub use Rattle.bsp_store_columns.proofs.AirlineLemmas.{get-airline_entries, with_published-taken}
pub use Rattle.bsp_store_base.proofs.Alone.{alone}
pub use Rattle.bsp_store_columns.proofs.Days.{same_day}
pub use Rattle.bsp_store_base.proofs.Ending.{begin_commits_nothing, begins, commits, quiet}
pub use Rattle.bsp_store_base.proofs.Ends.{ends_any}
pub use Rattle.bsp_store_base.proofs.Held.{unchanged_by, writes}
pub use Rattle.bsp_store_base.proofs.Keys.{code_is, flag_is, one_column, three_columns, two_columns}
pub use Rattle.bsp_store_base.proofs.MapTables.{command_is, shows_all}
pub use Rattle.bsp_store_base.proofs.Opening.{rest_shown, table_shown, whole_shown}
pub use Rattle.bsp_store_base.proofs.Orders.{code_order, flag_order, one_order, placed_rise, three_orders, two_orders}
pub use Rattle.bsp_store_base.proofs.Parts.{wrote}
pub use Rattle.bsp_store_columns.proofs.Placing.{next_place, one_more, placed_next}
pub use Rattle.bsp_store_columns.proofs.ReadBack.{agent_back, amount_back, below_back, code_back, code_digits-fits}
pub use Rattle.bsp_store_base.proofs.ReadingLemmas.{out}
pub use Rattle.bsp_store_base.proofs.Rising.{entries_rise, IsBefore, keys_of, rows_rise}
pub use Rattle.bsp_store_base.proofs.SecondLemmas.{entries-seconds_of, get-seconds_of, seconds_of-written, ticket_exact}
pub use Rattle.bsp_store_base.proofs.Values.{cast_int, cast_maybe_int, cast_maybe_text, cast_null, cast_same}
pub use Rattle.bsp_store_base.proofs.Writes.{Does, no_work}
pub use Rattle.bsp_store_base.proofs.Writing.{deletes, inserts, same_value, updates, went}
pub use Rattle.bsp_store_columns.specs.Airlines.{entry_of, HasStoredPlace, place_among, place_of, published_at, registered, unplaced, with_published}
unfoldable pub use Rattle.bsp_store_columns.specs.Airlines.{airline_entries}
pub use Rattle.bsp_store_base.specs.Calls.{Changes, GivesUp, GivesUpIf, IsKept}
pub use Rattle.bsp_store_base.specs.Columns.{agent_row, agent_text, airline_row, airline_text, code_digits, commission_tax_row, count, flag, item_row, item_tax_row, memo_row, Meta, meta_row, meta_rows, number_text, period_row, period_text, placed, rate_row, second_row, stock_row, tally_row, tally_tax_row, tax_row, terms_row, terms_rows, version}
pub use Rattle.bsp_store_base.specs.Content.{agent_part, airline_part, commission_tax_part, Content, content_with, form, item_part, item_tax_part, memo_part, meta_part, period_part, rate_part, second_part, stock_part, tally_part, tally_tax_part, terms_part, width_of}
pub use Rattle.bsp_store_base.specs.Forms.{IsAgent, IsAgentEntry, IsAirline, IsAirlineEntry, IsCommissionTax, IsFormed, IsItemEntry, IsMemoEntry, IsMeta, IsPeriod, IsRangeEntry, IsRate, IsSecondEntry, IsTallyKey, IsTaxEntry}
pub use Rattle.bsp_store_base.specs.Kept.{AreTreesOf, columns_of, HasCommitted, HasContents, IsInside, Keeps, KeepsRows, KeepsSound, KeepsTable, Part, Reads, Spares}
pub use Rattle.bsp_store_base.specs.Made.{HasNoRows}
pub use Rattle.bsp_store_base.specs.MapTables.{after, AreStatementsOf, by_keys, change, deletion, HasRun, insertion, IsMapTable, IsText, key_project, key_test, MapTable, part, selection, width}
pub use Rattle.bsp_store_base.specs.Order.{AreInOrder, IsInOrder, table_trees}
pub use Rattle.bsp_store_columns.specs.Reading.{agent_in, amount_in, below, code_in, if_there}
pub use Rattle.bsp_store_base.specs.Schema.{airline_table, commission_tax_table, item_table, item_tax_table, memo_table, meta_table, our_schema, second_related_table, tally_tax_table, terms_table}
pub use Rattle.bsp_store_base.specs.Seconds.{sale_at, second_entry, second_in, second_pair, ticket, ticket_cmp, ticket_of, with_second, ticket_total}
unfoldable pub use Rattle.bsp_store_base.specs.Seconds.{seconds_of}
pub use Rattle.bsp_store_base.specs.Shows.{AreAllOf, IsQuery, ShowsAll, ShowsTable}
pub use Rattle.bsp_store_base.specs.Simple.{simple}
pub use Rattle.bsp_store_base.specs.Synced.{synced, with_value}
pub use Rattle.bsp_store_columns.specs.Taxes.{tax_with}
