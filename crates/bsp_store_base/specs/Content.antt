-- What the tables of a book's store keep, table by table.
use Rattle.std.specs.Prelude.{[], ◌∷◌, length, List, map, Option, refl, Some, ℕ}
use Rattle.bsp_store_base.specs.Std.{entries, FinMap, nat_cmp}
use Rattle.bsp_store_base.specs.Entries.{AirlineEntry, CommissionTax, Item, MemoFields, Period, Rate, ReportedDocument, Rows, Tally, Terms}
use Rattle.bsp_rows.specs.Rows.{item_cmp, memo_cmp, range_cmp}
use Rattle.bsp_rows.specs.Tallies.{tally_cmp}
use Rattle.bsp_store_columns.specs.Airlines.{airline_entries}
use Rattle.bsp_store_base.specs.Seconds.{seconds_of, ticket_cmp}
use Rattle.bsp_store_base.specs.Columns.{Meta, airline_row, agent_row, commission_tax_row, item_row, item_tax_row, memo_row, meta_rows, period_row, placed, rate_row, second_row, stock_row, tally_row, tally_tax_row, terms_rows}
use Rattle.bsp_store_base.specs.Schema.{our_schema, meta_table, terms_table, airline_table, rate_table, period_table, agent_table, stock_table, item_table, memo_table, tally_table, commission_tax_table, item_tax_table, tally_tax_table, second_related_table}
pub use Rattle.bsp_store_base.specs.Schema.{width_of}
use Rattle.bsp_store_base.specs.Kept.{Form, Part}

-- Between two writes of a commit the tables of items, of taxes and of second documents may keep different items.
pub record Content : Type 0 where
  pub meta : Option Meta
  pub terms : Option Terms
  -- the airlines that are published or registered
  pub airlines : FinMap nat_cmp AirlineEntry
  -- what is published, in the order of its publication
  pub rates : List Rate
  pub periods : List Period
  -- the tokens of agents
  pub agents : FinMap nat_cmp (List ℕ)
  pub ranges : FinMap range_cmp ℕ
  pub items : FinMap item_cmp Item
  pub memos : FinMap memo_cmp MemoFields
  pub tallies : FinMap tally_cmp Tally
  pub commission_taxes : List CommissionTax
  -- the items and the tallies as the tables of their taxes keep them
  pub item_taxes : FinMap item_cmp Item
  pub tally_taxes : FinMap tally_cmp Tally
  -- the second related documents of tickets
  pub seconds : FinMap ticket_cmp ReportedDocument

-- the content of rows, with tallies
abbrev pub content_with : Rows → FinMap tally_cmp Tally → Content
content_with rows tallies = record {
  meta = Some (record { day = rows.published.day; closed = length rows.published.closed });
  terms = rows.published.terms;
  airlines = airline_entries rows.published.airlines rows.airlines;
  rates = rows.published.rates;
  periods = rows.published.periods;
  agents = rows.agents;
  ranges = rows.ranges;
  items = rows.items;
  memos = rows.memos;
  tallies = tallies;
  commission_taxes = rows.published.commission_taxes;
  item_taxes = rows.items;
  tally_taxes = tallies;
  seconds = seconds_of rows.items;
}

-- ---- the rows of each table

abbrev pub meta_part : Part Content
meta_part = record { tree = meta_table.tree; rows = λ c. meta_rows c.meta }

abbrev pub terms_part : Part Content
terms_part = record { tree = terms_table.tree; rows = λ c. terms_rows c.terms }

abbrev pub airline_part : Part Content
airline_part = record { tree = airline_table.tree; rows = λ c. map airline_row (entries c.airlines) }

abbrev pub rate_part : Part Content
rate_part = record { tree = rate_table.tree; rows = λ c. map rate_row (placed 0 c.rates) }

abbrev pub period_part : Part Content
period_part = record { tree = period_table.tree; rows = λ c. map period_row (placed 0 c.periods) }

abbrev pub agent_part : Part Content
agent_part = record { tree = agent_table.tree; rows = λ c. map agent_row (entries c.agents) }

abbrev pub stock_part : Part Content
stock_part = record { tree = stock_table.tree; rows = λ c. map stock_row (entries c.ranges) }

abbrev pub item_part : Part Content
item_part = record { tree = item_table.tree; rows = λ c. map item_row (entries c.items) }

abbrev pub memo_part : Part Content
memo_part = record { tree = memo_table.tree; rows = λ c. map memo_row (entries c.memos) }

abbrev pub tally_part : Part Content
tally_part = record { tree = tally_table.tree; rows = λ c. map tally_row (entries c.tallies) }

abbrev pub commission_tax_part : Part Content
commission_tax_part = record { tree = commission_tax_table.tree; rows = λ c. map commission_tax_row (placed 0 c.commission_taxes) }

abbrev pub item_tax_part : Part Content
item_tax_part = record { tree = item_tax_table.tree; rows = λ c. map item_tax_row (entries c.item_taxes) }

abbrev pub tally_tax_part : Part Content
tally_tax_part = record { tree = tally_tax_table.tree; rows = λ c. map tally_tax_row (entries c.tally_taxes) }

abbrev pub second_part : Part Content
second_part = record { tree = second_related_table.tree; rows = λ c. map second_row (entries c.seconds) }

-- the tables of the store
abbrev pub form : Form Content
form = record {
  schema = our_schema;
  width = width_of;
  parts = meta_part ∷ terms_part ∷ airline_part ∷ rate_part ∷ period_part ∷ agent_part ∷ stock_part ∷ item_part ∷ memo_part ∷ tally_part
      ∷ commission_tax_part ∷ item_tax_part ∷ tally_tax_part ∷ second_part ∷ [];
  apart = refl;
}
