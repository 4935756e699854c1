-- What the book keeps, as rows of tables: each entry is one row, a value for each column.
use Rattle.std.specs.Prelude.{[], ◌∷◌, List, None, Option, Some}
use Rattle.sqlite_value.specs.Order.{Row}
use Rattle.bsp_store_base.specs.Entries.{Item, ItemKey, Tally, TallyKey, Terms}
pub use Rattle.bsp_store_columns.specs.declared.tables.meta.Meta.{Meta}
pub use Rattle.bsp_store_columns.specs.Rows.{agent_row, airline_row, commission_tax_row, item_row, memo_row, meta_row, period_row, rate_row, second_row, stock_row, tally_row, tally_sum_row, tax_row, terms_row}
pub use Rattle.bsp_store_columns.specs.Values.{agent_text, airline_text, code_digits, count, flag, number_text, only_id, period_text, placed, version}
use Rattle.bsp_store_columns.specs.Taxes.{tax_with}

abbrev pub meta_rows : Option Meta → List Row
meta_rows None = []
meta_rows (Some meta) = meta_row meta ∷ []

abbrev pub terms_rows : Option Terms → List Row
terms_rows None = []
terms_rows (Some terms) = terms_row terms ∷ []

-- ---- items

abbrev pub item_tax_row : ItemKey × Item → Row
item_tax_row e = tax_row (e.0, tax_with e.1)

-- ---- tallies

abbrev pub tally_tax_row : TallyKey × Tally → Row
tally_tax_row e = tally_sum_row (e.0, e.1.tax)
