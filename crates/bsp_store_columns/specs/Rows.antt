-- The rows of the tables, and what the program's types say of their entries.
use Rattle.std.specs.Prelude.{List, ℕ, ℤ}
use Rattle.sqlite_value.specs.Order.{Row}
use Rattle.bsp_store_columns.specs.declared.airlines.AirlineEntry.{AirlineEntry}
use Rattle.bsp_rows.specs.CommissionTax.{CommissionTax}
use Rattle.bsp_rows.specs.declared.keys.ItemKey.{ItemKey}
use Rattle.bsp_store_columns.specs.declared.taxes.ItemTax.{ItemTax}
use Rattle.bsp_rows.specs.MemoFields.{MemoFields}
use Rattle.bsp_rows.specs.declared.keys.MemoKey.{MemoKey}
use Rattle.bsp_rows.specs.Period.{Period}
use Rattle.bsp_rows.specs.declared.keys.RangeKey.{RangeKey}
use Rattle.bsp_rows.specs.Rate.{Rate}
use Rattle.bsp_rows.specs.Tally.{Tally}
use Rattle.bsp_rows.specs.declared.keys.TallyKey.{TallyKey}
use Rattle.bsp_rows.specs.Terms.{Terms}
use Rattle.bsp_store_columns.specs.declared.tickets.TicketKey.{TicketKey}
use Rattle.bsp_rows.specs.Item.{Item}
use Rattle.bsp_rows.specs.ReportedDocument.{ReportedDocument}
use Rattle.bsp_store_columns.specs.declared.tables.meta.Meta.{Meta}
use Rattle.bsp_store_columns.specs.contracts.tables.agent.Tuple2AgentCodeTokenEntry.TheImpl.{ghosts as agent}
use Rattle.bsp_store_columns.specs.contracts.tables.stock.Tuple2RangeKeyDocNumberEntry.TheImpl.{ghosts as stock}
use Rattle.bsp_store_columns.specs.contracts.tables.memo.Tuple2MemoKeyMemoEntry.TheImpl.{ghosts as memo}
use Rattle.bsp_store_columns.specs.contracts.tables.tally.Tuple2TallyKeyTallyEntry.TheImpl.{ghosts as tally}
use Rattle.bsp_store_columns.specs.contracts.tables.rate.Tuple2UsizeRateEntry.TheImpl.{ghosts as rate}
use Rattle.bsp_store_columns.specs.contracts.tables.period.Tuple2UsizePeriodEntry.TheImpl.{ghosts as period}
use Rattle.bsp_store_columns.specs.contracts.tables.commission_tax.Tuple2UsizeCommissionTaxEntry.TheImpl.{ghosts as commission_tax}
use Rattle.bsp_store_columns.specs.contracts.tables.terms.TermsEntry.TheImpl.{ghosts as terms}
use Rattle.bsp_store_columns.specs.contracts.tables.meta.MetaEntry.TheImpl.{ghosts as meta}
use Rattle.bsp_store_columns.specs.contracts.tables.airline.Tuple2AirlineCodeAirlineEntryEntry.TheImpl.{ghosts as airline}
use Rattle.bsp_store_columns.specs.contracts.tables.item_tax.Tuple2ItemKeyItemTaxEntry.TheImpl.{ghosts as item_tax}
use Rattle.bsp_store_columns.specs.contracts.tables.tally_tax.Tuple2TallyKeyI64Entry.TheImpl.{ghosts as tally_tax}
use Rattle.bsp_store_columns.specs.contracts.tables.second_related.Tuple2TicketKeyReportedDocumentEntry.TheImpl.{ghosts as second_related}
use Rattle.bsp_store_columns.specs.contracts.tables.item.Tuple2ItemKeyItemEntry.TheImpl.{ghosts as item}
use Rattle.bsp_store_columns.specs.contracts.tables.agent.Tuple2AgentCodeTokenReadEntry.TheImpl.{ghosts as agent_read}
use Rattle.bsp_store_columns.specs.contracts.tables.stock.Tuple2RangeKeyDocNumberReadEntry.TheImpl.{ghosts as stock_read}
use Rattle.bsp_store_columns.specs.contracts.tables.memo.Tuple2MemoKeyMemoReadEntry.TheImpl.{ghosts as memo_read}
use Rattle.bsp_store_columns.specs.contracts.tables.rate.Tuple2UsizeRateReadEntry.TheImpl.{ghosts as rate_read}
use Rattle.bsp_store_columns.specs.contracts.tables.period.Tuple2UsizePeriodReadEntry.TheImpl.{ghosts as period_read}
use Rattle.bsp_store_columns.specs.contracts.tables.commission_tax.Tuple2UsizeCommissionTaxReadEntry.TheImpl.{ghosts as commission_tax_read}
use Rattle.bsp_store_columns.specs.contracts.tables.terms.TermsReadEntry.TheImpl.{ghosts as terms_read}
use Rattle.bsp_store_columns.specs.contracts.tables.meta.MetaReadEntry.TheImpl.{ghosts as meta_read}
use Rattle.bsp_store_columns.specs.contracts.tables.airline.Tuple2AirlineCodeAirlineEntryReadEntry.TheImpl.{ghosts as airline_read}
use Rattle.bsp_store_columns.specs.contracts.tables.item_tax.Tuple2ItemKeyItemTaxReadEntry.TheImpl.{ghosts as item_tax_read}
use Rattle.bsp_store_columns.specs.contracts.tables.second_related.Tuple2TicketKeyReportedDocumentReadEntry.TheImpl.{ghosts as second_related_read}

abbrev pub agent_row : ℕ × List ℕ → Row
agent_row = agent.row

abbrev pub stock_row : RangeKey × ℕ → Row
stock_row = stock.row

abbrev pub memo_row : MemoKey × MemoFields → Row
memo_row = memo.row

abbrev pub tally_row : TallyKey × Tally → Row
tally_row = tally.row

abbrev pub rate_row : ℕ × Rate → Row
rate_row = rate.row

abbrev pub period_row : ℕ × Period → Row
period_row = period.row

abbrev pub commission_tax_row : ℕ × CommissionTax → Row
commission_tax_row = commission_tax.row

abbrev pub terms_row : Terms → Row
terms_row = terms.row

abbrev pub meta_row : Meta → Row
meta_row = meta.row

abbrev pub airline_row : ℕ × AirlineEntry → Row
airline_row = airline.row

abbrev pub tax_row : ItemKey × ItemTax → Row
tax_row = item_tax.row

abbrev pub tally_sum_row : TallyKey × ℤ → Row
tally_sum_row = tally_tax.row

abbrev pub second_row : TicketKey × ReportedDocument → Row
second_row = second_related.row

-- without its tax, and without a second related document
abbrev pub item_row : ItemKey × Item → Row
item_row = item.row

-- ---- what the program's types say of the entries

abbrev pub IsAgentEntry : ℕ × List ℕ → Type 0
IsAgentEntry = agent_read.is_formed

abbrev pub IsRangeEntry : RangeKey × ℕ → Type 0
IsRangeEntry = stock_read.is_formed

abbrev pub IsMemoEntry : MemoKey × MemoFields → Type 0
IsMemoEntry = memo_read.is_formed

abbrev pub IsAirlineEntry : ℕ × AirlineEntry → Type 0
IsAirlineEntry = airline_read.is_formed

abbrev pub IsTaxEntry : ItemKey × ItemTax → Type 0
IsTaxEntry = item_tax_read.is_formed

abbrev pub IsSecondEntry : TicketKey × ReportedDocument → Type 0
IsSecondEntry = second_related_read.is_formed

abbrev pub AreTerms : Terms → Type 0
AreTerms = terms_read.is_formed

abbrev pub IsMeta : Meta → Type 0
IsMeta = meta_read.is_formed

-- wherever it is in the plan
abbrev pub IsRate : Rate → Type 0
IsRate entry = rate_read.is_formed (0, entry)

abbrev pub IsPeriod : Period → Type 0
IsPeriod entry = period_read.is_formed (0, entry)

abbrev pub IsCommissionTax : CommissionTax → Type 0
IsCommissionTax entry = commission_tax_read.is_formed (0, entry)
