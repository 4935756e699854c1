-- What a commit writes to the tables of the store.
use Rattle.std.specs.Prelude.{◌≡◌, length, OnErr, OnOk, Result, Some, ℕ}
use Rattle.bsp_store_base.specs.Std.{FinMap, nat_cmp}
use Rattle.bsp_store_base.specs.Sqlite.{Ghosts, Held}
use Rattle.bsp_store_base.specs.Entries.{before, CivilDay, content, Item, item_cmp, Published, Tally, tally_cmp}
use Rattle.bsp_memory_tables.specs.ItemTables.{item_rows, item_rows_before}
use Rattle.bsp_memory_tables.specs.MemoTables.{memo_rows, memo_rows_before}
use Rattle.bsp_memory_tables.specs.RangeTables.{range_rows, range_rows_before}
use Rattle.bsp_memory_tables.specs.TallyTables.{tally_rows, tally_rows_before}
use Rattle.bsp_store_base.specs.Base.{airline_entries, Changes, Content, GivesUpIf, Meta, seconds_of}
use Rattle.bsp_store_load.specs.MemoryRowsTables.{committed_rows, rows_of}
use Rattle.bsp_store_load.specs.Tables.{Tables}
use Rattle.bsp_store_load.specs.Contents.{used_tallies}

-- what a call writes in the open transaction: where it succeeds, the content changes; else the transaction is given up, or
-- is still to be
pub record Saves {S X E : Type 0} (g : Ghosts S) (old new : Held S) (result : Result X E) (P : Content → Type 0) (f : Content → Content) : Type 0 where
  pub ok : OnOk result (Changes g old new P f)
  pub err : OnErr result (GivesUpIf g old new P)

-- a business day and a number of closed periods, and those of a plan
abbrev pub meta_with : CivilDay → ℕ → Meta
meta_with day closed = record { day = day; closed = closed }

abbrev pub meta_of : Published → Meta
meta_of p = meta_with p.day (length p.closed)

-- with the rows of a plan, its airlines apart
abbrev pub with_plan : Published → Content → Content
with_plan p c = record c {
  meta = Some (meta_of p);
  terms = p.terms;
  rates = p.rates;
  periods = p.periods;
  commission_taxes = p.commission_taxes;
}

abbrev pub HasPlan : Published → Content → Type 0
HasPlan p c = with_plan p c ≡ c

-- with the agents, the airlines and the ranges that are in memory
abbrev pub with_callers : Tables → Content → Content
with_callers t c = record c { agents = content nat_cmp t.agents; airlines = airline_entries (rows_of t).published.airlines (content nat_cmp t.airlines); ranges = range_rows t.ranges }

-- those of the last commit
pub record HasCallers (t : Tables) (c : Content) : Type 0 where
  pub agents : c.agents ≡ before nat_cmp t.agents
  pub airlines : c.airlines ≡ airline_entries (committed_rows t).published.airlines (before nat_cmp t.airlines)
  pub ranges : c.ranges ≡ range_rows_before t.ranges

-- with items, with their taxes and with their second documents
abbrev pub with_items : FinMap item_cmp Item → Content → Content
with_items items c = record c { items = items; item_taxes = items; seconds = seconds_of items }

abbrev pub HasItems : FinMap item_cmp Item → Content → Type 0
HasItems items c = with_items items c ≡ c

-- with the tallies to which some row adds, and with their taxes
abbrev pub with_tallies : FinMap tally_cmp Tally → Content → Content
with_tallies tallies c = record c { tallies = used_tallies tallies; tally_taxes = used_tallies tallies }

abbrev pub HasTallies : FinMap tally_cmp Tally → Content → Type 0
HasTallies tallies c = with_tallies tallies c ≡ c

-- with the items, memos and tallies that are in memory
abbrev pub with_documents : Tables → Content → Content
with_documents t c = with_tallies (tally_rows t.tallies) (record (with_items (item_rows t.items) c) { memos = memo_rows t.memos })

-- those of the last commit
pub record HasDocuments (t : Tables) (c : Content) : Type 0 where
  pub items : HasItems (item_rows_before t.items) c
  pub memos : c.memos ≡ memo_rows_before t.memos
  pub tallies : HasTallies (tally_rows_before t.tallies) c
