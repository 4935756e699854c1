-- The content of the tables that keep rows.
use Rattle.std.specs.Prelude.{◌≡◌, if◌then◌else◌, None, Option, Some, filter}
use Rattle.std.specs.FinMap.{entries, FinMap, from_entries, get}
use Rattle.sqlite_trees.specs.Tree.{Trees}
use Rattle.bsp_store_base.specs.Entries.{Rows, Tally, tally_cmp, tally_of, TallyKey}
use Rattle.bsp_memory_tables.specs.TallyTables.{tally_rows, tally_rows_before}
use Rattle.bsp_memory_rows.specs.Lookups.{has_rows}
use Rattle.bsp_memory_rows.specs.Tables.{committed_rows, rows_of}
use Rattle.bsp_memory_rows.specs.declared.tables.Tables.{Tables}
use Rattle.bsp_store_base.specs.Base.{Content, content_with, form, KeepsRows}

-- a tally to which some row adds
abbrev pub used : Tally → Option Tally
used t = if has_rows t then Some t else None

-- the tallies to which some row adds
abbrev pub used_tallies : FinMap tally_cmp Tally → FinMap tally_cmp Tally
used_tallies m = from_entries (filter (λ e. has_rows e.1) (entries m))

-- the tables have these rows, and the tallies to which some of them add
pub record IsContentOf (rows : Rows) (c : Content) : Type 0 where
  pub same : c ≡ content_with rows c.tallies
  pub tallies : (k : TallyKey) → get c.tallies k ≡ used (tally_of k rows)

-- the trees of a database keep these rows
abbrev pub KeepsBook : Rows → Trees → Type 0
KeepsBook rows trees = (c : Content) × IsContentOf rows c × KeepsRows form c trees

-- the content of the tables in memory, and what it was at the last commit
abbrev pub content_now : Tables → Content
content_now t = content_with (rows_of t) (used_tallies (tally_rows t.tallies))

abbrev pub content_before : Tables → Content
content_before t = content_with (committed_rows t) (used_tallies (tally_rows_before t.tallies))

-- a tally that is kept, where some row adds to it
abbrev pub used_at : Option Tally → Option Tally
used_at None = None
used_at (Some t) = used t
