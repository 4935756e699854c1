-- The order of the rows of the tables.
use Rattle.std.specs.Prelude.{IsTrue, List, map, ℕ}
use Rattle.std.specs.List.{AllByRecursion}
use Rattle.bsp_store_base.specs.Sqlite.{IsTable, Trees, is_int, rowid}
use Rattle.bsp_store_base.specs.Schema.{our_tables}

-- the trees of the fourteen tables
abbrev pub table_trees : List ℕ
table_trees = map (λ t. t.tree) our_tables

-- the rows of the tree ascend by their rowids, which are integers
abbrev pub IsInOrder : Trees → ℕ → Type 0
IsInOrder trees t = IsTable (trees t) × AllByRecursion (λ r. IsTrue (is_int (rowid r))) (trees t)

-- so do those of each table
abbrev pub AreInOrder : Trees → Type 0
AreInOrder trees = AllByRecursion (IsInOrder trees) table_trees
