-- What the tables of a book keep of its content.
use Rattle.std.specs.Prelude.{◌==◌, ◌≡◌, ◌⊎◌, false, IsPermutation, IsTrue, List, map, MatchBool, not, true, ℕ}
use Rattle.std.specs.List.{AllByRecursion, list_all, range_with_len}
use Rattle.bsp_store_base.specs.Sqlite.{Database, Ghosts, HasCleanDisk, Held, IsDatabase, IsTable, Row, Schema, Trees, column, is_int, rowid, state}

-- the columns of a row beside its rowid, where one that it lacks is NULL
abbrev pub columns_of : ℕ → Row → Row
columns_of width r = map (column r) (range_with_len 1 width)

-- the rows of a table in any order, under rowids of its own
pub record KeepsTable (width : ℕ) (content tree : List Row) : Type 0 where
  pub table : IsTable tree
  pub keyed : AllByRecursion (λ r. is_int (rowid r) ≡ true) tree
  pub rows : IsPermutation content (map (columns_of width) tree)

-- a table of the book: its tree, and the rows that a content has there
pub record Part (C : Type 0) : Type 0 where
  pub tree : ℕ
  pub rows : C → List Row

-- the tables of a book, none of whose trees is that of an index
pub record Form (C : Type 0) : Type 0 where
  pub schema : Schema
  -- how many columns the table of a tree has
  pub width : ℕ → ℕ
  pub parts : List (Part C)
  pub apart : list_all (λ p. list_all (λ i. not (i.tree == p.tree)) schema.indexes) parts ≡ true

module _ {C : Type 0} (form : Form C) where
  abbrev pub KeepsRows : C → Trees → Type 0
  KeepsRows c trees = AllByRecursion (λ (p : Part C). KeepsTable (form.width p.tree) (p.rows c) (trees p.tree)) form.parts

  pub record Keeps (c : C) (db : Database) : Type 0 where
    pub schema : db.schema ≡ form.schema
    pub kept : KeepsRows c db.trees

  -- and the trees list the schema and obey it
  abbrev pub KeepsSound : C → Database → Type 0
  KeepsSound c db = Keeps c db × IsDatabase db

  -- trees that list the schema of the tables and obey it, and keep a content
  abbrev pub AreTreesOf : C → Trees → Type 0
  AreTreesOf c trees = KeepsRows c trees × IsDatabase (record { schema = form.schema; trees = trees })

  -- the second content has these rows in the table, and what the first has in each other table
  abbrev pub HasRowsNow : ℕ → C → C → List Row → Type 0
  HasRowsNow tree old new rows = AllByRecursion (λ (p : Part C). MatchBool (p.tree == tree) (IsPermutation (p.rows new) rows) (p.rows new ≡ p.rows old)) form.parts

  module _ {S : Type 0} (g : Ghosts S) (h : Held S) where
    -- the last commit left one content, and a stop leaves one of two; a transaction that is open is to be given up
    pub record HasCommitted (last a b : C) : Type 0 where
      pub kept : HasCleanDisk (state g h) → IsTrue (state g h).is_open → KeepsSound last (state g h).committed
      pub leaves : HasCleanDisk (state g h) → (db : Trees) → (state g h).may_leave db → AreTreesOf a db ⊎ AreTreesOf b db
      pub steady : HasCleanDisk (state g h) → IsTrue (state g h).in_transaction → IsTrue (state g h).is_open

    -- the connection shows one content, the last commit left another, and a stop leaves one of two
    pub record HasContents (now last a b : C) : Type 0 where
      pub held : HasCleanDisk (state g h) → IsTrue (state g h).is_open → KeepsSound now (state g h).now
      pub kept : HasCleanDisk (state g h) → IsTrue (state g h).is_open → KeepsSound last (state g h).committed
      pub leaves : HasCleanDisk (state g h) → (db : Trees) → (state g h).may_leave db → AreTreesOf a db ⊎ AreTreesOf b db

    abbrev pub IsInside : Type 0
    IsInside = HasCleanDisk (state g h) → IsTrue (state g h).in_transaction × IsTrue (state g h).is_open

    abbrev pub IsOutside : Type 0
    IsOutside = HasCleanDisk (state g h) → (state g h).in_transaction ≡ false

-- a query was answered, and what the connection sees is as it was
pub record Reads {S : Type 0} (g : Ghosts S) (old new : Held S) : Type 0 where
  pub earlier : HasCleanDisk (state g new) → HasCleanDisk (state g old)
  pub same : HasCleanDisk (state g new) → (state g new).now ≡ (state g old).now
  pub is_open : HasCleanDisk (state g new) → IsTrue (state g new).is_open

-- a query, whatever it answers, leaves to a stop no more than there was
pub record Spares {S : Type 0} (g : Ghosts S) (old new : Held S) : Type 0 where
  pub earlier : HasCleanDisk (state g new) → HasCleanDisk (state g old)
  pub leaves : HasCleanDisk (state g new) → (db : Trees) → (state g new).may_leave db → (state g old).may_leave db
