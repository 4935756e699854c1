-- A table whose rows are the entries of a list of the content, each with its place: what INSERT of the next is there, and
-- SELECT for all rows.
use Rattle.std.specs.Prelude.{[], ◌++◌, ◌+◌, ◌/◌, ◌∷◌, ◌≡◌, false, IsPermutation, length, List, map, slice_get, Some, take, ℕ}
use Rattle.std.specs.List.{range_with_len}
use Rattle.bsp_store_base.specs.Sqlite.{ascending, Binary, cast_all, col, Command, Insert, Key, lit, Null, overlay, Row, stamped, Table, Term, Trees, Value, value_rows, Values}
use Rattle.bsp_store_base.specs.Base.{columns_of, Content, form, HasRowsNow, IsText, KeepsRows, KeepsTable, our_schema, Part, placed, ShowsTable, width_of}
use Rattle.bsp_store_rows.specs.declared.placed.PlacedStatements.{PlacedStatements}

-- the table: its number in the schema, the list whose entries its rows are, the row of an entry at its place, and the
-- column of the place
pub record PlacedList (A : Type 0) : Type 0 where
  pub at : ℕ
  pub table : Table
  pub of : Content → List A
  pub with : List A → Content → Content
  pub row_of : ℕ × A → Row
  pub place : ℕ

-- what is known of it
pub record IsPlacedList {A : Type 0} (t : PlacedList A) : Type 0 where
  pub is_at : slice_get our_schema.tables t.at ≡ Some t.table
  pub uncounted : t.table.is_counted ≡ false
  pub plain_tree : (db : Trees) → overlay db [] t.table.tree ≡ db t.table.tree
  pub here : (c : Content) (trees : Trees) → KeepsRows form c trees → KeepsTable (width_of t.table.tree) (map t.row_of (placed 0 (t.of c))) (trees t.table.tree)
  pub moved : (c : Content) (l : List A) (rows : List Row) → IsPermutation (map t.row_of (placed 0 l)) rows → HasRowsNow form t.table.tree c (t.with l c) rows
  pub same : (c : Content) → t.with (t.of c) c ≡ c
  pub seen : (l : List A) (c : Content) → t.of (t.with l c) ≡ l
  pub twice : (l m : List A) (c : Content) → t.with l (t.with m c) ≡ t.with l c
  pub again : (r : Row) → columns_of (width_of t.table.tree) r ≡ columns_of (width_of t.table.tree) (Null ∷ columns_of (width_of t.table.tree) r)
  pub wide : (id : Value) (e : ℕ × A) → columns_of (width_of t.table.tree) (id ∷ t.row_of e) ≡ t.row_of e
  pub casts : (e : ℕ × A) → cast_all t.table.columns (t.row_of e) ≡ t.row_of e
  pub sourced : (e : ℕ × A) → value_rows (stamped t.table (t.row_of e)) (width_of t.table.tree + 1) (length (lit Null ∷ map (col 0) (range_with_len 0 (width_of t.table.tree))) / (width_of t.table.tree + 1)) (lit Null ∷ map (col 0) (range_with_len 0 (width_of t.table.tree))) ≡ (Null ∷ t.row_of e) ∷ []

module _ {A : Type 0} (t : PlacedList A) where
  abbrev pub width : ℕ
  width = width_of t.table.tree

  abbrev pub insertion : Command
  insertion = Insert t.at (Values (lit Null ∷ map (col 0) (range_with_len 0 width)) (width + 1))

  -- all rows, in the order of their places
  abbrev pub part : Part Content
  part = record { tree = t.table.tree; rows = λ c. map t.row_of (placed 0 (t.of c)) }

  abbrev pub by_place : List (Term × Key)
  by_place = (col 1 t.place, ascending Binary) ∷ []

  -- the statements mean these
  pub record ArePlacedStatements (s : PlacedStatements) : Type 0 where
    pub insert : IsText s.insert.now insertion
    pub query : ShowsTable part s.query.now

  -- ---- the content

  abbrev pub is_next : ℕ → Content → Type 0
  is_next place now = place ≡ length (t.of now) + 1

  abbrev pub with_more : A → Content → Content
  with_more entry now = t.with (t.of now ++ entry ∷ []) now

  abbrev pub with_all : List A → Content → Content
  with_all entries now = t.with entries now

  abbrev pub has_first : ℕ → List A → Content → Type 0
  has_first count entries now = t.of now ≡ take count entries
