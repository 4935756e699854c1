-- A table whose rows are the entries of a map of the content, found by its first columns: what DELETE, INSERT and UPDATE by a
-- key are there, and SELECT for all rows.
use Rattle.std.specs.Prelude.{[], ◌++◌, ◌+◌, ◌-◌, ◌/◌, ◌∷◌, ◌≡◌, Bool, false, is_some, IsPermutation, length, List, map, None, Option, Result, slice_get, Some, true, ℕ}
use Rattle.bsp_store_base.specs.Std.{entries, FinMap, get, insert, IsAntisymmetric, remove, eq_by_cmp, IsTotalOrder, list_all, range_with_len, Ordering}
use Rattle.bsp_store_base.specs.Sqlite.{Binary, Column, Command, CommitsBy, Compare, Delete, Eq, Error, Executes, Ghosts, HasCleanDisk, Held, Insert, IsPlain, Key, Null, Row, Select, Survives, Table, Term, Trees, Update, Value, Values, ascending, cast_all, col, eval_all, holds, lit, op2, overlay, rowid, stamped, state, understood, value_rows}
use Rattle.bsp_store_base.specs.declared.keyed_table.Statements.{Statements}
use Rattle.bsp_store_base.specs.Schema.{our_schema}
use Rattle.bsp_store_base.specs.Shows.{IsCommand, ShowsTable}
use Rattle.bsp_store_base.specs.Simple.{simple}
use Rattle.bsp_store_base.specs.Kept.{HasRowsNow, KeepsRows, KeepsTable, Part, columns_of}
use Rattle.bsp_store_base.specs.Content.{Content, form, width_of}
use Rattle.bsp_store_base.specs.Synced.{with_value}

-- a column is what a parameter is
abbrev eq : ℕ → ℕ → Term
eq column param = op2 (Compare Eq Binary) (col 1 column) (col 0 param)

-- WHERE the first columns are what the first parameters are
abbrev pub key_test : ℕ → List Term
key_test keys = map (λ i. eq (i + 1) i) (range_with_len 0 keys)

-- what an UPDATE makes of a row, whose first columns stay: its rowid, and then the new row
abbrev pub key_project : ℕ → ℕ → List Term
key_project keys width = col 1 0 ∷ col 1 0 ∷ (map (col 1) (range_with_len 1 keys) ++ map (col 0) (range_with_len keys (width - keys)))

-- the table: its number in the schema, the map whose entries its rows are, and the row of an entry, which begins with the
-- columns of its key
pub record MapTable (K V : Type 0) (R : K → K → Ordering) : Type 0 where
  pub at : ℕ
  pub table : Table
  pub of : Content → FinMap R V
  pub with : FinMap R V → Content → Content
  pub row_of : K × V → Row
  pub key_of : K → Row
  pub keys : ℕ

-- what is known of it
pub record IsMapTable {K V : Type 0} {R : K → K → Ordering} (t : MapTable K V R) : Type 0 where
  pub total : IsTotalOrder R
  pub exact : IsAntisymmetric R
  pub is_at : slice_get our_schema.tables t.at ≡ Some t.table
  pub uncounted : t.table.is_counted ≡ false
  pub plain_tree : (db : Trees) → overlay db [] t.table.tree ≡ db t.table.tree
  pub here : (c : Content) (trees : Trees) → KeepsRows form c trees → KeepsTable (width_of t.table.tree) (map t.row_of (entries (t.of c))) (trees t.table.tree)
  pub moved : (c : Content) (m : FinMap R V) (rows : List Row) → IsPermutation (map t.row_of (entries m)) rows → HasRowsNow form t.table.tree c (t.with m c) rows
  pub same : (c : Content) → t.with (t.of c) c ≡ c
  pub seen : (m : FinMap R V) (c : Content) → t.of (t.with m c) ≡ m
  pub twice : (m n : FinMap R V) (c : Content) → t.with m (t.with n c) ≡ t.with m c
  pub tests : (k : K) (r : Row) → list_all (holds (t.key_of k ∷ r ∷ [])) (key_test t.keys) ≡ list_all (holds (t.key_of k ∷ (Null ∷ columns_of (width_of t.table.tree) r) ∷ [])) (key_test t.keys)
  pub again : (r : Row) → columns_of (width_of t.table.tree) r ≡ columns_of (width_of t.table.tree) (Null ∷ columns_of (width_of t.table.tree) r)
  pub same_key : (k : K) (e : K × V) → list_all (holds (t.key_of k ∷ (Null ∷ t.row_of e) ∷ [])) (key_test t.keys) ≡ eq_by_cmp R k e.0
  pub wide : (id : Value) (e : K × V) → columns_of (width_of t.table.tree) (id ∷ t.row_of e) ≡ t.row_of e
  pub casts : (e : K × V) → cast_all t.table.columns (t.row_of e) ≡ t.row_of e
  pub sourced : (e : K × V) → value_rows (stamped t.table (t.row_of e)) (width_of t.table.tree + 1) (length (lit Null ∷ map (col 0) (range_with_len 0 (width_of t.table.tree))) / (width_of t.table.tree + 1)) (lit Null ∷ map (col 0) (range_with_len 0 (width_of t.table.tree))) ≡ (Null ∷ t.row_of e) ∷ []
  -- the parameters of an UPDATE are a whole row, which begins with its key
  pub given : (e : K × V) (r : Row) → list_all (holds (t.row_of e ∷ r ∷ [])) (key_test t.keys) ≡ list_all (holds (t.key_of e.0 ∷ r ∷ [])) (key_test t.keys)
  pub reads : (e : K × V) (r : Row) → eval_all (key_project t.keys (width_of t.table.tree)) (t.row_of e ∷ r ∷ []) ≡ eval_all (key_project t.keys (width_of t.table.tree)) (t.row_of e ∷ (rowid r ∷ columns_of (width_of t.table.tree) r) ∷ [])
  pub made : (k : K) (old new : V) (id : Value) → eval_all (key_project t.keys (width_of t.table.tree)) (t.row_of (k, new) ∷ (id ∷ t.row_of (k, old)) ∷ []) ≡ id ∷ id ∷ t.row_of (k, new)

-- a text means this command, and asks for no rows
abbrev pub IsText : List ℕ → Command → Type 0
IsText text command = IsCommand (understood our_schema text) command × IsPlain (understood our_schema text)

module _ {K V : Type 0} {R : K → K → Ordering} (t : MapTable K V R) where
  abbrev pub width : ℕ
  width = width_of t.table.tree

  -- ---- the content

  abbrev pub without : K → Content → Content
  without k c = t.with (remove (t.of c) k) c

  abbrev pub with_one : K → V → Content → Content
  with_one k v c = t.with (insert (t.of c) k v) c

  abbrev pub after : K → Option V → Content → Content
  after k v c = t.with (with_value k v (t.of c)) c

  abbrev pub lacks : K → Content → Type 0
  lacks k c = get (t.of c) k ≡ None

  abbrev pub has : K → Content → Type 0
  has k c = is_some (get (t.of c) k) ≡ true

  abbrev pub holds_row : K → Bool → Content → Type 0
  holds_row k there now = is_some (get (t.of now) k) ≡ there

  -- ---- the statements

  abbrev pub deletion : Command
  deletion = Delete t.at (record { lets = []; body = simple t.table.tree (key_test t.keys) (col 1 0 ∷ []) [] })

  abbrev pub insertion : Command
  insertion = Insert t.at (Values (lit Null ∷ map (col 0) (range_with_len 0 width)) (width + 1))

  abbrev pub change : Command
  change = Update t.at (record { lets = []; body = simple t.table.tree (key_test t.keys) (key_project t.keys width) [] })

  -- all rows, in the order of their keys
  abbrev pub part : Part Content
  part = record { tree = t.table.tree; rows = λ c. map t.row_of (entries (t.of c)) }

  abbrev pub by_keys : List (Term × Key)
  by_keys = map (λ i. (col 1 (i + 1), ascending Binary)) (range_with_len 0 t.keys)

  abbrev pub selection : Command
  selection = Select (record { lets = []; body = simple t.table.tree [] (map (col 1) (range_with_len 1 width)) by_keys }) (map (λ (c : Column). c.name) t.table.columns)

  -- the statements mean these
  pub record AreStatementsOf (s : Statements) : Type 0 where
    pub delete : IsText s.delete.now deletion
    pub insert : IsText s.insert.now insertion
    pub update : IsText s.update.now change
    pub query : ShowsTable part s.query.now

-- a statement ran with these parameters, or failed
pub record HasRun {S : Type 0} (g : Ghosts S) (text : List ℕ) (params : Row) (old new : Held S) (result : Result ℕ Error) : Type 0 where
  pub runs : HasCleanDisk (state g new) → Executes text params (state g old) (state g new) result
  pub survives : Survives (state g old) (state g new) (CommitsBy text params (state g old))
