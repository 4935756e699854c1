-- What the statements that fill the tables of an older version make of the trees.
use Rattle.std.specs.Prelude.{[], ◌&&◌, ◌==◌, ◌∷◌, ◌≡◌, Bool, IsPermutation, IsTrue, length, List, map, not, OnOk, pos, Result, true, ℕ}
use Rattle.std.specs.List.{AllByRecursion, list_any}
use Rattle.bsp_store_base.specs.Sqlite.{cast_row, column, Error, Ghosts, HasCleanDisk, Held, Int, is_int, IsDatabase, IsTable, KeepsCommit, Null, Row, rowid, Schema, state, State, Table, Trees}
use Rattle.bsp_store_base.specs.Base.{columns_of, commission_tax_table, count, item_table, item_tax_table, meta_table, second_related_table, Spares, tally_table, tally_tax_table, version}
use Rattle.bsp_store_open.specs.Old.{old_tables}
use Rattle.bsp_store_open.specs.declared.old_versions.OldVersion.{OldVersion}
use Rattle.bsp_store_open.specs.declared.old_versions.OldVersion.TheVariants.{First, Second}

-- the columns of a row that has these values, as the table casts them
abbrev pub stored : Table → Row → Row
stored table values = columns_of (length table.columns) (cast_row table (Null ∷ values))

abbrev pub Keyed : List Row → Type 0
Keyed = AllByRecursion (λ r. is_int (rowid r) ≡ true)

-- the rows of a table are those that were made of other rows, each of one, under rowids of their own
pub record AreMade (table : Table) (made : Row → Row) (from into : List Row) : Type 0 where
  pub rising : IsTable into
  pub keyed : Keyed into
  pub rows : IsPermutation (map (λ r. stored table (made r)) from) (map (columns_of (length table.columns)) into)

-- the row of an item's tax, which is 0
abbrev pub untaxed_item : Row → Row
untaxed_item item = column item 1 ∷ column item 2 ∷ column item 3 ∷ Int (pos 0) ∷ Int (pos 0) ∷ []

-- the row of a tally's tax, which is 0
abbrev pub untaxed_tally : Row → Row
untaxed_tally tally = column tally 1 ∷ column tally 2 ∷ column tally 3 ∷ Int (pos 0) ∷ []

-- a row of `meta` with our version
abbrev pub with_version : Row → Row
with_version meta = column meta 1 ∷ count version ∷ column meta 3 ∷ column meta 4 ∷ []

-- the number is that of a table of the version
abbrev pub is_tree : OldVersion → ℕ → Bool
is_tree v x = list_any (λ t. t.tree == x) (old_tables v)

-- the tables of taxes were made, with a tax of 0 for each item and each tally
pub record HasTaxes (old new : Trees) : Type 0 where
  pub published : new commission_tax_table.tree ≡ []
  pub items : AreMade item_tax_table untaxed_item (old item_table.tree) (new item_tax_table.tree)
  pub tallies : AreMade tally_tax_table untaxed_tally (old tally_table.tree) (new tally_tax_table.tree)
  pub others : (x : ℕ) → is_tree First x ≡ true → new x ≡ old x

-- the table of second related documents was made, and `meta` has our version
pub record HasSeconds (old new : Trees) : Type 0 where
  pub seconds : new second_related_table.tree ≡ []
  pub meta : IsTable (old meta_table.tree) → Keyed (old meta_table.tree) → AreMade meta_table with_version (old meta_table.tree) (new meta_table.tree)
  pub others : (x : ℕ) → (not (x == meta_table.tree) && is_tree Second x) ≡ true → new x ≡ old x

-- a transaction is open over these tables
pub record At (tables : Schema) (s : State) : Type 0 where
  pub schema : s.now.schema ≡ tables
  pub inside : IsTrue s.in_transaction
  pub is_open : IsTrue s.is_open
  pub sound : IsDatabase s.now

abbrev pub IsAt : {S : Type 0} → Ghosts S → Schema → Held S → Type 0
IsAt g schema h = HasCleanDisk (state g h) → At schema (state g h)

-- it still is, over other tables, and their trees came of the old ones so
pub record Goes (schema : Schema) (Made : Trees → Trees → Type 0) (old new : State) : Type 0 where
  pub at : At schema new
  pub made : Made old.now.trees new.now.trees
  pub committed : new.committed ≡ old.committed

-- what a text that adds tables ensures, whatever is answered: nothing is committed, and a stop leaves no more than there was
pub record IsAdded {S : Type 0} (g : Ghosts S) (before after : Schema) (Made : Trees → Trees → Type 0) (old new : Held S) (result : Result (Unit {0}) Error) : Type 0 where
  pub spares : IsAt g before old → Spares g old new
  pub kept : IsAt g before old → HasCleanDisk (state g new) → KeepsCommit (state g old) (state g new)
  pub added : OnOk result (IsAt g before old → HasCleanDisk (state g new) → Goes after Made (state g old) (state g new))
