-- What the tables of an older version keep of a content, and what filling them leaves.
use Rattle.std.specs.Prelude.{[], ⊤, ◌-◌, ◌==◌, ◌∷◌, ◌≡◌, drop, IsPermutation, IsTrue, List, map, not, OnOk, pos, refl, Result, take, true, ℕ}
use Rattle.bsp_store_base.specs.Std.{AllByRecursion, list_all, entries}
use Rattle.bsp_store_base.specs.Sqlite.{column, Error, Ghosts, HasCleanDisk, Held, IsDatabase, KeepsCommit, Row, state, State, Trees}
use Rattle.bsp_store_base.specs.Entries.{Item, ItemKey, Tally, TallyKey}
use Rattle.bsp_store_base.specs.Base.{AreInOrder, columns_of, Content, count, form, Form, IsInOrder, KeepsRows, meta_part, meta_table, our_schema, Part, Spares, width_of}
use Rattle.bsp_store_open.specs.Old.{old_number, old_schema, old_tables, table_count}
use Rattle.bsp_store_open.specs.declared.old_versions.OldVersion.{OldVersion}
use Rattle.bsp_store_open.specs.declared.old_versions.OldVersion.TheVariants.{First, Second}

-- ---- the rows of an older version

-- a row of `meta`, with the number of another version
abbrev pub with_number : ℕ → Row → Row
with_number number [] = []
with_number number (id ∷ []) = id ∷ []
with_number number (id ∷ other ∷ more) = id ∷ count number ∷ more

abbrev pub old_meta_part : OldVersion → Part Content
old_meta_part version = record { tree = meta_table.tree; rows = λ c. map (with_number (old_number version)) (meta_part.rows c) }

-- the parts of our form for the tables of the version, but for the number in `meta`
abbrev pub old_parts : OldVersion → List (Part Content)
old_parts version = old_meta_part version ∷ take (table_count version - 1) (drop 1 form.parts)

-- none of these trees is that of an index
pub old_apart : (version : OldVersion) → list_all (λ p. list_all (λ i. not (i.tree == p.tree)) (old_schema version).indexes) (old_parts version) ≡ true
old_apart First = refl
old_apart Second = refl

abbrev pub old_form : OldVersion → Form Content
old_form version = record { schema = old_schema version; width = width_of; parts = old_parts version; apart = old_apart version }

-- the trees of the tables of the version have these rows, with its number in `meta`
abbrev pub KeepsOldRows : OldVersion → Content → Trees → Type 0
KeepsOldRows version = KeepsRows (old_form version)

-- ---- a content that a book of an older version can have

abbrev pub IsUntaxed : ItemKey × Item → Type 0
IsUntaxed e = (e.1.tax ≡ pos 0) × (e.1.hundredths ≡ 0)

abbrev pub HasNoTax : TallyKey × Tally → Type 0
HasNoTax e = e.1.tax ≡ pos 0

-- no commission tax is published, and no item or tally has one
pub record IsBeforeTaxes (c : Content) : Type 0 where
  pub published : c.commission_taxes ≡ []
  pub items : AllByRecursion IsUntaxed (entries c.item_taxes)
  pub tallies : AllByRecursion HasNoTax (entries c.tally_taxes)

abbrev pub MayHaveTaxes : OldVersion → Content → Type 0
MayHaveTaxes First c = IsBeforeTaxes c
MayHaveTaxes Second c = ⊤

pub record IsOfOld (version : OldVersion) (c : Content) : Type 0 where
  pub taxes : MayHaveTaxes version c
  -- no ticket relates to two documents
  pub seconds : entries c.seconds ≡ []

-- the tables of taxes have the items and the tallies, as where a call has ended
pub record IsTied (c : Content) : Type 0 where
  pub items : c.item_taxes ≡ c.items
  pub tallies : c.tally_taxes ≡ c.tallies

-- the first row that `meta` shows has the number of the version
pub record HasOldNumber (version : OldVersion) (trees : Trees) : Type 0 where
  pub row : Row
  pub more : List Row
  pub shown : IsPermutation (map (columns_of (width_of meta_table.tree)) (trees meta_table.tree)) (row ∷ more)
  pub number : column row 1 ≡ count (old_number version)

-- ---- what filling leaves

-- the rows of the tables of the version ascend by their rowids
abbrev pub AreInOldOrder : OldVersion → Trees → Type 0
AreInOldOrder version trees = AllByRecursion (IsInOrder trees) (map (λ t. t.tree) (old_tables version))

-- the old trees and the new ones keep the same content
pub record IsFilled (version : OldVersion) (old new : Trees) : Type 0 where
  pub ordered : AreInOrder new
  pub forward : (c : Content) → IsTied c → IsOfOld version c → KeepsOldRows version c old → KeepsRows form c new
  pub back : (c : Content) → KeepsRows form c new → HasOldNumber version old → KeepsOldRows version c old
  pub untaxed : (c : Content) → KeepsRows form c new → IsOfOld version c

-- a transaction is open over the tables of the version
pub record Begun (version : OldVersion) (s : State) : Type 0 where
  pub schema : s.now.schema ≡ old_schema version
  pub inside : IsTrue s.in_transaction
  pub is_open : IsTrue s.is_open
  pub sound : IsDatabase s.now
  pub ordered : AreInOldOrder version s.now.trees

abbrev pub IsBegun : {S : Type 0} → Ghosts S → OldVersion → Held S → Type 0
IsBegun g version h = HasCleanDisk (state g h) → Begun version (state g h)

-- our tables are filled, in the transaction, which is still open
pub record Fills (version : OldVersion) (old new : State) : Type 0 where
  pub schema : new.now.schema ≡ our_schema
  pub filled : IsFilled version old.now.trees new.now.trees
  pub inside : IsTrue new.in_transaction
  pub is_open : IsTrue new.is_open
  pub sound : IsDatabase new.now
  pub committed : new.committed ≡ old.committed

-- whatever is answered, nothing is committed, and a stop leaves no more than there was
pub record IsFilling {S : Type 0} (g : Ghosts S) (version : OldVersion) (old new : Held S) (result : Result (Unit {0}) Error) : Type 0 where
  pub spares : IsBegun g version old → Spares g old new
  pub kept : IsBegun g version old → HasCleanDisk (state g new) → KeepsCommit (state g old) (state g new)
  pub filled : OnOk result (IsBegun g version old → HasCleanDisk (state g new) → Fills version (state g old) (state g new))
