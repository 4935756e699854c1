-- Trees of a book of an earlier version: which version it is, and which rows it has.
use Rattle.bsp_store_base.proofs.Std.{[], ◌∙◌, ◌∷◌, ◌≡◌, ap, IsPermutation, IsPermutation-refl, length, List, map, refl, subst, sym, ℕ}
use Rattle.bsp_store_base.proofs.Sqlite.{catalog_tree, column, Ghosts, HasCleanDisk, Held, Lists, one_permutation, Row, state, Trees}
use Rattle.sqlite_catalog.proofs.ReadLemmas.{lists_once}
use Rattle.bsp_store_base.proofs.Entries.{Rows, Sound}
use Rattle.bsp_store_load.specs.Columns.{Meta, count, meta_row, meta_rows, version as our_version}
use Rattle.bsp_store_base.proofs.Base.{columns_of, Content, meta_part, width_of}
use Rattle.bsp_store_load.specs.Contents.{KeepsBook}
use Rattle.bsp_store_load.proofs.FormedContent.{formed_content}
use Rattle.bsp_store_open.specs.Old.{old_number, old_schema}
use Rattle.bsp_store_open.specs.declared.old_versions.OldVersion.{OldVersion}
use Rattle.bsp_store_open.specs.Opening.{Reopens}
use Rattle.bsp_store_open.specs.Migrating.{HasNumber, IsMigrationOf, IsOldBook, KeepsNoOld, KeepsOldBook, KeepsOnlyOld}
use Rattle.bsp_store_load.specs.Formed.{IsBook}
use Rattle.bsp_store_open.proofs.MetaLemmas.{has_number}
use Rattle.bsp_store_open.proofs.VersionLemmas.{one_number, other_number}

-- ---- the number

-- the rows that `meta` shows
abbrev metas : Trees → List Row
metas trees = map (columns_of (width_of meta_part.tree)) (trees meta_part.tree)

-- rows have one number
same_number : (a b : ℕ) (rows : List Row) → HasNumber a rows → HasNumber b rows → a ≡ b
same_number a b rows x y =
    let rows_are : x.row ∷ x.more ≡ y.row ∷ y.more = sym x.first ∙ y.first in
    let same : x.row ≡ y.row = cc rows_are in
    let value : count a ≡ count b = sym x.version ∙ ap (λ (r : Row). column r 1) same ∙ y.version in
    cc value

old_numbered : (version : OldVersion) (rows : Rows) (trees : Trees) → KeepsOldBook version rows trees → HasNumber (old_number version) (metas trees)
old_numbered version rows trees keeps = has_number version trees rows keeps.0 keeps.1 keeps.3 (metas trees) (IsPermutation-refl (metas trees))

our_numbered : (rows : Rows) (trees : Trees) → KeepsBook rows trees → HasNumber our_version (metas trees)
our_numbered rows trees keeps =
    let m : Meta = record { day = rows.published.day; closed = length rows.published.closed } in
    let is : meta_rows keeps.0.meta ≡ meta_row m ∷ [] = ap (λ (d : Content). meta_rows d.meta) keeps.1.same in
    let one : IsPermutation (meta_row m ∷ []) (metas trees) = subst (λ (l : List Row). IsPermutation l (metas trees)) is keeps.2.0.rows in
    record { row = meta_row m; more = []; first = one_permutation (meta_row m) (metas trees) one; version = refl }

-- trees that keep a book of an earlier version keep none of this one
pub not_this_book : (version : OldVersion) (a b : Rows) (trees : Trees) → KeepsOldBook version a trees → KeepsBook b trees → ⊥
not_this_book version a b trees old ours = other_number version (same_number _ _ (metas trees) (old_numbered version a trees old) (our_numbered b trees ours))

-- and none of another version
pub same_version : (v w : OldVersion) (a b : Rows) (trees : Trees) → KeepsOldBook v a trees → KeepsOldBook w b trees → v ≡ w
same_version v w a b trees x y = one_number v w (same_number _ _ (metas trees) (old_numbered v a trees x) (old_numbered w b trees y))

-- ---- the rows

-- trees of a book with sound rows keep one
pub keeps_some : (version : OldVersion) (rows : Rows) (trees : Trees) → Sound rows → IsOldBook version rows trees → KeepsNoOld version trees → ⊥
keeps_some version rows trees sound book none =
    let it = book.keeps in
    none rows it.0 sound it.1 (formed_content rows it.0 book.formed it.1) it.2 it.3

-- the only rows that were found are those of the book
pub only_rows : (v w : OldVersion) (rows other : Rows) (trees : Trees) → Sound rows → IsOldBook v rows trees → KeepsOldBook w other trees → KeepsOnlyOld w other trees → rows ≡ other
only_rows v w rows other trees sound book keeps only =
    only rows sound book.formed (subst (λ (u : OldVersion). KeepsOldBook u rows trees) (same_version v w rows other trees book.keeps keeps) book.keeps)

-- a migration of the book has its rows
pub migrated_book : (v w : OldVersion) (rows : Rows) (old new : Trees) → Sound rows → IsOldBook v rows old → IsMigrationOf w old new → IsBook rows new
migrated_book v w rows old new sound book it = subst (λ (r : Rows). IsBook r new) (sym (only_rows v w rows it.0 old sound book it.2 it.3)) it.4

-- ---- the tables

-- opened again, the store shows the tables of the version
pub old_ours : {S : Type 0} (g : Ghosts S) (version : OldVersion) (rows : Rows) (before now : Held S) → IsOldBook version rows (state g before).committed.trees → HasCleanDisk (state g now) → Reopens g before now → now.schema ≡ old_schema version
old_ours g version rows before now book clean again =
    let opens = again.opens clean in
    let live = (opens.1 opens.0.is_open).0 in
    lists_once ((state g before).committed.trees catalog_tree) now.schema (old_schema version) (subst (λ (t : Trees). Lists (t catalog_tree) now.schema) (again.trees clean) live.lists) book.sound.lists
