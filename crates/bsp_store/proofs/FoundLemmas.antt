-- A connection that was opened over files shows what they have, with the rows of each table in order.
use Rattle.bsp_store_base.proofs.Std.{[], ◌∙◌, ◌∷◌, ap, AllByRecursion, inl, inr, List, map, subst, sym}
use Rattle.std.specs.List.{AllZip}
use Rattle.std.specs.Prelude.{filter}
use Rattle.std.proofs.Math.Logic.{∥∥₁_elim}
use Rattle.bsp_store_base.specs.Sqlite.{catalog_tree, Database, file_state, HasCleanDisk, Held, IsDatabase, IsListed, IsNew, over_files, Row, Table, Trees}
use Rattle.bsp_store_base.specs.Order.{IsInOrder}
use Rattle.sqlite.specs.Files.{AreFoundIn, IsOpened}
use Rattle.sqlite.specs.Start.{FindsIn}
use Rattle.sqlite_catalog.specs.Listing.{IsTableRow, is_table_row}
use Rattle.sqlite_disk.specs.declared.Disk as disk
use Rattle.sqlite_store.proofs.ListingLemmas.{all_ordered}
use Rattle.sqlite_store.specs.Listed.{catalog_rows, is_listed}
use Rattle.sqlite_store.specs.Listing.{all_reals, all_shapes, file_trees}
use Rattle.sqlite_store.specs.declared.store.FileStore.{FileStore}
use Rattle.sqlite_trees.specs.Props.{IsOrdered-prop}
use Rattle.sqlite_trees.specs.View.{IsOrdered as IsShapedAll}
use Rattle.sqlite_wal.specs.Recovery.{Image}
use Rattle.bsp_store_open.proofs.OrderLemmas.{ours_in_order, tables_are_ordered}
use Rattle.bsp_store_open.specs.Opening.{AreAllInOrder, AreOrdered}
use Rattle.bsp_store.specs.Files.{IsJustOpened}

-- without a list of tables there is none
no_tables : (trees : Trees) (tables : List Table) → AllZip IsTableRow [] tables → AllByRecursion (IsInOrder trees) (map (λ t. t.tree) tables)
no_tables trees [] none = tt
no_tables trees (t ∷ tables) none = absurd none

-- what the files hold has its tables in order, since each of its pages was tested
found_in_order : (image : Image) (db : Database) → AreFoundIn image db.trees → IsDatabase db → AreOrdered db
found_in_order image db found sound = elim found [
  | inl it ↦ (
      let size = it.0 in
      let pages = it.1 in
      let wanted = it.2 in
      let is = it.5 in
      let ordered : IsShapedAll (all_shapes wanted) db.trees =
      subst (IsShapedAll (all_shapes wanted)) (sym is) (∥∥₁_elim it.4 (IsOrdered-prop (all_shapes wanted) (file_trees size wanted pages)) (λ ours. all_ordered ours.file.db _)) in
      let listed : IsListed (db.trees catalog_tree) (all_shapes wanted) (all_reals wanted) =
      subst (λ rows. IsListed rows (all_shapes wanted) (all_reals wanted)) (sym (ap (λ (t : Trees). t catalog_tree) is ∙ catalog_rows size wanted _)) (is_listed wanted) in
      tables_are_ordered (all_shapes wanted) (all_reals wanted) db.trees db.schema ordered listed sound
      )
  | inr none ↦ no_tables db.trees db.schema.tables (subst (λ (rows : List Row). AllZip IsTableRow (filter is_table_row rows) db.schema.tables) none.1.1 sound.lists.listed.tables)
]

module _ {D : Type 0} {g : disk.Ghosts D} (image : Image) (c : Held (FileStore D g)) where
  pub just_opened : IsNew c → (HasCleanDisk (file_state c) → IsOpened c) → (HasCleanDisk (file_state c) → FindsIn image (file_state c)) → IsJustOpened over_files c
  just_opened fresh opened found =
      let order : AreAllInOrder over_files c = λ disk.
      let it = opened disk in
      found_in_order image (file_state c).now (subst (AreFoundIn image) (sym (ap (λ (d : Database). d.trees) it.0.clean)) (found disk).reads) (it.1 it.0.is_open).0 in
      record {
        reopens = record {
          earlier = λ disk. disk;
          opens = opened;
          fresh = fresh;
          trees = λ disk. ap (λ (d : Database). d.trees) (opened disk).0.clean;
          ordered = ours_in_order over_files c order;
        };
        ordered = order;
      }
