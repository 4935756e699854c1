-- The rows of each table are in the order of their rowids, whatever the schema is.
use Rattle.bsp_store_base.proofs.Std.{[], ◌∙◌, ◌∷◌, ◌≡◌, ◌≤◌, AllByRecursion, arith, both_ways, Err, false, IfOk, IsTrue, List, map, Ok, Result, subst, sym, true_from_ne_false, ℕ}
use Rattle.bsp_store_base.specs.Sqlite.{catalog_tree, Ghosts, HasCleanDisk, Held, IsFresh, IsListed, IsLive, IsSound, Opens, Schema, state, Table, Trees}
use Rattle.sqlite_trees.specs.declared.store.Shape.{Shape}
use Rattle.sqlite_trees.specs.declared.store.Shape.TheVariants as shapes
use Rattle.sqlite_trees.specs.View.{doubt, IsClean, IsOrdered as IsShapedAll, IsRolledBack as IsUndone}
use Rattle.sqlite_catalog.proofs.LayoutLemmas.{laid_out}
use Rattle.bsp_store_base.specs.Order.{IsInOrder}
use Rattle.bsp_store_open.specs.Opening.{AreAllInOrder, AreOrdered, IsOrdered}

-- the trees that have the shape of a table are tables
all_in_order : (shape : ℕ → Shape) (trees : Trees) → IsShapedAll shape trees → (tables : List Table) → AllByRecursion (λ t. shape t.tree ≡ shapes.Table) tables
    → AllByRecursion (IsInOrder trees) (map (λ t. t.tree) tables)
all_in_order shape trees ordered [] are = tt
all_in_order shape trees ordered (t ∷ tables) are = (rw are.0 at (ordered t.tree), all_in_order shape trees ordered tables are.1)

-- trees that list a database, each as its shape says, have its tables in order
pub tables_are_ordered : (shape : ℕ → Shape) (reals : ℕ → ℕ) (trees : Trees) (schema : Schema) → IsShapedAll shape trees → IsListed (trees catalog_tree) shape reals → IsSound schema trees
    → AllByRecursion (IsInOrder trees) (map (λ t. t.tree) schema.tables)
tables_are_ordered shape reals trees schema ordered listed sound =
    let laid = laid_out listed (rw listed.itself.0 at (ordered catalog_tree)) sound.lists.listed in
    all_in_order shape trees ordered schema.tables laid.tables

-- a connection over a store that is not broken has the trees of that store
pub opened_in_order : {S E : Type 0} (g : Ghosts S) (store : S) (r : Result (Held S) E) → (IsClean (g.view store) → IsFresh (g.view store))
    → ((g.view store).is_broken ≡ false → IsShapedAll (g.view store).shape (g.view store).trees)
    → ((g.view store).is_broken ≡ false → IsListed ((g.view store).trees catalog_tree) (g.view store).shape (g.view store).reals)
    → IfOk r (λ c. HasCleanDisk (state g c) → Opens (state g c) × IsLive (state g c))
    → IfOk r (λ c. doubt (g.view store).is_clean ≤ doubt (state g c).is_clean)
    → IfOk r (λ c. HasCleanDisk (state g c) → (state g c).now.trees ≡ (g.view store).trees)
    → IfOk r (AreAllInOrder g)
opened_in_order g store (Err e) fresh ordered listed opens clean trees = tt
opened_in_order g store (Ok c) fresh ordered listed opens clean trees = λ disk.
    let was_clean : IsClean (g.view store) = omega (arith, clean, disk) in
    let sound = (fresh was_clean).sound in
    let found = opens disk in
    let schema : Schema = (state g c).now.schema in
    let lists : IsSound schema (g.view store).trees = subst (IsSound schema) (trees disk) (found.1 found.0.is_open).0 in
    subst (λ t. AllByRecursion (IsInOrder t) (map (λ u. u.tree) schema.tables)) (sym (trees disk)) (tables_are_ordered (g.view store).shape (g.view store).reals (g.view store).trees schema (ordered sound) (listed sound) lists)

-- so are those of our tables
pub ours_in_order : {S : Type 0} (g : Ghosts S) (h : Held S) → AreAllInOrder g h → IsOrdered g h
ours_in_order g h all clean ours = subst (λ s. AreOrdered (record { schema = s; trees = (state g h).now.trees })) ours (all clean)

-- the store of a connection was rolled back, and then opened again
pub reopened_trees : {S E : Type 0} (g : Ghosts S) (before after : S) (r : Result (Held S) E)
    → ((g.view after).is_open ≡ false → IsTrue (g.view after).is_broken) → (IsClean (g.view after) → (g.view after).is_broken ≡ false)
    → IsUndone (g.view before) (g.view after) → IfOk r (λ c. doubt (g.view after).is_clean ≤ doubt (state g c).is_clean)
    → IfOk r (λ c. HasCleanDisk (state g c) → (state g c).now.trees ≡ (g.view after).trees)
    → IfOk r (λ c. HasCleanDisk (state g c) → (state g c).now.trees ≡ (g.view before).committed)
reopened_trees g before after (Err e) shut sound undone clean trees = tt
reopened_trees g before after (Ok c) shut sound undone clean trees = λ disk.
    let was_clean : IsClean (g.view after) = omega (arith, clean, disk) in
    let is_open : IsTrue (g.view after).is_open = true_from_ne_false _ (λ closed. both_ways _ (sound was_clean) (shut closed)) in
    trees disk ∙ (undone.undone is_open).0
