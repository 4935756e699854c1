-- A write to one table, and what the book's tables keep after it.
use Rattle.bsp_store_base.proofs.Std.{[], ◌==◌, ◌∷◌, ◌≡◌, ◌≢◌, AllByRecursion, and_parts, Bool, eqb-false, eqb-true, false, IsPermutation, IsPermutation-trans, List, list_all, MatchBool, not, not-true, refl, subst, sym, true, ℕ}
use Rattle.bsp_store_base.specs.Sqlite.{Database, Index, IsNoIndex, Row, Schema, Trees}
use Rattle.bsp_store_base.specs.Kept.{KeepsTable, Part, Form, Keeps, HasRowsNow}

no_index : (t : ℕ) (indexes : List Index) → list_all (λ i. not (i.tree == t)) indexes ≡ true → AllByRecursion (λ i. i.tree ≢ t) indexes
no_index t [] e = tt
no_index t (i ∷ is) e = let both = and_parts _ _ e in (eqb-false _ _ (not-true _ both.0), no_index t is both.1)

pub same_rows : (width : ℕ) (more less tree : List Row) → IsPermutation more less → KeepsTable width less tree → KeepsTable width more tree
same_rows width more less tree same k = record { table = k.table; keyed = k.keyed; rows = IsPermutation-trans _ _ _ same k.rows }

module _ {C : Type 0} (schema : Schema) (width : ℕ → ℕ) (old new : Trees) (tree : ℕ) (c next : C) (rows : List Row) (kept : KeepsTable (width tree) rows (new tree)) (others : (t : ℕ) → t ≢ tree → IsNoIndex schema t → new t ≡ old t) where
  at_each : (parts : List (Part C)) → list_all (λ p. list_all (λ i. not (i.tree == p.tree)) schema.indexes) parts ≡ true → AllByRecursion (λ (p : Part C). KeepsTable (width p.tree) (p.rows c) (old p.tree)) parts
      → AllByRecursion (λ (p : Part C). MatchBool (p.tree == tree) (IsPermutation (p.rows next) rows) (p.rows next ≡ p.rows c)) parts → AllByRecursion (λ (p : Part C). KeepsTable (width p.tree) (p.rows next) (new p.tree)) parts
  at_each [] apart was changes = tt
  at_each (p ∷ ps) apart was changes = (go (p.tree == tree) refl changes.0, at_each ps (and_parts _ _ apart).1 was.1 changes.1)
    where
      go : (b : Bool) → (p.tree == tree) ≡ b → MatchBool b (IsPermutation (p.rows next) rows) (p.rows next ≡ p.rows c) → KeepsTable (width p.tree) (p.rows next) (new p.tree)
      go true e same = subst (λ t. KeepsTable (width t) (p.rows next) (new t)) (sym (eqb-true _ _ e)) (same_rows _ _ _ _ same kept)
      go false e same = subst (λ l. KeepsTable (width p.tree) l (new p.tree)) (sym same) (subst (KeepsTable (width p.tree) (p.rows c)) (sym (others p.tree (eqb-false _ _ e) (no_index p.tree schema.indexes (and_parts _ _ apart).0))) was.0)

-- the tables keep the next content, where the write left its rows in its table and each other table as it was
pub wrote : {C : Type 0} (form : Form C) (old new : Database) (tree : ℕ) (c next : C) (rows : List Row) → new.schema ≡ form.schema → KeepsTable (form.width tree) rows (new.trees tree)
    → ((t : ℕ) → t ≢ tree → IsNoIndex form.schema t → new.trees t ≡ old.trees t) → HasRowsNow form tree c next rows → Keeps form c old → Keeps form next new
wrote form old new tree c next rows same kept others changes keeps =
    record { schema = same; kept = at_each form.schema form.width old.trees new.trees tree c next rows kept others form.parts form.apart keeps.kept changes }
