-- Lemmas on tables of faults.
use Rattle.std.proofs.Common.{◌≡◌, Bool, true, false, List, [], ◌∷◌, ◌++◌, Ok, Err, refl}
use Rattle.bsp_fields.specs.FirstFault.{first_fault_or}

-- where there is a value, the first row does not apply, and the other rows give the value
pub row_passed : {V F : Type 0} (test : Bool) (fault : F) (rows : List (Bool × F)) (v x : V) → first_fault_or ((test, fault) ∷ rows) v ≡ Ok x → (test ≡ false) × (first_fault_or rows v ≡ Ok x)
row_passed true fault rows v x h = absurd (cc h)
row_passed false fault rows v x h = (refl, h)

-- a row that does not apply can be left out
pub row_skipped : {V F : Type 0} (test : Bool) (fault : F) (rows : List (Bool × F)) (v : V) → test ≡ false → first_fault_or ((test, fault) ∷ rows) v ≡ first_fault_or rows v
row_skipped test fault rows v h = rw h refl

-- the first row's fault, where it applies
pub row_told : {V F : Type 0} (test : Bool) (fault : F) (rows : List (Bool × F)) (v : V) → test ≡ true → first_fault_or ((test, fault) ∷ rows) v ≡ Err fault
row_told test fault rows v h = rw h refl

-- the value, where no row is left
pub value_told : {V F : Type 0} (v x : V) → first_fault_or {F = F} [] v ≡ Ok x → v ≡ x
value_told v x h = cc h

-- the fault of a table of one row
pub only_row_told : {V F : Type 0} (test : Bool) (fault : F) (v : V) (e : F) → first_fault_or ((test, fault) ∷ []) v ≡ Err e → (test ≡ true) × (fault ≡ e)
only_row_told true fault v e h = (refl, cc h)
only_row_told false fault v e h = absurd (cc h)

-- the fault of a table is that of each longer one
pub rows_told : {V F : Type 0} (rows more : List (Bool × F)) (v : V) (e : F) → first_fault_or rows v ≡ Err e → first_fault_or (rows ++ more) v ≡ Err e
rows_told [] more v e h = absurd (cc h)
rows_told ((true, fault) ∷ rows) more v e h = h
rows_told ((false, fault) ∷ rows) more v e h = rows_told rows more v e h
