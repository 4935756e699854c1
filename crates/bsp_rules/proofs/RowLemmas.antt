-- The first rows of a table, and those behind them.
use Rattle.std.proofs.Common.{◌≡◌, Bool, true, false, List, [], ◌∷◌, ◌++◌, Ok, Err, refl}
use Rattle.bsp_fields.specs.FirstFault.{first_fault_or}

-- the verdict of the first rows is that of all
pub told_first : {V F : Type 0} (rows more : List (Bool × F)) (value : V) (fault : F) → Err fault ≡ first_fault_or rows (tt {0}) → first_fault_or (rows ++ more) value ≡ Err fault
told_first [] more value fault told = absurd (cc)
told_first ((true, other) ∷ rows) more value fault told = cc
told_first ((false, other) ∷ rows) more value fault told = told_first rows more value fault told

-- where none of the first rows applies, the verdict of all is that of those behind them
pub passed_first : {V F : Type 0} (rows more : List (Bool × F)) (value : V) → Ok (tt {0}) ≡ first_fault_or rows (tt {0}) → first_fault_or (rows ++ more) value ≡ first_fault_or more value
passed_first [] more value told = refl
passed_first ((true, other) ∷ rows) more value told = absurd (cc)
passed_first ((false, other) ∷ rows) more value told = passed_first rows more value told
