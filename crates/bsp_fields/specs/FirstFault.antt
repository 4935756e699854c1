-- Tables of faults: what is asked for, or the first fault that applies.
use Rattle.std.specs.Prelude.{Bool, List, [], ◌∷◌, Result, Ok, Err, if◌then◌else◌}

-- a row is a test and its fault; the answer is the fault of the first row whose test holds, and the value where none holds
abbrev pub first_fault_or : {V F : Type 0} → List (Bool × F) → V → Result V F
first_fault_or [] value = Ok value
first_fault_or (row ∷ rows) value = if row.0 then Err row.1 else first_fault_or rows value
