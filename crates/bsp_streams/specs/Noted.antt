-- What a reader or a writer notes of one call.
use Rattle.std.specs.Prelude.{ℕ, ◌+◌, ◌-◌, ◌^◌, Bool, true, ◌&&◌, ◌==◌, not, min, List, length, if◌then◌else◌, Result, Ok, Err}

-- whether a call failed, behind one more
abbrev pub failed_by : {A E : Type 0} → Bool → Result A E → Bool
failed_by before (Ok value) = before
failed_by before (Err e) = true

-- the same behind a write of the bytes, which also fails where it takes none of some
abbrev pub failed_by_write : {E : Type 0} → Bool → List ℕ → Result ℕ E → Bool
failed_by_write before bytes (Ok count) = if (count == 0) && not (length bytes == 0) then true else before
failed_by_write before bytes (Err e) = true

-- the reads that brought no byte, up to the largest number, behind one more read
abbrev pub empty_reads : {E : Type 0} → ℕ → Result ℕ E → ℕ
empty_reads before (Ok count) = if count == 0 then min (before + 1) (2 ^ 64 - 1) else before
empty_reads before (Err e) = min (before + 1) (2 ^ 64 - 1)
