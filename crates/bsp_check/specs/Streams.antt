-- What a call reads and writes.
use Rattle.std.specs.Prelude.{◌≡◌, ◌≤◌, ◌⊎◌, ◌+◌, ℕ, List, ◌++◌, length, Option, Result, Ok, Err}
use Rattle.std.specs.Io.KnownBytes.{IsAtEnd, Keeps, Appends}
use Rattle.bsp_check.specs.declared.fault.Fault.{Fault}
use Rattle.bsp_check.specs.declared.fault.Fault.TheVariants.{Read, TooLong, Write, Memory}
use Rattle.bsp_check.specs.declared.verdict.Verdict.{Verdict}
use Rattle.bsp_check.specs.Verdicts.{verdict_status}

-- the most bytes that an input may have
abbrev pub most : ℕ
most = 1073741824

-- the text was written, or a part of it where writing failed
abbrev pub IsSent : Verdict → List ℕ → Option (List ℕ) → Option (List ℕ) → Result Verdict Fault → Type 0
IsSent verdict text before after (Ok told) = (told ≡ verdict) × Appends before after text
IsSent verdict text before after (Err Write) = (front : List ℕ) × (back : List ℕ) × (text ≡ front ++ back) × Appends before after front
IsSent verdict text before after (Err Read) = ⊥
IsSent verdict text before after (Err TooLong) = ⊥
IsSent verdict text before after (Err Memory) = ⊥

-- an input that was read to its end, of these bytes and within the limit, and of whose report a first part was written
pub record IsFirstPart (Reports : List ℕ → ℕ → List ℕ → Type 0) (limit : ℕ) (bytes : List ℕ) (rest before after : Option (List ℕ)) : Type 0 where
  pub at_end : IsAtEnd rest
  pub within : length bytes ≤ limit
  pub status : ℕ
  pub front : List ℕ
  pub back : List ℕ
  pub report : Reports bytes status (front ++ back)
  pub written : Appends before after front

-- the report on an input was written that was read to its end and is within the limit, or a first part of it where a write
-- failed; else nothing. An input is too long only where one byte more than the limit was read. What a report with its exit
-- status is, the relation says.
abbrev pub IsReported : (List ℕ → ℕ → List ℕ → Type 0) → ℕ → List ℕ → Option (List ℕ) → Option (List ℕ) → Option (List ℕ) → Result Verdict Fault → Type 0
IsReported Reports limit bytes rest before after (Ok verdict) =
    IsAtEnd rest × (length bytes ≤ limit) × (text : List ℕ) × Reports bytes (verdict_status verdict) text × Appends before after text
IsReported Reports limit bytes rest before after (Err Read) = Keeps before after
IsReported Reports limit bytes rest before after (Err TooLong) = (length bytes ≡ limit + 1) × Keeps before after
IsReported Reports limit bytes rest before after (Err Write) = IsFirstPart Reports limit bytes rest before after
IsReported Reports limit bytes rest before after (Err Memory) = Keeps before after

-- nothing was written, or a first part of the report on an input that was read to its end and is within the limit
abbrev pub IsCutShort : (List ℕ → ℕ → List ℕ → Type 0) → ℕ → List ℕ → Option (List ℕ) → Option (List ℕ) → Option (List ℕ) → Type 0
IsCutShort Reports limit bytes rest before after = Keeps before after ⊎ IsFirstPart Reports limit bytes rest before after
