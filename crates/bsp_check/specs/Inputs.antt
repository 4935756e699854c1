-- The report on an input, while it is not yet written.
use Rattle.std.specs.Prelude.{◌≡◌, ◌≢◌, ◌≤◌, ◌+◌, ℕ, List, length, Option}
use Rattle.std.specs.Io.KnownBytes.{Consumes, IsAtEnd}
use Rattle.bsp_check.specs.declared.fault.Fault.{Fault}
use Rattle.bsp_check.specs.declared.fault.Fault.TheVariants.{TooLong, Write}
use Rattle.bsp_check.specs.declared.report.Report.{Report}
use Rattle.bsp_check.specs.declared.verdict.Verdict.{Verdict}
use Rattle.bsp_check.specs.Verdicts.{verdict_status}

-- the report is on these bytes. What a report and an explanation are, the relations say
abbrev pub IsReportOn : (List ℕ → ℕ → List ℕ → Type 0) → (List ℕ → Verdict → Type 0) → List ℕ → Report → Type 0
IsReportOn Reports Explained bytes report = Reports bytes (verdict_status report.verdict) report.text.items × Explained bytes report.verdict

-- the input was read to its end, and the report is on its bytes
pub record IsInputReport (Reports : List ℕ → ℕ → List ℕ → Type 0) (Explained : List ℕ → Verdict → Type 0) (limit : ℕ) (before after : Option (List ℕ)) (report : Report) : Type 0 where
  pub bytes : List ℕ
  pub taken : Consumes before after bytes
  pub at_end : IsAtEnd after
  pub within : length bytes ≤ limit
  pub is : IsReportOn Reports Explained bytes report

-- there is no report: of a longer input one byte more than the limit was read
pub record IsUnread (limit : ℕ) (fault : Fault) (before after : Option (List ℕ)) : Type 0 where
  pub stopped : (got : List ℕ) × Consumes before after got × (length got ≤ limit + 1)
  pub not_write : fault ≢ Write
  pub long : fault ≡ TooLong → (got : List ℕ) × Consumes before after got × (length got ≡ limit + 1)
