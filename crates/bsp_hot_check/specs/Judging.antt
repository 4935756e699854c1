-- How lines stand.
use Rattle.std.specs.Prelude.{ℕ, ◌+◌, List, [], ◌∷◌, Option, Some, None, Result, Ok, Err, if◌then◌else◌}
use Rattle.bsp_hot_records.specs.declared.model.Record.{Record as JudgedRecord}
use Rattle.bsp_hot_records.specs.Reading.{judged_at}
use Rattle.bsp_hot_check.specs.declared.model.Place.TheVariants.{Ended}
use Rattle.bsp_hot_check.specs.declared.model.Standing.{Standing}
use Rattle.bsp_hot_check.specs.Standings.{step, form_at, is_at}

abbrev pub step_or : Standing → Option JudgedRecord → Option Standing
step_or at None = None
step_or at (Some r) = step at r

abbrev pub step_line : Standing → List ℕ → Option Standing
step_line at line = step_or at (judged_at (form_at at.heading) (at.records + 1) line)

-- the state after the lines that follow others, where each is allowed by those before it
abbrev pub stands_or : Option Standing → (Standing → Option Standing) → Option Standing
stands_or None more = None
stands_or (Some at) more = more at

unfoldable pub stands_after : Standing → List (List ℕ) → Option Standing
stands_after at [] = Some at
stands_after at (line ∷ lines) = stands_or (step_line at line) (λ next. stands_after next lines)

-- how the lines stand behind others, or the number of the first that those before do not allow
abbrev pub or_fault : ℕ → Option Standing → (Standing → Result Standing ℕ) → Result Standing ℕ
or_fault n None more = Err n
or_fault n (Some at) more = more at

unfoldable pub judge_from : Standing → List (List ℕ) → Result Standing ℕ
judge_from at [] = if is_at Ended at.place then Ok at else Err (at.records + 1)
judge_from at (line ∷ lines) = or_fault (at.records + 1) (step_line at line) (λ next. judge_from next lines)
