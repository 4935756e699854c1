-- The texts of `explain`.
use Rattle.std.specs.Prelude.{ℕ, ◌==◌, List, ◌++◌, length, codes, if◌then◌else◌}
use Rattle.std.specs.List.{flat_map}
use Rattle.bsp_fault_texts.specs.Table.{Said}

-- what is behind a code on its line
abbrev pub status_text : List ℕ → List ℕ
status_text status = if length status == 0 then codes "\n" else codes " (status " ++ (status ++ codes ")\n")

abbrev pub cause_text : List ℕ → List ℕ
cause_text cause = codes "- " ++ (cause ++ codes ".\n")

-- what is said of a code, behind it
unfoldable pub said_text : Said → List ℕ
said_text s =
    status_text s.status
    ++ ((s.meaning ++ codes ".\n") ++ ((codes "What to do: " ++ (s.remedy ++ codes ".\n")) ++ flat_map cause_text s.causes))

-- its line in the list
abbrev pub said_line : Said → List ℕ
said_line s = s.code ++ (codes " " ++ (s.meaning ++ codes "\n"))
