-- Tables of answers.
use Rattle.std.specs.Prelude.{Bool, List, [], ◌∷◌, if◌then◌else◌}

-- a row is a test and an answer; the answer of the first row whose test holds, and the last one where none holds
abbrev pub first_answer_or : {A : Type 0} → List (Bool × A) → A → A
first_answer_or [] last = last
first_answer_or (row ∷ rows) last = if row.0 then row.1 else first_answer_or rows last
