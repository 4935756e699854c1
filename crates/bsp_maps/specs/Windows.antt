-- The entries of a window of keys.
use Rattle.std.specs.Prelude.{Bool, List, map}
use Rattle.std.specs.List.{filter}

-- the entries whose keys are in the window
abbrev pub entries_in : {K V : Type 0} → (K → Bool) → List (K × V) → List (K × V)
entries_in has es = filter (λ e. has e.0) es

-- their values
abbrev pub values_in : {K V : Type 0} → (K → Bool) → List (K × V) → List V
values_in has es = map (λ e. e.1) (entries_in has es)
