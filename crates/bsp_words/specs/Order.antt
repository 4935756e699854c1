-- The order of the options --file and --closed among the words.
use Rattle.std.specs.Prelude.{ℕ, ◌||◌, ◌==◌, Bool, List, [], ◌∷◌, Option, Some, None, codes, if◌then◌else◌}
use Rattle.std.specs.List.{filter_map, starts_with}
use Rattle.std.specs.Str.{bytes_eq}
use Rattle.clap.specs.Words.{Text}
use Rattle.bsp_words.specs.declared.order.Mark.{Mark}
use Rattle.bsp_words.specs.declared.order.Mark.TheVariants.{File, Closed}
use Rattle.bsp_words.specs.declared.work.Earlier.{Earlier}
use Rattle.bsp_words.specs.declared.work.Earlier.TheVariants as earlier

-- the option alone, or with its value after =
abbrev pub is_option : Text → Text → Text → Bool
is_option word alone valued = bytes_eq word alone || starts_with (λ a b. a == b) word valued

abbrev pub mark_of : Text → Option Mark
mark_of word =
    if is_option word (codes "--file") (codes "--file=") then Some File
    else if is_option word (codes "--closed") (codes "--closed=") then Some Closed
    else None

-- the two options among the words
abbrev pub marks_in : List Text → List Mark
marks_in = filter_map mark_of

-- each --closed has the next of the periods; one that has none left counts for nothing
abbrev pub in_order : List Mark → List ℕ → List Earlier
in_order [] periods = []
in_order (File ∷ marks) periods = earlier.File ∷ in_order marks periods
in_order (Closed ∷ marks) [] = in_order marks []
in_order (Closed ∷ marks) (p ∷ periods) = earlier.Closed p ∷ in_order marks periods

abbrev pub as_list : {X : Type 0} → Option X → List X
as_list None = []
as_list (Some x) = x ∷ []
