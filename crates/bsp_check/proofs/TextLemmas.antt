-- Lemmas on the texts that loops append.
use Rattle.std.proofs.Common.{◌≡◌, ℕ, ◌+◌, ◌<◌, ◌≤◌, length, get_or, take, List, ◌++◌, ap, ◌∙◌, sym}
use Rattle.std.specs.List.{flat_map}
use Rattle.std.proofs.lemmas.List.{flat_map_more, take_all, take_more}

-- the text of one more element, behind those before it
pub one_more : {X : Type 0} (f : X → List ℕ) (xs : List X) (i : ℕ) (x : X) (old before now : List ℕ) → i < length xs → before ≡ old ++ flat_map f (take i xs) → now ≡ before ++ f (get_or xs i x) → now ≡ old ++ flat_map f (take (i + 1) xs)
one_more f xs i x old before now within was added =
    added
    ∙ ap (λ (l : List ℕ). l ++ f (get_or xs i x)) was
    ∙ flat_map_more f old (take i xs) (get_or xs i x)
    ∙ ap (λ l. old ++ flat_map f l) (sym (take_more xs i x within))

-- the texts of all
pub all_of : {X : Type 0} (f : X → List ℕ) (xs : List X) (i : ℕ) (old now : List ℕ) → length xs ≤ i → now ≡ old ++ flat_map f (take i xs) → now ≡ old ++ flat_map f xs
all_of f xs i old now past was = was ∙ ap (λ l. old ++ flat_map f l) (take_all i xs past)
