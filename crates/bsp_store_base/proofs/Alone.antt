-- A list that is another one of one element, in any order.
use Rattle.std.proofs.Common.{◌≡◌, List, [], ◌∷◌, map, refl, IsPermutation}
pub use Rattle.sqlite.proofs.Callers.{one_permutation as alone}

one_of : {A B : Type 0} (f : A → B) (b : B) (xs : List A) → map f xs ≡ b ∷ [] → (x : A) × (xs ≡ x ∷ []) × (f x ≡ b)
one_of f b [] is = absurd (cc is)
one_of f b (x ∷ []) is = (x, refl, cc is)
one_of f b (x ∷ y ∷ xs) is = absurd (cc is)

-- the one element of which a function has this value
pub only : {A B : Type 0} (f : A → B) (b : B) (xs : List A) → IsPermutation (b ∷ []) (map f xs) → (x : A) × (xs ≡ x ∷ []) × (f x ≡ b)
only f b xs same = one_of f b xs (alone b (map f xs) same)
