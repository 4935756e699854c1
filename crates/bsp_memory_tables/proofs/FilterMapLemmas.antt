-- Lists made from the items of a list one after the other.
use Rattle.std.proofs.Common.{◌≡◌, ◌<◌, ◌+◌, ◌++◌, ◌∙◌, ℕ, List, [], ◌∷◌, Option, Some, None, length, drop, get_or, sym, ap, append_assoc}
use Rattle.std.specs.List.{cons_option, filter_map}
use Rattle.std.proofs.lemmas.List.{drop_more}

pub one_on : {X Y : Type 0} (f : X → Option Y) (xs : List X) (i : ℕ) (x : X) (o : Option Y) → i < length xs → x ≡ get_or xs i x → f x ≡ o → filter_map f (drop i xs) ≡ cons_option o (filter_map f (drop (i + 1) xs))
one_on f xs i x o lt is gives =
    let front : drop i xs ≡ x ∷ drop (i + 1) xs = drop_more xs i x lt ∙ ap (λ y. y ∷ drop (i + 1) xs) (sym is) in
    ap (filter_map f) front ∙ ap (λ p. cons_option p (filter_map f (drop (i + 1) xs))) gives

pub one_more : {X Y : Type 0} (f : X → Option Y) (xs : List X) (i : ℕ) (x : X) (y : Y) (old new all : List Y) → i < length xs → x ≡ get_or xs i x → f x ≡ Some y → new ≡ old ++ y ∷ []
    → old ++ filter_map f (drop i xs) ≡ all → new ++ filter_map f (drop (i + 1) xs) ≡ all
one_more f xs i x y old new all lt is gives added before =
    let later = filter_map f (drop (i + 1) xs) in
    ap (λ ys. ys ++ later) added ∙ append_assoc old (y ∷ []) later ∙ ap (λ ys. old ++ ys) (sym (one_on f xs i x (Some y) lt is gives)) ∙ before

pub none_more : {X Y : Type 0} (f : X → Option Y) (xs : List X) (i : ℕ) (x : X) (old all : List Y) → i < length xs → x ≡ get_or xs i x → f x ≡ None
    → old ++ filter_map f (drop i xs) ≡ all → old ++ filter_map f (drop (i + 1) xs) ≡ all
none_more f xs i x old all lt is gives before = ap (λ ys. old ++ ys) (sym (one_on f xs i x None lt is gives)) ∙ before
