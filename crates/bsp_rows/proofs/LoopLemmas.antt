-- What a loop has put out, and what it has left.
use Rattle.std.proofs.Common.{◌≡◌, List, [], ◌∷◌, ◌++◌, map, append_assoc, append-nil, sym, ap, ◌∙◌, Option, Some, None}
use Rattle.std.specs.List.{cons_option, filter_map}

module _ {X Y : Type 0} (f : X → Y) where
  pub map_more : (out new : List Y) (x : X) (left rest : List X) (all : List Y) → left ≡ x ∷ rest → new ≡ out ++ f x ∷ [] → out ++ map f left ≡ all → new ++ map f rest ≡ all
  map_more out new x left rest all is added so_far =
      ap (λ ys. ys ++ map f rest) added ∙ append_assoc out (f x ∷ []) (map f rest) ∙ ap (λ xs. out ++ map f xs) (sym is) ∙ so_far

  pub map_all : (out : List Y) (left : List X) (all : List Y) → left ≡ [] → out ++ map f left ≡ all → out ≡ all
  map_all out left all none so_far = sym (append-nil out) ∙ ap (λ xs. out ++ map f xs) (sym none) ∙ so_far

module _ {X Y : Type 0} (f : X → Option Y) where
  pub some_more : (out new : List Y) (x : X) (y : Y) (left rest : List X) (all : List Y) → left ≡ x ∷ rest → f x ≡ Some y → new ≡ out ++ y ∷ [] → out ++ filter_map f left ≡ all → new ++ filter_map f rest ≡ all
  some_more out new x y left rest all is found added so_far =
      ap (λ ys. ys ++ filter_map f rest) added ∙ append_assoc out (y ∷ []) (filter_map f rest)
      ∙ ap (λ o. out ++ cons_option o (filter_map f rest)) (sym found) ∙ ap (λ xs. out ++ filter_map f xs) (sym is) ∙ so_far

  pub none_more : (out : List Y) (x : X) (left rest : List X) (all : List Y) → left ≡ x ∷ rest → f x ≡ None → out ++ filter_map f left ≡ all → out ++ filter_map f rest ≡ all
  none_more out x left rest all is found so_far =
      ap (λ o. out ++ cons_option o (filter_map f rest)) (sym found) ∙ ap (λ xs. out ++ filter_map f xs) (sym is) ∙ so_far

  pub some_all : (out : List Y) (left : List X) (all : List Y) → left ≡ [] → out ++ filter_map f left ≡ all → out ≡ all
  some_all out left all none so_far = sym (append-nil out) ∙ ap (λ xs. out ++ filter_map f xs) (sym none) ∙ so_far
