-- The values that an iterator over a match's parameters gives.
use Rattle.std.proofs.Common.{◌≡◌, ℕ, List, [], ◌∷◌, map, sym, ap, ◌∙◌, subst, All}
use Rattle.std.proofs.lemmas.List.Elements.{All-head, All-tail}
use Rattle.std.specs.Str.{IsUtf8}
use Rattle.matchit.specs.Params.{Shows}
use Rattle.bsp_routes.specs.Matches.{front, others}

abbrev Pair : Type 0
Pair = List ℕ × List ℕ

abbrev values : List Pair → List (List ℕ)
values = map (λ (pair : Pair). pair.1)

taken : (s t : List Pair) (p : Pair) (shown : List ℕ) → s ≡ p ∷ t → Shows p.1 shown → All IsUtf8 (values s) → (shown ≡ front (values s)) × (others (values s) ≡ values t) × All IsUtf8 (values t)
taken s t p shown e w u =
    let all : All IsUtf8 (p.1 ∷ values t) = subst (λ (l : List Pair). All IsUtf8 (values l)) e u in
    let is : values s ≡ p.1 ∷ values t = ap values e in
    (w (All-head IsUtf8 p.1 (values t) all) ∙ sym (ap front is), ap others is, All-tail IsUtf8 p.1 (values t) all)

pub one_taken : (whole s t : List Pair) (p : Pair) (a : List ℕ) → s ≡ whole → s ≡ p ∷ t → Shows p.1 a → t ≡ [] → All IsUtf8 (values whole) → (a ≡ front (values whole)) × ([] ≡ front (others (values whole)))
one_taken whole s t p a same e w n u =
    let h = taken whole t p a (sym same ∙ e) w u in
    (h.0, sym (ap front (h.1 ∙ ap values n)))

pub two_taken : (whole s t v : List Pair) (p q : Pair) (a b : List ℕ) → s ≡ whole → s ≡ p ∷ t → Shows p.1 a → t ≡ q ∷ v → Shows q.1 b → All IsUtf8 (values whole) → (a ≡ front (values whole)) × (b ≡ front (others (values whole)))
two_taken whole s t v p q a b same e w f x u =
    let h = taken whole t p a (sym same ∙ e) w u in
    let g = taken t v q b f x h.2 in
    (h.0, g.0 ∙ ap front (sym h.1))
