-- A path that tokens read has the form that the tokens are of.
use Rattle.std.proofs.Common.{◌≡◌, ℕ, ◌+◌, List, [], ◌∷◌, ◌++◌, length, Bool, true, false, refl, ap, ◌∙◌, subst, arith, ◌==◌, ltb, ◌&&◌, append-nil}
use Rattle.std.proofs.lemmas.Bool.Decides.{nat_tests}
use Rattle.bsp_routes.specs.Resources.{Form, Fits}
use Rattle.bsp_routes.specs.Resources.Form.{Fixed, After, Between, Two}
use Rattle.bsp_routes.proofs.Shapes.{both}
use Rattle.bsp_routes.proofs.Readings.{render, params, AllValues}
use Rattle.bsp_routes.specs.Matches.{front, others}

abbrev pub tokens : Form → List ℕ
tokens (Fixed w) = w ++ []
tokens (After w) = w ++ 256 ∷ []
tokens (Between w z) = w ++ 256 ∷ (z ++ [])
tokens (Two w z) = w ++ 256 ∷ (z ++ 256 ∷ [])

abbrev pub plain_text : List ℕ → Bool
plain_text [] = true
plain_text (x ∷ t) = ltb x 256 && plain_text t

abbrev pub plain_form : Form → Bool
plain_form (Fixed w) = plain_text w
plain_form (After w) = plain_text w
plain_form (Between w z) = plain_text w && plain_text z
plain_form (Two w z) = plain_text w && plain_text z

low : (x : ℕ) → ltb x 256 ≡ true → (x == 256) ≡ false
low x e = grind (arith, nat_tests)

render_word : (w t : List ℕ) (vs : List (List ℕ)) → plain_text w ≡ true → render (w ++ t) vs ≡ w ++ render t vs
render_word [] t vs e = refl
render_word (x ∷ w) t vs e =
    let parts = both (ltb x 256) (plain_text w) e in
    let n = low x parts.0 in
    rw n (ap (λ r. x ∷ r) (render_word w t vs parts.1))

params_word : (w t : List ℕ) → plain_text w ≡ true → params (w ++ t) ≡ params t
params_word [] t e = refl
params_word (x ∷ w) t e =
    let parts = both (ltb x 256) (plain_text w) e in
    let n = low x parts.0 in
    rw n (params_word w t parts.1)

none : (vs : List (List ℕ)) → length vs ≡ 0 → vs ≡ []
none [] e = refl
none (v ∷ vs) e = absurd (omega (arith, e))

one : (vs : List (List ℕ)) → length vs ≡ 1 → vs ≡ front vs ∷ []
one [] e = absurd (omega (arith, e))
one (v ∷ vs) e = ap (λ r. v ∷ r) (none vs (omega (arith, e)))

two : (vs : List (List ℕ)) → length vs ≡ 2 → vs ≡ front vs ∷ (front (others vs) ∷ [])
two [] e = absurd (omega (arith, e))
two (v ∷ vs) e = ap (λ r. v ∷ r) (one vs (omega (arith, e)))

abbrev Reads : Form → List (List ℕ) → List ℕ → Type 0
Reads f vs path = (path ≡ render (tokens f) vs) × AllValues vs

pub fits_from : (f : Form) (vs : List (List ℕ)) (path : List ℕ) → plain_form f ≡ true → path ≡ render (tokens f) vs → length vs ≡ params (tokens f) → AllValues vs → Fits f (front vs) (front (others vs)) path
fits_from (Fixed w) vs path p e c v =
    let n = none vs (c ∙ params_word w [] p) in
    let at : path ≡ w = e ∙ render_word w [] vs p ∙ append-nil w in
    (at, ap front n, ap (λ r. front (others r)) n)
fits_from (After w) vs path p e c v =
    let n = one vs (c ∙ params_word w (256 ∷ []) p) in
    let all : Reads (After w) (front vs ∷ []) path = subst (λ (r : List (List ℕ)). Reads (After w) r path) n (e, v) in
    let at : path ≡ w ++ front vs = all.0 ∙ render_word w (256 ∷ []) (front vs ∷ []) p ∙ ap (λ r. w ++ r) (append-nil (front vs)) in
    (at, all.1.0, ap (λ r. front (others r)) n)
fits_from (Between w z) vs path p e c v =
    let parts = both (plain_text w) (plain_text z) p in
    let n = one vs (c ∙ params_word w (256 ∷ (z ++ [])) parts.0 ∙ ap (λ r. r + 1) (params_word z [] parts.1)) in
    let all : Reads (Between w z) (front vs ∷ []) path = subst (λ (r : List (List ℕ)). Reads (Between w z) r path) n (e, v) in
    let at : path ≡ w ++ (front vs ++ z) = all.0 ∙ render_word w (256 ∷ (z ++ [])) (front vs ∷ []) parts.0 ∙ ap (λ r. w ++ (front vs ++ r)) (render_word z [] [] parts.1 ∙ append-nil z) in
    (at, all.1.0, ap (λ r. front (others r)) n)
fits_from (Two w z) vs path p e c v =
    let parts = both (plain_text w) (plain_text z) p in
    let n = two vs (c ∙ params_word w (256 ∷ (z ++ 256 ∷ [])) parts.0 ∙ ap (λ r. r + 1) (params_word z (256 ∷ []) parts.1)) in
    let u = front (others vs) in
    let all : Reads (Two w z) (front vs ∷ (u ∷ [])) path = subst (λ (r : List (List ℕ)). Reads (Two w z) r path) n (e, v) in
    let at : path ≡ w ++ (front vs ++ (z ++ u)) = all.0 ∙ render_word w (256 ∷ (z ++ 256 ∷ [])) (front vs ∷ (u ∷ [])) parts.0 ∙ ap (λ r. w ++ (front vs ++ r)) (render_word z (256 ∷ []) (u ∷ []) parts.1 ∙ ap (λ r. z ++ r) (append-nil u)) in
    (at, all.1.0, all.1.1.0)
