-- One more field behind those before it.
use Rattle.std.proofs.Common.{◌≡◌, ℕ, Bool, true, false, ◌&&◌, ◌||◌, ◌==◌, List, [], ◌∷◌, ◌++◌, length, map, codes, if◌then◌else◌, refl, sym, ap, ◌∙◌, subst, append-nil}
use Rattle.std.specs.Prelude.{filter}
use Rattle.std.specs.List.{list_any}
use Rattle.std.specs.Char.{eq_ignore_ascii_case}
use Rattle.std.specs.Cmp.Lexicographic.{pointwise, unequal}
use Rattle.std.proofs.lemmas.Bool.{eq-eqb, false≢true}
use Rattle.std.proofs.lemmas.List.Elements.{filter-append}
use Rattle.std.proofs.lemmas.List.Folds.{list_any-append}
use Rattle.std.proofs.lemmas.List.{map-append}
use Rattle.bsp_routes.specs.Elements.{has_element}
use Rattle.bsp_routes.specs.Fields.{Header, is_named, is_close, is_expect, values}
use Rattle.bsp_routes.specs.Found.{IsFound}

or_false : (a : Bool) → (a || false) ≡ a
or_false true = refl
or_false false = refl

module _ (before : List Header) (h : Header) where
  one_more : (name : List ℕ) → values name (before ++ h ∷ []) ≡ values name before ++ values name (h ∷ [])
  one_more name = ap (map (λ (g : Header). g.1)) (filter-append (is_named name) before (h ∷ [])) ∙ map-append (λ (g : Header). g.1) (filter (is_named name) before) (filter (is_named name) (h ∷ []))

  -- one of that name
  pub named : (name : List ℕ) → is_named name h ≡ true → values name (before ++ h ∷ []) ≡ values name before ++ h.1 ∷ []
  named name is = one_more name ∙ ap (λ (t : Bool). values name before ++ map (λ (g : Header). g.1) (if t then h ∷ [] else [])) is

  -- one of another name
  pub not_named : (name : List ℕ) → is_named name h ≡ false → values name (before ++ h ∷ []) ≡ values name before
  not_named name is = one_more name ∙ ap (λ (t : Bool). values name before ++ map (λ (g : Header). g.1) (if t then h ∷ [] else [])) is ∙ append-nil (values name before)

  any_more : (test : Header → Bool) → list_any test (before ++ h ∷ []) ≡ (list_any test before || test h)
  any_more test = list_any-append test before (h ∷ []) ∙ ap (λ (b : Bool). list_any test before || b) (or_false (test h))

  pub any_with : (test : Header → Bool) (so_far : Bool) → so_far ≡ list_any test before → (so_far || test h) ≡ list_any test (before ++ h ∷ [])
  any_with test so_far is = ap (λ (b : Bool). b || test h) is ∙ sym (any_more test)

  -- the name has n bytes
  module _ (n : ℕ) (len : length h.0 ≡ n) where
    other_name : (name : List ℕ) → (n == length name) ≡ false → is_named name h ≡ false
    other_name name other = unequal eq_ignore_ascii_case h.0 name (λ same. false≢true (sym other ∙ eq-eqb n (length name) (sym len ∙ same)))

    pub keep : (text name : List ℕ) (found : _) → (n == length name) ≡ false → IsFound text (values name before) found → IsFound text (values name (before ++ h ∷ [])) found
    keep text name found other is = subst (λ vs. IsFound text vs found) (sym (not_named name (other_name name other))) is

    keep_any : (test : Header → Bool) (so_far : Bool) → test h ≡ false → so_far ≡ list_any test before → so_far ≡ list_any test (before ++ h ∷ [])
    keep_any test so_far no_test is = is ∙ sym (any_more test ∙ ap (λ (b : Bool). list_any test before || b) no_test ∙ or_false _)

    pub keep_closes : (so_far : Bool) → (n == 10) ≡ false → so_far ≡ list_any is_close before → so_far ≡ list_any is_close (before ++ h ∷ [])
    keep_closes so_far other = keep_any is_close so_far (ap (λ (b : Bool). b && has_element (codes "close") h.1) (other_name (codes "connection") other))

    pub keep_expects : (so_far : Bool) → (n == 6) ≡ false → so_far ≡ list_any is_expect before → so_far ≡ list_any is_expect (before ++ h ∷ [])
    keep_expects so_far other = keep_any is_expect so_far (ap (λ (b : Bool). b && pointwise eq_ignore_ascii_case h.1 (codes "100-continue")) (other_name (codes "expect") other))
