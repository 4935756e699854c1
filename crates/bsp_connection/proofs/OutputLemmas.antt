-- Texts that are put out.
use Rattle.std.proofs.Common.{◌≡◌, inl, ℕ, ◌<◌, List, [], ◌∷◌, ◌++◌, length, drop, Option, refl, sym, ◌∙◌, arith}
use Rattle.std.proofs.lemmas.List.{length-drop}
use Rattle.bsp_connection.specs.Outputs.{HasOutput, Rest, apart_rest, put_of}

no_front : (a b : List ℕ) → a ++ b ≡ [] → length a ≡ 0
no_front [] b e = refl
no_front (x ∷ a) b e = absurd cc

-- a text of which not all is sent
pub text_waits : (texts : List ℕ) (at : ℕ) (apart : Option Rest) → at < length texts → HasOutput (put_of texts at apart)
text_waits texts at apart less = inl (λ none. let gone = sym (length-drop at texts) ∙ no_front (drop at texts) (apart_rest apart).bytes none in omega (arith, gone, less))
