-- The texts of a head, one after another, are its lines.
use Rattle.std.proofs.Common.{◌≡◌, ℕ, List, [], ◌∷◌, ◌++◌, refl, ap, ◌∙◌, codes, append_assoc}
use Rattle.bsp_routes.specs.ResponseHeads.{lines_text}

lines_append : (a b : List (List ℕ)) → lines_text (a ++ b) ≡ lines_text a ++ lines_text b
lines_append [] b = refl
lines_append (l ∷ a) b = ap (λ r. l ++ (codes "\r\n" ++ r)) (lines_append a b) ∙ simp append_assoc

regroup : (o h d s ph ct m cl n e a c x y : List ℕ) → x ≡ a ++ c → y ≡ e ++ cl →
    ((((o ++ (h ++ (d ++ (s ++ (ph ++ e))))) ++ (ct ++ (m ++ y))) ++ n) ++ (e ++ a)) ++ (c ++ e)
    ≡ o ++ ((h ++ (d ++ (s ++ ph))) ++ (e ++ ((ct ++ m) ++ (e ++ ((cl ++ n) ++ (e ++ x))))) ++ e)
regroup o h d s ph ct m cl n e a c x y is joined = rw (is, joined) (simp append_assoc)

-- behind other bytes
pub text_is : (o d ph m n : List ℕ) (a c : List (List ℕ)) →
    ((((o ++ (codes "HTTP/1.1 " ++ (d ++ (codes " " ++ (ph ++ codes "\r\n"))))) ++ (codes "Content-Type: " ++ (m ++ codes "\r\nContent-Length: "))) ++ n) ++ (codes "\r\n" ++ lines_text a)) ++ (lines_text c ++ codes "\r\n")
    ≡ o ++ (lines_text ((codes "HTTP/1.1 " ++ (d ++ (codes " " ++ ph))) ∷ (codes "Content-Type: " ++ m) ∷ (codes "Content-Length: " ++ n) ∷ (a ++ c)) ++ codes "\r\n")
text_is o d ph m n a c =
    regroup o (codes "HTTP/1.1 ") d (codes " ") ph (codes "Content-Type: ") m (codes "Content-Length: ") n (codes "\r\n") (lines_text a) (lines_text c) (lines_text (a ++ c)) (codes "\r\nContent-Length: ") (lines_append a c) refl
