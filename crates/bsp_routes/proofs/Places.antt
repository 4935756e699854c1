-- The values of a path by their places.
use Rattle.std.proofs.Common.{◌≡◌, ◌≤◌, ◌+◌, ◌-◌, ℕ, List, [], ◌++◌, length, take, drop, ap, sym, refl, ◌∙◌, arith, length-append, append_assoc, drop_of_length-le, length-drop}
use Rattle.std.proofs.Math.Seq.{take_all, take_at}
use Rattle.std.proofs.lemmas.List.Prefix.{end_rest, front_rest}
use Rattle.bsp_routes.specs.Resources.{Form, Fixed, After, Between, Two, Fits}
use Rattle.bsp_routes.specs.Routed.{bytes_before}

pub first_value : (f : Form) (a b path : List ℕ) → Fits f a b path → take (length a) (drop (bytes_before f) path) ≡ a
first_value (Fixed w) a b path h = rw h.1 refl
first_value (After w) a b path h = ap (take (length a)) (front_rest path w a h.0) ∙ take_all (length a) a (omega arith)
first_value (Between w z) a b path h = ap (take (length a)) (front_rest path w (a ++ z) h.0) ∙ take_at a z (length a) refl
first_value (Two w z) a b path h = ap (take (length a)) (front_rest path w (a ++ (z ++ b)) h.0) ∙ take_at a (z ++ b) (length a) refl

no_second : (b path : List ℕ) → b ≡ [] → drop (length path - length b) path ≡ b
no_second b path e = rw e (drop_of_length-le path (omega arith))

pub second_value : (f : Form) (a b path : List ℕ) → Fits f a b path → drop (length path - length b) path ≡ b
second_value (Fixed w) a b path h = no_second b path h.2
second_value (After w) a b path h = no_second b path h.2
second_value (Between w z) a b path h = no_second b path h.2
second_value (Two w z) a b path h = end_rest path b (w ++ (a ++ z)) (h.0 ∙ sym (append_assoc w (a ++ z) b ∙ ap (λ l. w ++ l) (append_assoc a z b)))

pub second_fits : (f : Form) (a b path : List ℕ) → Fits f a b path → length b ≤ length path
second_fits (Fixed w) a b path h = omega (arith, ap length h.2)
second_fits (After w) a b path h = omega (arith, ap length h.2)
second_fits (Between w z) a b path h = omega (arith, ap length h.2)
second_fits (Two w z) a b path h = omega (arith, ap length h.0, length-append w (a ++ (z ++ b)), length-append a (z ++ b), length-append z b)

-- the same as slices of the path
pub first_part : (f : Form) (a b path : List ℕ) → Fits f a b path → take (length a) (take (length path - bytes_before f) (drop (bytes_before f) path)) ≡ a
first_part f a b path h =
    let whole : take (length path - bytes_before f) (drop (bytes_before f) path) ≡ drop (bytes_before f) path = take_all _ _ (simp length-drop (omega arith)) in
    ap (take (length a)) whole ∙ first_value f a b path h

pub second_part : (f : Form) (a b path : List ℕ) → Fits f a b path → take (length path - (length path - length b)) (drop (length path - length b) path) ≡ b
second_part f a b path h =
    let whole : take (length path - (length path - length b)) (drop (length path - length b) path) ≡ drop (length path - length b) path = take_all _ _ (simp length-drop (omega arith)) in
    whole ∙ second_value f a b path h
