-- Tests of two, as `&&` asks them, and of one after another, as a loop asks them.
use Rattle.std.proofs.Common.{◌≡◌, ℕ, ◌+◌, ◌<◌, length, get_or, drop, Bool, true, false, ◌&&◌, List, Some, cond, ap, sym, ◌∙◌}
use Rattle.std.specs.List.{find}
use Rattle.std.proofs.lemmas.List.{at_drop_more}

-- the second was asked, since the first passed
pub asked : (value a x y : Bool) → a ≡ true → a ≡ x → value ≡ y → value ≡ (x && y)
asked value a x y passed is rest = rw (← is, passed) rest

-- the second was spared, since the first failed
pub spared : (value a x y : Bool) → a ≡ false → a ≡ x → value ≡ a → value ≡ (x && y)
spared value a x y stopped is same = rw (← is, stopped) (same ∙ stopped)

-- what is found first, by whether it is the element at a place, if none before it is
pub found_by : {A : Type 0} (p : A → Bool) (xs : List A) (i : ℕ) (x : A) (b : Bool) → i < length xs → p (get_or xs i x) ≡ b → find p (drop i xs) ≡ find p xs
    → cond b (Some (get_or xs i x)) (find p (drop (i + 1) xs)) ≡ find p xs
found_by p xs i x b within test before =
    sym (ap (λ (t : Bool). cond t (Some (get_or xs i x)) (find p (drop (i + 1) xs))) test) ∙ sym (at_drop_more (find p) xs i x within) ∙ before
