-- The parts between commas, a byte at a time; names in any letter case.
use Rattle.std.proofs.Common.{◌≡◌, ℕ, ◌+◌, ◌-◌, ◌<◌, ◌≤◌, Bool, true, false, ◌||◌, List, [], ◌∷◌, ◌++◌, length, take, drop, get_or, slice_range, refl, sym, ap, ◌∙◌, arith, nat_eq, ◌==◌, if◌then◌else◌, map, ◌↔◌, IsTrue}
use Rattle.std.specs.List.{list_any}
use Rattle.std.specs.Cmp.Lexicographic.{pointwise, bytes_decides}
use Rattle.std.specs.Cmp.Derive.Mapped.{pointwise-map}
use Rattle.std.specs.Char.{eq_ignore_ascii_case, to_ascii_lowercase}
use Rattle.std.proofs.lemmas.List.{take_more, at_drop_more, get_or-drop, length-drop}
use Rattle.bsp_routes.specs.Elements.{parts_from, is_element}

next_part : (xs : List ℕ) (start i : ℕ) → start ≤ i → i < length xs → slice_range xs start i ++ (get_or xs i 0 ∷ []) ≡ slice_range xs start (i + 1)
next_part xs start i le lt =
    let k : start + (i - start) ≡ i = omega arith in
    let same : get_or (drop start xs) (i - start) 0 ≡ get_or xs i 0 = get_or-drop start xs (i - start) 0 ∙ ap (λ (n : ℕ). get_or xs n 0) k in
    let e : (i + 1) - start ≡ (i - start) + 1 = omega arith in
    sym (ap (λ (n : ℕ). take n (drop start xs)) e ∙ take_more (drop start xs) (i - start) 0 (simp length-drop (omega arith)) ∙ ap (λ (b : ℕ). take (i - start) (drop start xs) ++ b ∷ []) same)

pub comma : (name xs : List ℕ) (start i next : ℕ) (has : Bool) → i < length xs → (get_or xs i 0 == 44) ≡ true → is_element name (slice_range xs start i) ≡ false → next ≡ i + 1
    → has ≡ list_any (is_element name) (parts_from (slice_range xs start i) (drop i xs)) → has ≡ list_any (is_element name) (parts_from (slice_range xs next (i + 1)) (drop (i + 1) xs))
comma name xs start i next has lt is not same e =
    let none : slice_range xs next (i + 1) ≡ [] = ap (λ (n : ℕ). slice_range xs n (i + 1)) same ∙ (let z : (i + 1) - (i + 1) ≡ 0 = omega arith in ap (λ (n : ℕ). take n (drop (i + 1) xs)) z) in
    let cut : parts_from (slice_range xs start i) (drop i xs) ≡ slice_range xs start i ∷ parts_from [] (drop (i + 1) xs) =
    at_drop_more (parts_from (slice_range xs start i)) xs i 0 lt ∙ ap (λ (t : Bool). if t then slice_range xs start i ∷ parts_from [] (drop (i + 1) xs) else parts_from (slice_range xs start i ++ get_or xs i 0 ∷ []) (drop (i + 1) xs)) is in
    e ∙ ap (list_any (is_element name)) cut ∙ ap (λ (t : Bool). t || list_any (is_element name) (parts_from [] (drop (i + 1) xs))) not ∙ ap (λ (l : List ℕ). list_any (is_element name) (parts_from l (drop (i + 1) xs))) (sym none)

pub other : (name xs : List ℕ) (start i next : ℕ) (has : Bool) → start ≤ i → i < length xs → (get_or xs i 0 == 44) ≡ false → next ≡ start
    → has ≡ list_any (is_element name) (parts_from (slice_range xs start i) (drop i xs)) → has ≡ list_any (is_element name) (parts_from (slice_range xs next (i + 1)) (drop (i + 1) xs))
other name xs start i next has le lt is same e =
    let cut : parts_from (slice_range xs start i) (drop i xs) ≡ parts_from (slice_range xs start i ++ get_or xs i 0 ∷ []) (drop (i + 1) xs) =
    at_drop_more (parts_from (slice_range xs start i)) xs i 0 lt ∙ ap (λ (t : Bool). if t then slice_range xs start i ∷ parts_from [] (drop (i + 1) xs) else parts_from (slice_range xs start i ++ get_or xs i 0 ∷ []) (drop (i + 1) xs)) is in
    e ∙ ap (list_any (is_element name)) (cut ∙ ap (λ (l : List ℕ). parts_from l (drop (i + 1) xs)) (next_part xs start i le lt ∙ ap (λ (n : ℕ). slice_range xs n (i + 1)) (sym same)))

-- two tests that are true together are one
pub one_test : (r s : Bool) → (r ≡ true → s ≡ true) → (s ≡ true → r ≡ true) → r ≡ s
one_test true true f g = refl
one_test true false f g = sym (f refl)
one_test false true f g = g refl
one_test false false f g = refl

pub same_name : (a b : List ℕ) (r : Bool) → (IsTrue r ↔ (map to_ascii_lowercase a ≡ map to_ascii_lowercase b)) → r ≡ pointwise eq_ignore_ascii_case a b
same_name a b r h =
    let lowered : pointwise nat_eq (map to_ascii_lowercase a) (map to_ascii_lowercase b) ≡ pointwise eq_ignore_ascii_case a b = pointwise-map to_ascii_lowercase nat_eq a b in
    let decides = bytes_decides (map to_ascii_lowercase a) (map to_ascii_lowercase b) in
    one_test r _ (λ t. sym lowered ∙ decides.1 (h.0 t)) (λ t. h.1 (decides.0 (lowered ∙ t)))
