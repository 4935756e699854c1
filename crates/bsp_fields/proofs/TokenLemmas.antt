-- Lemmas on tokens.
use Rattle.std.proofs.Common.{◌≡◌, ℕ, ◌≤◌, ◌<◌, true, List, [], ◌∷◌, ◌++◌, length, take, drop, replicate, refl, sym, ap, ap₂, ◌∙◌, arith, eqb, max, ◌+◌, get_or, add-one, subst}
use Rattle.std.specs.Bool.{Decides}
use Rattle.std.specs.Int.{bit_at}
use Rattle.std.specs.Int.Bits.{bit_or, bit_xor}
use Rattle.std.specs.Str.{bytes_eq}
use Rattle.std.proofs.lemmas.Bool.{eqb-true, eq-eqb}
use Rattle.std.proofs.lemmas.Bool.Decides.{same_from_decides}
use Rattle.std.proofs.lemmas.List.{drop-replicate, length-take-le, take_all}
use Rattle.std.proofs.lemmas.Nat.Bits.{bit_at-zero, bit_at-lt, bit_at_or, bit_at_xor, same_from_bits}
use Rattle.std.proofs.lemmas.Slice.Eq.{bytes_eq-Decides}
use Rattle.std.proofs.Math.Seq.{take-append_seam, take-suc}
use Rattle.bsp_fields.specs.Tokens.{is_token, IsTokenRoom}

-- a token in front of zeros
pub token_room_filled : (text : List ℕ) → length text ≤ 64 → is_token text ≡ true → IsTokenRoom (length text) (text ++ drop (length text) (replicate 64 0))
token_room_filled text bound h =
    let front : take (length text) (text ++ drop (length text) (replicate 64 0)) ≡ text = take-append_seam text (drop (length text) (replicate 64 0)) in
    record {
      bound = bound;
      token = rw (front, h) refl;
      width = ap length front;
      filled = rw (front, drop-replicate {X = ℕ} (length text) 64 0) refl;
    }

-- two numbers without differing bits, beside a number that is 0
bits_or : (a b : ℕ) → bit_or a b ≡ 0 → (a ≡ 0) × (b ≡ 0)
bits_or a b e =
    let at : (i : ℕ) → max (bit_at a i) (bit_at b i) ≡ 0 = λ i. sym (bit_at_or a b i) ∙ ap (λ n. bit_at n i) e ∙ bit_at-zero i in (
      same_from_bits a 0 (λ i. let h = at i in let z = bit_at-zero i in omega (arith, h, z)),
      same_from_bits b 0 (λ i. let h = at i in let z = bit_at-zero i in omega (arith, h, z)),
    )

bits_xor : (a b : ℕ) → bit_xor a b ≡ 0 → a ≡ b
bits_xor a b e = same_from_bits a b (λ i.
    let h = sym (bit_at_xor a b i) ∙ ap (λ n. bit_at n i) e ∙ bit_at-zero i in
    let x = bit_at-lt a i in
    let y = bit_at-lt b i in
    omega (arith, h, x, y))

xor_same : (a : ℕ) → bit_xor a a ≡ 0
xor_same a = same_from_bits (bit_xor a a) 0 (λ i.
    let h = bit_at_xor a a i in
    let z = bit_at-zero i in
    let x = bit_at-lt a i in
    omega (arith, h, x, z))

last_same : (xs ys : List ℕ) (x y : ℕ) → length xs ≡ length ys → xs ++ x ∷ [] ≡ ys ++ y ∷ [] → (xs ≡ ys) × (x ≡ y)
last_same [] [] x y h e = (refl, ap head_or e)
  where
    head_or : List ℕ → ℕ
    head_or [] = 0
    head_or (z ∷ zs) = z
last_same [] (b ∷ ys) x y h e = absurd (omega (arith, h))
last_same (a ∷ xs) [] x y h e = absurd (omega (arith, h))
last_same (a ∷ xs) (b ∷ ys) x y h e =
    let p = last_same xs ys x y (omega (arith, h)) (ap rest e) in
    (ap₂ (λ (c : ℕ) (l : List ℕ). c ∷ l) (ap first e) p.0, p.1)
  where
    first : List ℕ → ℕ
    first [] = 0
    first (z ∷ zs) = z

    rest : List ℕ → List ℕ
    rest [] = []
    rest (z ∷ zs) = zs

-- one more character of each
pub difference_more : (d x y : ℕ) (xs ys : List ℕ) → length xs ≡ length ys → Decides (eqb d 0) (xs ≡ ys) →
    Decides (eqb (bit_or d (bit_xor x y)) 0) (xs ++ x ∷ [] ≡ ys ++ y ∷ [])
difference_more d x y xs ys long h = (
  (λ e.
      let p = bits_or d (bit_xor x y) (eqb-true _ 0 e) in
      ap₂ (λ (l : List ℕ) (c : ℕ). l ++ c ∷ []) (h.0 (eq-eqb d 0 p.0)) (bits_xor x y p.1)),
  (λ e.
      let p = last_same xs ys x y long e in
      let z = eqb-true d 0 (h.1 p.0) in
      eq-eqb _ 0 (ap₂ bit_or z (ap (λ c. bit_xor c y) p.1 ∙ xor_same y))),
)

-- the characters up to a place, and then the one at it
pub same_to_next : (d place : ℕ) (own other : List ℕ) → place < length own → place < length other → Decides (eqb d 0) (take place own ≡ take place other) →
    Decides (eqb (bit_or d (bit_xor (get_or own place 0) (get_or other place 0))) 0) (take (place + 1) own ≡ take (place + 1) other)
same_to_next d place own other h k same =
    let long : length (take place own) ≡ length (take place other) =
    length-take-le place own (omega (arith, h)) ∙ sym (length-take-le place other (omega (arith, k))) in
    rw (add-one place, take-suc own place 0 h, take-suc other place 0 k) (difference_more d _ _ (take place own) (take place other) long same)

-- all characters
pub same_to_end : (d place : ℕ) (own other : List ℕ) → length own ≤ place → length other ≤ place → Decides (eqb d 0) (take place own ≡ take place other) →
    eqb d 0 ≡ bytes_eq own other
same_to_end d place own other h k same = same_from_decides _ _ whole (bytes_eq-Decides own other)
  where
    whole : Decides (eqb d 0) (own ≡ other)
    whole = subst (λ (l : List ℕ). Decides (eqb d 0) (own ≡ l)) (take_all place other k) (subst (λ (l : List ℕ). Decides (eqb d 0) (l ≡ take place other)) (take_all place own h) same)
