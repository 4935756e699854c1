-- Rows whose parameters are whole segments.
use Rattle.std.proofs.Common.{◌≡◌, ℕ, zero, suc, ◌-◌, ◌<◌, ◌⊎◌, inl, inr, List, [], ◌∷◌, length, drop, Option, Some, None, Bool, true, false, cond, refl, arith, ◌==◌, ltb, ◌&&◌, ◌||◌}
use Rattle.std.proofs.lemmas.Bool.Decides.{nat_tests}
use Rattle.std.proofs.lemmas.Bool.{false≢true}
use Rattle.matchit.specs.Rows.{RowsOf}
use Rattle.matchit.specs.Seek.{own, step, or_else, seek, param_step, has_slash, segment, with_suffix, same_text}

-- nothing, or a slash first
abbrev pub slashed : List ℕ → Bool
slashed [] = true
slashed (x ∷ t) = x == 47

-- bytes and parameters, each of which is followed by a slash or ends the pattern
abbrev pub shaped : List ℕ → Bool
shaped [] = true
shaped (x ∷ t) = cond (x == 256) (slashed t) (ltb x 256) && shaped t

abbrev pub is_slash_first : List ℕ → Bool
is_slash_first [] = false
is_slash_first (x ∷ t) = x == 47

pub both : (a b : Bool) → (a && b) ≡ true → (a ≡ true) × (b ≡ true)
both true b e = (refl, e)
both false b e = absurd (false≢true e)

pub is_47 : (x : ℕ) → (x == 47) ≡ true → x ≡ 47
is_47 x e = grind (arith, nat_tests)

pub is_256 : (x : ℕ) → (x == 256) ≡ true → x ≡ 256
is_256 x e = grind (arith, nat_tests)

pub is_not_256 : (x : ℕ) → x < 256 → (x == 256) ≡ false
is_not_256 x e = grind (arith, nat_tests)

module _ {K : Type 0} where
  abbrev pub all_shaped : RowsOf K → Bool
  all_shaped [] = true
  all_shaped ((t, k) ∷ rs) = shaped t && all_shaped rs

  abbrev pub all_slashed : RowsOf K → Bool
  all_slashed [] = true
  all_slashed ((t, k) ∷ rs) = slashed t && all_slashed rs

  abbrev pub some_slash : RowsOf K → Bool
  some_slash [] = false
  some_slash ((t, k) ∷ rs) = is_slash_first t || some_slash rs

  -- the row is there
  abbrev pub In : List ℕ → K → RowsOf K → Type 0
  In t k [] = ⊥
  In t k ((u, j) ∷ rs) = ((u ≡ t) × (j ≡ k)) ⊎ In t k rs

  pub own_in : (rs : RowsOf K) (k : K) → own rs ≡ Some k → In [] k rs
  own_in [] k e = cc
  own_in (([], j) ∷ rs) k e = inl (refl, cc)
  own_in ((x ∷ t, j) ∷ rs) k e = inr (own_in rs k e)

  pub step_in : (b : ℕ) (rs : RowsOf K) (t : List ℕ) (k : K) → In t k (step b rs) → In (b ∷ t) k rs
  step_in b [] t k i = i
  step_in b (([], j) ∷ rs) t k i = inr (step_in b rs t k i)
  step_in b ((x ∷ u, j) ∷ rs) t k i = by (step_in b rs t k) (x == b) refl i
    where
      by : (In t k (step b rs) → In (b ∷ t) k rs) → (v : Bool) → (x == b) ≡ v → In t k (cond v ((u, j) ∷ step b rs) (step b rs)) → In (b ∷ t) k ((x ∷ u, j) ∷ rs)
      by ih true e (inl h) = let xb : x ≡ b = grind (arith, nat_tests) in inl (rw (xb, h.0) refl, h.1)
      by ih true e (inr h) = inr (ih h)
      by ih false e h = inr (ih h)

  pub suffix_in : (s : List ℕ) (rs : RowsOf K) (t : List ℕ) (k : K) → In t k (with_suffix s rs) → In t k rs
  suffix_in s [] t k i = i
  suffix_in s ((u, j) ∷ rs) t k i = by (suffix_in s rs t k) (same_text (segment u) s) i
    where
      by : (In t k (with_suffix s rs) → In t k rs) → (v : Bool) → In t k (cond v ((u, j) ∷ with_suffix s rs) (with_suffix s rs)) → In t k ((u, j) ∷ rs)
      by ih true (inl h) = inl h
      by ih true (inr h) = inr (ih h)
      by ih false h = inr (ih h)

  pub step_shaped : (b : ℕ) (rs : RowsOf K) → all_shaped rs ≡ true → all_shaped (step b rs) ≡ true
  step_shaped b [] e = refl
  step_shaped b (([], j) ∷ rs) e = step_shaped b rs e
  step_shaped b ((x ∷ u, j) ∷ rs) e = by (step_shaped b rs) (x == b)
    where
      parts : (shaped (x ∷ u) ≡ true) × (all_shaped rs ≡ true)
      parts = both (shaped (x ∷ u)) (all_shaped rs) e

      here : shaped u ≡ true
      here = (both (cond (x == 256) (slashed u) (ltb x 256)) (shaped u) parts.0).1

      by : (all_shaped rs ≡ true → all_shaped (step b rs) ≡ true) → (v : Bool) → all_shaped (cond v ((u, j) ∷ step b rs) (step b rs)) ≡ true
      by ih true = rw (here, ih parts.1) refl
      by ih false = ih parts.1

  pub step_slashed : (rs : RowsOf K) → all_shaped rs ≡ true → all_slashed (step 256 rs) ≡ true
  step_slashed [] e = refl
  step_slashed (([], j) ∷ rs) e = step_slashed rs e
  step_slashed ((x ∷ u, j) ∷ rs) e = by (step_slashed rs) (x == 256) refl
    where
      parts : (shaped (x ∷ u) ≡ true) × (all_shaped rs ≡ true)
      parts = both (shaped (x ∷ u)) (all_shaped rs) e

      here : cond (x == 256) (slashed u) (ltb x 256) ≡ true
      here = (both (cond (x == 256) (slashed u) (ltb x 256)) (shaped u) parts.0).0

      by : (all_shaped rs ≡ true → all_slashed (step 256 rs) ≡ true) → (v : Bool) → (x == 256) ≡ v → all_slashed (cond v ((u, j) ∷ step 256 rs) (step 256 rs)) ≡ true
      by ih true q = let h : slashed u ≡ true = rw q at here in rw (h, ih parts.1) refl
      by ih false q = ih parts.1

  pub suffix_shaped : (s : List ℕ) (rs : RowsOf K) → all_shaped rs ≡ true → all_shaped (with_suffix s rs) ≡ true
  suffix_shaped s [] e = refl
  suffix_shaped s ((u, j) ∷ rs) e = by (suffix_shaped s rs) (same_text (segment u) s)
    where
      parts : (shaped u ≡ true) × (all_shaped rs ≡ true)
      parts = both (shaped u) (all_shaped rs) e

      by : (all_shaped rs ≡ true → all_shaped (with_suffix s rs) ≡ true) → (v : Bool) → all_shaped (cond v ((u, j) ∷ with_suffix s rs) (with_suffix s rs)) ≡ true
      by ih true = rw (parts.0, ih parts.1) refl
      by ih false = ih parts.1

  pub no_catch_all : (rs : RowsOf K) → all_shaped rs ≡ true → step 257 rs ≡ []
  no_catch_all [] e = refl
  no_catch_all (([], j) ∷ rs) e = no_catch_all rs e
  no_catch_all ((x ∷ u, j) ∷ rs) e = by (no_catch_all rs) (x == 257) refl
    where
      parts : (shaped (x ∷ u) ≡ true) × (all_shaped rs ≡ true)
      parts = both (shaped (x ∷ u)) (all_shaped rs) e

      here : cond (x == 256) (slashed u) (ltb x 256) ≡ true
      here = (both (cond (x == 256) (slashed u) (ltb x 256)) (shaped u) parts.0).0

      by : (all_shaped rs ≡ true → step 257 rs ≡ []) → (v : Bool) → (x == 257) ≡ v → cond v ((u, j) ∷ step 257 rs) (step 257 rs) ≡ []
      by ih true q = let xb : x ≡ 257 = grind (arith, nat_tests) in let h : false ≡ true = rw xb at here in absurd (false≢true h)
      by ih false q = ih parts.1

  pub or_else_none : (a : Option K) → or_else a None ≡ a
  or_else_none None = refl
  or_else_none (Some k) = refl

  pub param_step_empty : (p : List ℕ) → (param_step {K = K} [] p).1 ≡ []
  unfolding param_step
  param_step_empty p =
      elim (has_slash p) as (λ v. (cond {A = ℕ × RowsOf K} v (0, []) (length p, [])).1 ≡ []) [
        | true ↦ refl
        | false ↦ refl
      ]

  pub seek_empty : (n : ℕ) (p : List ℕ) → seek {K = K} n [] p ≡ None
  unfolding seek
  seek_empty n [] = refl
  seek_empty (suc n) (b ∷ p) = seek_empty n p
  seek_empty zero (b ∷ p) = simp (seek_empty 0 p, param_step_empty (b ∷ p), seek_empty (((param_step {K = K} [] (b ∷ p)).0) - 1) p)

  pub seek_drop : (n : ℕ) (rs : RowsOf K) (p : List ℕ) → seek n rs p ≡ seek 0 rs (drop n p)
  unfolding seek
  seek_drop zero rs p = refl
  seek_drop (suc n) rs [] = refl
  seek_drop (suc n) rs (b ∷ p) = seek_drop n rs p
