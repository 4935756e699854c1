-- What a parameter takes, where each is a whole segment.
use Rattle.std.proofs.Common.{◌≡◌, ℕ, zero, suc, ◌-◌, List, [], ◌∷◌, ◌++◌, length, drop, Bool, true, false, cond, refl, sym, ap, ◌∙◌, arith, nat_eq, ◌==◌, ltb, ◌&&◌, length-append}
use Rattle.std.proofs.lemmas.Bool.Decides.{nat_tests}
use Rattle.std.proofs.lemmas.Bool.{false≢true}
use Rattle.std.proofs.lemmas.List.Prefix.{end_rest}
use Rattle.std.specs.List.{ends_with}
use Rattle.std.specs.Cmp.Lexicographic.{pointwise}
use Rattle.matchit.specs.Rows.{RowsOf}
use Rattle.matchit.specs.Seek.{param_step, has_slash, segment, with_suffix, cuts, longest_from}
use Rattle.bsp_routes.proofs.Shapes.{all_slashed, some_slash, both, is_47}

-- the bytes before the first slash
abbrev pub piece : List ℕ → List ℕ
piece [] = []
piece (b ∷ p) = cond (b == 47) [] (b ∷ piece p)

-- the bytes from the first slash on
abbrev pub beyond : List ℕ → List ℕ
beyond [] = []
beyond (b ∷ p) = cond (b == 47) (b ∷ p) (beyond p)

pub cut : (p : List ℕ) → p ≡ piece p ++ beyond p
cut [] = refl
cut (b ∷ p) = by (b == 47) (cut p)
  where
    by : (v : Bool) → p ≡ piece p ++ beyond p → b ∷ p ≡ cond v [] (b ∷ piece p) ++ cond v (b ∷ p) (beyond p)
    by true h = refl
    by false h = ap (λ r. b ∷ r) h

pub segment_slash : (p : List ℕ) → has_slash p ≡ true → segment p ≡ piece p ++ 47 ∷ []
segment_slash [] e = absurd (false≢true e)
segment_slash (b ∷ p) e = by (segment_slash p) (b == 47) refl e
  where
    by : (has_slash p ≡ true → segment p ≡ piece p ++ 47 ∷ []) → (v : Bool) → (b == 47) ≡ v → cond v true (has_slash p) ≡ true → cond v (b ∷ []) (b ∷ segment p) ≡ cond v [] (b ∷ piece p) ++ 47 ∷ []
    by ih true q h = ap (λ x. x ∷ []) (is_47 b q)
    by ih false q h = ap (λ r. b ∷ r) (ih h)

pub segment_whole : (p : List ℕ) → has_slash p ≡ false → segment p ≡ p
segment_whole [] e = refl
segment_whole (b ∷ p) e = by (segment_whole p) (b == 47) e
  where
    by : (has_slash p ≡ false → segment p ≡ p) → (v : Bool) → cond v true (has_slash p) ≡ false → cond v (b ∷ []) (b ∷ segment p) ≡ b ∷ p
    by ih true h = absurd (false≢true (sym h))
    by ih false h = ap (λ r. b ∷ r) (ih h)

pub piece_whole : (p : List ℕ) → has_slash p ≡ false → (piece p ≡ p) × (beyond p ≡ [])
piece_whole [] e = (refl, refl)
piece_whole (b ∷ p) e = by (piece_whole p) (b == 47) e
  where
    by : (has_slash p ≡ false → (piece p ≡ p) × (beyond p ≡ [])) → (v : Bool) → cond v true (has_slash p) ≡ false → (cond v [] (b ∷ piece p) ≡ b ∷ p) × (cond v (b ∷ p) (beyond p) ≡ [])
    by ih true h = absurd (false≢true (sym h))
    by ih false h = (ap (λ r. b ∷ r) (ih h).0, (ih h).1)

drop_no_slash : (n : ℕ) (p : List ℕ) → has_slash p ≡ false → has_slash (drop n p) ≡ false
drop_no_slash zero p e = e
drop_no_slash (suc n) [] e = e
drop_no_slash (suc n) (b ∷ p) e = by (drop_no_slash n p) (b == 47) e
  where
    by : (has_slash p ≡ false → has_slash (drop n p) ≡ false) → (v : Bool) → cond v true (has_slash p) ≡ false → has_slash (drop n p) ≡ false
    by ih true h = absurd (false≢true (sym h))
    by ih false h = ih h

not_a_slash : (p : List ℕ) → has_slash p ≡ false → pointwise nat_eq (47 ∷ []) p ≡ false
not_a_slash [] e = refl
not_a_slash (b ∷ p) e = by (b == 47) refl e
  where
    by : (v : Bool) → (b == 47) ≡ v → cond v true (has_slash p) ≡ false → pointwise nat_eq (47 ∷ []) (b ∷ p) ≡ false
    by true q h = absurd (false≢true (sym h))
    by false q h = let n : nat_eq 47 b ≡ false = grind (arith, nat_tests) in rw n refl

pub cuts_none : (p : List ℕ) → has_slash p ≡ false → cuts (segment p) (47 ∷ []) ≡ false
cuts_none p e =
    let n : ends_with nat_eq p (47 ∷ []) ≡ false = not_a_slash (drop (length p - 1) p) (drop_no_slash (length p - 1) p e) in
    rw (segment_whole p e, n) (elim (ltb 1 (length p)) as (λ v. (v && false) ≡ false) [ true ↦ refl | false ↦ refl ])

pub cuts_slash : (p : List ℕ) → has_slash p ≡ true → cuts (segment p) (47 ∷ []) ≡ ltb 0 (length (piece p))
cuts_slash p e =
    let s = segment_slash p e in
    let d : drop (length (piece p ++ 47 ∷ []) - 1) (piece p ++ 47 ∷ []) ≡ 47 ∷ [] = end_rest (piece p ++ 47 ∷ []) (47 ∷ []) (piece p) refl in
    let l : ltb 1 (length (piece p ++ 47 ∷ [])) ≡ ltb 0 (length (piece p)) = grind (arith, nat_tests, length-append) in
    rw (s, d, l) (elim (ltb 0 (length (piece p))) as (λ v. (v && true) ≡ v) [ true ↦ refl | false ↦ refl ])

module _ {K : Type 0} where
  longest_none : (seg : List ℕ) (rs : RowsOf K) → all_slashed rs ≡ true → cuts seg (47 ∷ []) ≡ false → longest_from seg [] rs ≡ []
  longest_none seg [] e c = refl
  longest_none seg (([], k) ∷ rs) e c = longest_none seg rs e c
  longest_none seg ((x ∷ t, k) ∷ rs) e c =
      let parts = both (x == 47) (all_slashed rs) e in
      let x47 = is_47 x parts.0 in
      rw (x47, c) (longest_none seg rs parts.1 c)

  longest_kept : (seg : List ℕ) (rs : RowsOf K) → all_slashed rs ≡ true → longest_from seg (47 ∷ []) rs ≡ 47 ∷ []
  longest_kept seg [] e = refl
  longest_kept seg (([], k) ∷ rs) e = longest_kept seg rs e
  longest_kept seg ((x ∷ t, k) ∷ rs) e =
      let parts = both (x == 47) (all_slashed rs) e in
      let x47 = is_47 x parts.0 in
      rw x47 (longest_kept seg rs parts.1)

  longest_slash : (seg : List ℕ) (rs : RowsOf K) → all_slashed rs ≡ true → cuts seg (47 ∷ []) ≡ true → longest_from seg [] rs ≡ cond (some_slash rs) (47 ∷ []) []
  longest_slash seg [] e c = refl
  longest_slash seg (([], k) ∷ rs) e c = longest_slash seg rs e c
  longest_slash seg ((x ∷ t, k) ∷ rs) e c =
      let parts = both (x == 47) (all_slashed rs) e in
      let x47 = is_47 x parts.0 in
      rw (x47, c) (longest_kept seg rs parts.1)

  -- no slash: the value is all that is left
  pub param_whole : (rs : RowsOf K) (p : List ℕ) → all_slashed rs ≡ true → has_slash p ≡ false → param_step rs p ≡ (length p, rs)
  unfolding param_step
  param_whole rs p e n = rw (longest_none (segment p) rs e (cuts_none p n), n) refl

  -- a slash: the value goes up to it
  pub param_piece : (rs : RowsOf K) (p : List ℕ) → all_slashed rs ≡ true → has_slash p ≡ true → ltb 0 (length (piece p)) ≡ true → some_slash rs ≡ true
      → param_step rs p ≡ (length (piece p), with_suffix (47 ∷ []) rs)
  unfolding param_step
  param_piece rs p e s n some =
      let l = longest_slash (segment p) rs e (cuts_slash p s ∙ n) in
      let m : length (piece p ++ 47 ∷ []) - 1 ≡ length (piece p) = omega (arith, length-append (piece p) (47 ∷ [])) in
      rw (l, some, segment_slash p s) (ap (λ x. (x, with_suffix (47 ∷ []) rs)) m)

  -- no value, or no row that goes on after it
  pub param_no_value : (rs : RowsOf K) (p : List ℕ) → all_slashed rs ≡ true → has_slash p ≡ true → ltb 0 (length (piece p)) ≡ false → (param_step rs p).1 ≡ []
  unfolding param_step
  param_no_value rs p e s n = rw (longest_none (segment p) rs e (cuts_slash p s ∙ n), s) refl

  pub param_no_row : (rs : RowsOf K) (p : List ℕ) → all_slashed rs ≡ true → has_slash p ≡ true → ltb 0 (length (piece p)) ≡ true → some_slash rs ≡ false → (param_step rs p).1 ≡ []
  unfolding param_step
  param_no_row rs p e s n some = rw (longest_slash (segment p) rs e (cuts_slash p s ∙ n), some, s) refl
