-- A row that a search finds reads the path.
use Rattle.std.proofs.Common.{◌≡◌, ◌≢◌, ℕ, zero, suc, ◌+◌, ◌-◌, ◌<◌, ◌⊎◌, inl, inr, List, [], ◌∷◌, ◌++◌, length, drop, Option, Some, None, Bool, true, false, cond, refl, sym, ap, ◌∙◌, subst, arith, ◌==◌, ltb, append-nil, All}
use Rattle.std.proofs.lemmas.Bool.Decides.{nat_tests}
use Rattle.std.proofs.lemmas.Bool.{false≢true}
use Rattle.std.proofs.lemmas.List.Elements.{All-nil, All-cons}
use Rattle.std.proofs.lemmas.List.Prefix.{front_rest}
use Rattle.matchit.specs.Rows.{RowsOf}
use Rattle.matchit.specs.Level.{IsText}
use Rattle.matchit.specs.Seek.{own, step, or_else, seek, param_step, has_slash, segment, with_suffix, longest_suffix}
use Rattle.bsp_routes.specs.Targets.{IsValue}
use Rattle.bsp_routes.specs.Matches.{front, others}
use Rattle.bsp_routes.proofs.Shapes.{In, all_shaped, some_slash, own_in, step_in, suffix_in, step_shaped, step_slashed, suffix_shaped, no_catch_all, is_not_256}
use Rattle.bsp_routes.proofs.Segments.{piece, beyond, cut, piece_whole, param_whole, param_piece, param_no_value, param_no_row}

-- the tokens with values in the resource of parameters
abbrev pub render : List ℕ → List (List ℕ) → List ℕ
render [] vs = []
render (x ∷ t) vs = cond (x == 256) (front vs ++ render t (others vs)) (x ∷ render t vs)

abbrev pub params : List ℕ → ℕ
params [] = 0
params (x ∷ t) = cond (x == 256) (params t + 1) (params t)

abbrev pub AllValues : List (List ℕ) → Type 0
AllValues [] = Unit {0}
AllValues (v ∷ vs) = IsValue v × AllValues vs

pub piece_clear : (p : List ℕ) → All (λ b. b ≢ 47) (piece p)
piece_clear [] = All-nil (λ b. b ≢ 47)
piece_clear (b ∷ p) = by (b == 47) refl (piece_clear p)
  where
    by : (v : Bool) → (b == 47) ≡ v → All (λ b. b ≢ 47) (piece p) → All (λ b. b ≢ 47) (cond v [] (b ∷ piece p))
    by true q h = All-nil (λ b. b ≢ 47)
    by false q h = All-cons (λ b. b ≢ 47) b (piece p) (λ e. grind (arith, nat_tests)) h

drop_all : (p : List ℕ) → drop (length p) p ≡ []
drop_all [] = refl
drop_all (b ∷ p) = drop_all p

drop_one : (n : ℕ) (b : ℕ) (p : List ℕ) → ltb 0 n ≡ true → drop n (b ∷ p) ≡ drop (n - 1) p
drop_one zero b p e = absurd (false≢true e)
drop_one (suc n) b p e = ap (λ m. drop m p) (omega arith)

some_value : (p : List ℕ) → ltb 0 (length p) ≡ true → p ≢ []
some_value [] e = λ q. false≢true e
some_value (b ∷ p) e = λ q. cc

module _ {K : Type 0} where
  pub record Reading (rs : RowsOf K) (k : K) (path : List ℕ) : Type 0 where
    pub tokens : List ℕ
    pub values : List (List ℕ)
    pub at : In tokens k rs
    pub is : path ≡ render tokens values
    pub count : length values ≡ params tokens
    pub valued : AllValues values

  byte_first : (b : ℕ) (p : List ℕ) (rs : RowsOf K) (k : K) → b < 256 → Reading (step b rs) k p → Reading rs k (b ∷ p)
  byte_first b p rs k l r =
      let n : (b == 256) ≡ false = is_not_256 b l in record {
        tokens = b ∷ r.tokens;
        values = r.values;
        at = step_in b rs r.tokens k r.at;
        is = rw n (ap (λ x. b ∷ x) r.is);
        count = rw n r.count;
        valued = r.valued;
      }

  with_value : (v q : List ℕ) (path : List ℕ) (rs : RowsOf K) (k : K) → path ≡ v ++ q → IsValue v → Reading (step 256 rs) k q → Reading rs k path
  with_value v q path rs k e i r = record {
    tokens = 256 ∷ r.tokens;
    values = v ∷ r.values;
    at = step_in 256 rs r.tokens k r.at;
    is = e ∙ ap (λ x. v ++ x) r.is;
    count = omega (arith, r.count);
    valued = (i, r.valued);
  }

  narrower : (q : List ℕ) (rs : RowsOf K) (k : K) → Reading (with_suffix (47 ∷ []) rs) k q → Reading rs k q
  narrower q rs k r = record { tokens = r.tokens; values = r.values; at = suffix_in (47 ∷ []) rs r.tokens k r.at; is = r.is; count = r.count; valued = r.valued }

  no_reading : (q : List ℕ) (rs : RowsOf K) (k : K) → rs ≡ [] → Reading rs k q → ⊥
  no_reading q rs k e r = subst (λ (x : RowsOf K). In r.tokens k x) e r.at

  whole_first : (b : ℕ) (p : List ℕ) (rs : RowsOf K) (k : K) → all_shaped rs ≡ true → has_slash (b ∷ p) ≡ false
      → Reading (param_step (step 256 rs) (b ∷ p)).1 k (drop ((param_step (step 256 rs) (b ∷ p)).0 - 1) p) → Reading rs k (b ∷ p)
  whole_first b p rs k s n r =
      let at = subst (λ (x : ℕ × RowsOf K). Reading x.1 k (drop (x.0 - 1) p)) (param_whole (step 256 rs) (b ∷ p) (step_slashed rs s) n) r in
      let one : length (b ∷ p) - 1 ≡ length p = omega arith in
      let end : drop (length (b ∷ p) - 1) p ≡ [] = ap (λ m. drop m p) one ∙ drop_all p in
      let same : piece (b ∷ p) ≡ b ∷ p = (piece_whole (b ∷ p) n).0 in
      with_value (b ∷ p) [] (b ∷ p) rs k (sym (append-nil (b ∷ p)))
      ((λ q. cc), subst (λ (l : List ℕ). All (λ b. b ≢ 47) l) same (piece_clear (b ∷ p)))
      (subst (λ (l : List ℕ). Reading (step 256 rs) k l) end at)

  piece_first : (b : ℕ) (p : List ℕ) (rs : RowsOf K) (k : K) → all_shaped rs ≡ true → has_slash (b ∷ p) ≡ true → ltb 0 (length (piece (b ∷ p))) ≡ true → some_slash (step 256 rs) ≡ true
      → Reading (param_step (step 256 rs) (b ∷ p)).1 k (drop ((param_step (step 256 rs) (b ∷ p)).0 - 1) p) → Reading rs k (b ∷ p)
  piece_first b p rs k s n l some r =
      let at = subst (λ (x : ℕ × RowsOf K). Reading x.1 k (drop (x.0 - 1) p)) (param_piece (step 256 rs) (b ∷ p) (step_slashed rs s) n l some) r in
      let rest : drop (length (piece (b ∷ p)) - 1) p ≡ beyond (b ∷ p) = sym (drop_one (length (piece (b ∷ p))) b p l) ∙ front_rest (b ∷ p) (piece (b ∷ p)) (beyond (b ∷ p)) (cut (b ∷ p)) in
      with_value (piece (b ∷ p)) (beyond (b ∷ p)) (b ∷ p) rs k (cut (b ∷ p)) (some_value (piece (b ∷ p)) l, piece_clear (b ∷ p))
      (narrower (beyond (b ∷ p)) (step 256 rs) k (subst (λ (l : List ℕ). Reading (with_suffix (47 ∷ []) (step 256 rs)) k l) rest at))

  param_first : (b : ℕ) (p : List ℕ) (rs : RowsOf K) (k : K) → all_shaped rs ≡ true
      → Reading (param_step (step 256 rs) (b ∷ p)).1 k (drop ((param_step (step 256 rs) (b ∷ p)).0 - 1) p) → Reading rs k (b ∷ p)
  param_first b p rs k s r = by (has_slash (b ∷ p)) (ltb 0 (length (piece (b ∷ p)))) (some_slash (step 256 rs)) refl refl refl
    where
      by : (x y z : Bool) → has_slash (b ∷ p) ≡ x → ltb 0 (length (piece (b ∷ p))) ≡ y → some_slash (step 256 rs) ≡ z → Reading rs k (b ∷ p)
      by false y z n l some = whole_first b p rs k s n r
      by true false z n l some = absurd (no_reading _ _ k (param_no_value (step 256 rs) (b ∷ p) (step_slashed rs s) n l) r)
      by true true false n l some = absurd (no_reading _ _ k (param_no_row (step 256 rs) (b ∷ p) (step_slashed rs s) n l some) r)
      by true true true n l some = piece_first b p rs k s n l some r

  param_shaped : (rs : RowsOf K) (p : List ℕ) → all_shaped rs ≡ true → all_shaped (param_step rs p).1 ≡ true
  unfolding param_step
  param_shaped rs p s = by (ltb 0 (length (longest_suffix (segment p) rs))) (has_slash p)
    where
      by : (x y : Bool) → all_shaped (cond {A = ℕ × RowsOf K} x (length (segment p) - length (longest_suffix (segment p) rs), with_suffix (longest_suffix (segment p) rs) rs) (cond y (0, []) (length p, rs))).1 ≡ true
      by true y = suffix_shaped (longest_suffix (segment p) rs) rs s
      by false true = refl
      by false false = s

  split : (x y z : Option K) (k : K) → or_else x (or_else y z) ≡ Some k → z ≡ None → (x ≡ Some k) ⊎ (y ≡ Some k)
  split (Some j) y z k e n = inl e
  split None (Some j) z k e n = inr e
  split None None z k e n = absurd cc

  pub sound : (p : List ℕ) (n : ℕ) (rs : RowsOf K) (k : K) → all_shaped rs ≡ true → IsText p → seek n rs p ≡ Some k → Reading rs k (drop n p)
  unfolding seek
  sound [] zero rs k s t e = record { tokens = []; values = []; at = own_in rs k e; is = refl; count = refl; valued = tt }
  sound [] (suc n) rs k s t e = record { tokens = []; values = []; at = own_in rs k e; is = refl; count = refl; valued = tt }
  sound (b ∷ p) (suc n) rs k s t e = sound p n rs k s t.1 e
  sound (b ∷ p) zero rs k s t e =
      let after = param_step (step 256 rs) (b ∷ p) in
      elim (split (seek 0 (step b rs) p) (seek (after.0 - 1) after.1 p) (own (step 257 rs)) k e (ap own (no_catch_all rs s))) [
        | inl h ↦ byte_first b p rs k t.0 (sound p 0 (step b rs) k (step_shaped b rs s) t.1 h)
        | inr h ↦ param_first b p rs k s (sound p (after.0 - 1) after.1 k (param_shaped (step 256 rs) (b ∷ p) (step_shaped 256 rs s)) t.1 h)
      ]
