-- A path of a form leads to the row where its tokens end.
use Rattle.std.proofs.Common.{◌≡◌, ◌≢◌, ℕ, ◌-◌, ◌<◌, List, [], ◌∷◌, ◌++◌, length, drop, Option, Bool, true, false, refl, sym, ap, ◌∙◌, subst, arith, ◌==◌, ltb, ◌&&◌, append-nil, All}
use Rattle.std.proofs.lemmas.Bool.Decides.{nat_tests}
use Rattle.std.proofs.lemmas.Bool.{false≢true}
use Rattle.std.proofs.lemmas.List.Elements.{All-head, All-tail}
use Rattle.std.proofs.lemmas.List.Prefix.{front_rest}
use Rattle.matchit.specs.Rows.{RowsOf}
use Rattle.matchit.specs.Level.{IsText}
use Rattle.matchit.specs.Seek.{own, step, seek, first, param_step, has_slash, with_suffix}
use Rattle.bsp_routes.specs.Resources.{Form, Fits}
use Rattle.bsp_routes.specs.Targets.{IsValue}
use Rattle.bsp_routes.specs.Resources.Form.{Fixed, After, Between, Two}
use Rattle.bsp_routes.proofs.Shapes.{all_shaped, some_slash, is_slash_first, both, is_256, step_shaped, step_slashed, suffix_shaped, no_catch_all, or_else_none, param_step_empty, seek_empty, seek_drop}
use Rattle.bsp_routes.proofs.Segments.{piece, param_whole, param_piece}

pub value_no_slash : (v : List ℕ) → All (λ b. b ≢ 47) v → has_slash v ≡ false
value_no_slash [] h = refl
value_no_slash (b ∷ v) h =
    let n = All-head (λ b. b ≢ 47) b v h in
    let e : (b == 47) ≡ false = grind (arith, nat_tests) in
    rw e (value_no_slash v (All-tail (λ b. b ≢ 47) b v h))

pub value_then : (v z : List ℕ) → All (λ b. b ≢ 47) v → is_slash_first z ≡ true → (has_slash (v ++ z) ≡ true) × (piece (v ++ z) ≡ v)
value_then [] [] h s = absurd (false≢true s)
value_then [] (x ∷ z) h s = (rw s refl, rw s refl)
value_then (b ∷ v) z h s =
    let n = All-head (λ b. b ≢ 47) b v h in
    let e : (b == 47) ≡ false = grind (arith, nat_tests) in
    let ih = value_then v z (All-tail (λ b. b ≢ 47) b v h) s in
    (rw e ih.0, rw e (ap (λ r. b ∷ r) ih.1))

pub first_of_both : (z b : List ℕ) → is_slash_first z ≡ true → is_slash_first (z ++ b) ≡ true
first_of_both [] b e = absurd (false≢true e)
first_of_both (x ∷ z) b e = e

pub text_back : (w p : List ℕ) → IsText (w ++ p) → IsText p
text_back [] p t = t
text_back (b ∷ w) p t = text_back w p t.1

drop_all : (p : List ℕ) → drop (length p) p ≡ []
drop_all [] = refl
drop_all (b ∷ p) = drop_all p

some_len : (b : ℕ) (v : List ℕ) → ltb 0 (length (b ∷ v)) ≡ true
some_len b v = grind (arith, nat_tests)

module _ {K : Type 0} where
  abbrev pub is_none : RowsOf K → Bool
  is_none [] = true
  is_none (r ∷ rs) = false

  -- no parameter along the text
  abbrev pub plain : List ℕ → RowsOf K → Bool
  plain [] rs = true
  plain (b ∷ w) rs = is_none (step 256 rs) && plain w (step b rs)

  abbrev pub steps : List ℕ → RowsOf K → RowsOf K
  steps [] rs = rs
  steps (b ∷ w) rs = steps w (step b rs)

  -- each row goes on with a parameter
  abbrev pub only_params : RowsOf K → Bool
  only_params [] = true
  only_params (([], k) ∷ rs) = only_params rs
  only_params ((x ∷ t, k) ∷ rs) = x == 256 && only_params rs

  from_none : (rs : RowsOf K) → is_none rs ≡ true → rs ≡ []
  from_none [] e = refl
  from_none (r ∷ rs) e = absurd (false≢true e)

  no_byte : (b : ℕ) (rs : RowsOf K) → b < 256 → only_params rs ≡ true → step b rs ≡ []
  no_byte b [] l e = refl
  no_byte b (([], k) ∷ rs) l e = no_byte b rs l e
  no_byte b ((x ∷ t, k) ∷ rs) l e =
      let parts = both (x == 256) (only_params rs) e in
      let x256 = is_256 x parts.0 in
      let n : (256 == b) ≡ false = grind (arith, nat_tests) in
      rw (x256, n) (no_byte b rs l parts.1)

  byte_step : (b : ℕ) (p : List ℕ) (rs : RowsOf K) → all_shaped rs ≡ true → step 256 rs ≡ [] → seek 0 rs (b ∷ p) ≡ seek 0 (step b rs) p
  unfolding seek
  byte_step b p rs s e =
      rw (e, no_catch_all rs s) (simp (param_step_empty {K = K} (b ∷ p), seek_empty {K = K} ((param_step {K = K} [] (b ∷ p)).0 - 1) p, or_else_none {K = K}))

  pub along : (w p : List ℕ) (rs : RowsOf K) → all_shaped rs ≡ true → plain w rs ≡ true → seek 0 rs (w ++ p) ≡ seek 0 (steps w rs) p
  along [] p rs s e = refl
  along (b ∷ w) p rs s e =
      let parts = both (is_none (step 256 rs)) (plain w (step b rs)) e in
      byte_step b (w ++ p) rs s (from_none (step 256 rs) parts.0) ∙ along w p (step b rs) (step_shaped b rs s) parts.1

  pub steps_shaped : (w : List ℕ) (rs : RowsOf K) → all_shaped rs ≡ true → all_shaped (steps w rs) ≡ true
  steps_shaped [] rs s = s
  steps_shaped (b ∷ w) rs s = steps_shaped w (step b rs) (step_shaped b rs s)

  param_next : (b : ℕ) (p : List ℕ) (rs : RowsOf K) → b < 256 → all_shaped rs ≡ true → only_params rs ≡ true
      → seek 0 rs (b ∷ p) ≡ seek 0 (param_step (step 256 rs) (b ∷ p)).1 (drop ((param_step (step 256 rs) (b ∷ p)).0 - 1) p)
  unfolding seek
  param_next b p rs l s o =
      rw (no_byte b rs l o, seek_empty {K = K} 0 p, no_catch_all rs s) (or_else_none {K = K} _ ∙ seek_drop _ _ p)

  pub value_last : (v : List ℕ) (rs : RowsOf K) → IsText v → IsValue v → all_shaped rs ≡ true → only_params rs ≡ true → seek 0 rs v ≡ own (step 256 rs)
  unfolding seek
  value_last [] rs t i s o = absurd (i.0 refl)
  value_last (b ∷ p) rs t i s o =
      let n = value_no_slash (b ∷ p) i.1 in
      let one : length (b ∷ p) - 1 ≡ length p = omega arith in
      let end : drop (length (b ∷ p) - 1) p ≡ [] = ap (λ m. drop m p) one ∙ drop_all p in
      param_next b p rs t.0 s o
      ∙ ap (λ (x : ℕ × RowsOf K). seek 0 x.1 (drop (x.0 - 1) p)) (param_whole (step 256 rs) (b ∷ p) (step_slashed rs s) n)
      ∙ ap (λ q. seek 0 (step 256 rs) q) end

  pub value_then_on : (v z : List ℕ) (rs : RowsOf K) → IsText (v ++ z) → IsValue v → is_slash_first z ≡ true → all_shaped rs ≡ true → only_params rs ≡ true → some_slash (step 256 rs) ≡ true
      → seek 0 rs (v ++ z) ≡ seek 0 (with_suffix (47 ∷ []) (step 256 rs)) z
  value_then_on [] z rs t i f s o some = absurd (i.0 refl)
  value_then_on (b ∷ v) z rs t i f s o some =
      let facts = value_then (b ∷ v) z i.1 f in
      let l : ltb 0 (length (piece (b ∷ (v ++ z)))) ≡ true = ap (λ r. ltb 0 (length r)) facts.1 ∙ some_len b v in
      let one : length (b ∷ v) - 1 ≡ length v = omega arith in
      let end : drop (length (piece (b ∷ (v ++ z))) - 1) (v ++ z) ≡ z = ap (λ r. drop (length r - 1) (v ++ z)) facts.1 ∙ ap (λ m. drop m (v ++ z)) one ∙ front_rest (v ++ z) v z refl in
      param_next b (v ++ z) rs t.0 s o
      ∙ ap (λ (x : ℕ × RowsOf K). seek 0 x.1 (drop (x.0 - 1) (v ++ z))) (param_piece (step 256 rs) (b ∷ (v ++ z)) (step_slashed rs s) facts.0 l some)
      ∙ ap (λ q. seek 0 (with_suffix (47 ∷ []) (step 256 rs)) q) end

  -- the rows after a value and a slash
  abbrev pub after_value : RowsOf K → RowsOf K
  after_value rs = with_suffix (47 ∷ []) (step 256 rs)

  abbrev pub end_of : Form → RowsOf K → Option K
  end_of (Fixed w) rs = own (steps w rs)
  end_of (After w) rs = own (step 256 (steps w rs))
  end_of (Between w z) rs = own (steps z (after_value (steps w rs)))
  end_of (Two w z) rs = own (step 256 (steps z (after_value (steps w rs))))

  abbrev pub takes_value : RowsOf K → List ℕ → Bool
  takes_value rs z = only_params rs && (some_slash (step 256 rs) && is_slash_first z)

  abbrev pub serves : Form → RowsOf K → Bool
  serves (Fixed w) rs = plain w rs
  serves (After w) rs = plain w rs && only_params (steps w rs)
  serves (Between w z) rs = plain w rs && (takes_value (steps w rs) z && plain z (after_value (steps w rs)))
  serves (Two w z) rs = plain w rs && (takes_value (steps w rs) z && (plain z (after_value (steps w rs)) && only_params (steps z (after_value (steps w rs)))))

  after_shaped : (rs : RowsOf K) → all_shaped rs ≡ true → all_shaped (after_value rs) ≡ true
  after_shaped rs s = suffix_shaped (47 ∷ []) (step 256 rs) (step_shaped 256 rs s)

  on_value : (v z : List ℕ) (rs : RowsOf K) → IsText (v ++ z) → IsValue v → all_shaped rs ≡ true → takes_value rs z ≡ true → seek 0 rs (v ++ z) ≡ seek 0 (after_value rs) z
  on_value v z rs t i s e =
      let a = both (only_params rs) (some_slash (step 256 rs) && is_slash_first z) e in
      let b = both (some_slash (step 256 rs)) (is_slash_first z) a.1 in
      value_then_on v z rs t i b.1 s a.0 b.0

  pub leads : (f : Form) (a b path : List ℕ) (rs : RowsOf K) → all_shaped rs ≡ true → serves f rs ≡ true → IsText path → Fits f a b path → first rs path ≡ end_of f rs
  unfolding seek
  leads (Fixed w) a b path rs s e t f = ap (seek 0 rs) (f.0 ∙ sym (append-nil w)) ∙ along w [] rs s e
  leads (After w) a b path rs s e t f =
      let p = both (plain w rs) (only_params (steps w rs)) e in
      ap (seek 0 rs) f.0 ∙ along w a rs s p.0 ∙ value_last a (steps w rs) (text_back w a (subst IsText f.0 t)) f.1 (steps_shaped w rs s) p.1
  leads (Between w z) a b path rs s e t f =
      let p = both (plain w rs) (takes_value (steps w rs) z && plain z (after_value (steps w rs))) e in
      let q = both (takes_value (steps w rs) z) (plain z (after_value (steps w rs))) p.1 in
      let s2 = after_shaped (steps w rs) (steps_shaped w rs s) in
      ap (seek 0 rs) f.0 ∙ along w (a ++ z) rs s p.0 ∙ on_value a z (steps w rs) (text_back w (a ++ z) (subst IsText f.0 t)) f.1 (steps_shaped w rs s) q.0
      ∙ ap (seek 0 (after_value (steps w rs))) (sym (append-nil z)) ∙ along z [] (after_value (steps w rs)) s2 q.1
  leads (Two w z) a b path rs s e t f =
      let p = both (plain w rs) (takes_value (steps w rs) z && (plain z (after_value (steps w rs)) && only_params (steps z (after_value (steps w rs))))) e in
      let q = both (takes_value (steps w rs) z) (plain z (after_value (steps w rs)) && only_params (steps z (after_value (steps w rs)))) p.1 in
      let r = both (plain z (after_value (steps w rs))) (only_params (steps z (after_value (steps w rs)))) q.1 in
      let s2 = after_shaped (steps w rs) (steps_shaped w rs s) in
      let t2 = text_back w (a ++ (z ++ b)) (subst IsText f.0 t) in
      ap (seek 0 rs) f.0 ∙ along w (a ++ (z ++ b)) rs s p.0
      ∙ value_then_on_z a z b (steps w rs) t2 f.1 (steps_shaped w rs s) q.0
      ∙ along z b (after_value (steps w rs)) s2 r.0
      ∙ value_last b (steps z (after_value (steps w rs))) (text_back z b (text_back a (z ++ b) t2)) f.2 (steps_shaped z (after_value (steps w rs)) s2) r.1
    where
      value_then_on_z : (a z b : List ℕ) (rs : RowsOf K) → IsText (a ++ (z ++ b)) → IsValue a → all_shaped rs ≡ true → takes_value rs z ≡ true → seek 0 rs (a ++ (z ++ b)) ≡ seek 0 (after_value rs) (z ++ b)
      value_then_on_z a z b rs t i s e =
          let x = both (only_params rs) (some_slash (step 256 rs) && is_slash_first z) e in
          let y = both (some_slash (step 256 rs)) (is_slash_first z) x.1 in
          value_then_on a (z ++ b) rs t i (first_of_both z b y.1) s x.0 y.0
