-- What was at the keys that were written, found by undoing the writes one by one.
use Rattle.std.proofs.Common.{◌≡◌, ℕ, ◌+◌, ◌-◌, ◌<◌, ◌≤◌, List, [], ◌∷◌, length, Bool, true, false, cond, Option, Some, None, is_some, refl, sym, ap, ◌∙◌, Ordering, if◌then◌else◌, get_or, arith}
use Rattle.std.proofs.lemmas.List.{drop_all, drop_more}
use Rattle.std.specs.Prelude.{unwrap_or, drop}
use Rattle.std.specs.Ordering.{eq_by_cmp}
use Rattle.std.specs.Cmp.{Equal-is, IsTotalOrder}
use Rattle.std.specs.FinMap.{FinMap, from_entries, get, get-from_entries, get-insert, get-remove, get_tied, insert}
use Rattle.bsp_maps.specs.Undo.{IsEarlier, restorable, restored, undone, value_restored}
use Rattle.bsp_maps.specs.declared.logged.Old.{Old}

module _ {K V : Type 0} {R : K → K → Ordering} (o : IsTotalOrder R) where
  none_there : (m : FinMap R V) (k q : K) (b : Bool) → eq_by_cmp R q k ≡ b → get m k ≡ None → get m q ≡ cond b None (get m q)
  none_there m k q true tie none = sym (get_tied o m q k ((Equal-is (R q k)).0 tie)) ∙ none
  none_there m k q false tie none = refl

  no_value : (v : Option V) → is_some v ≡ false → v ≡ None
  no_value None is = refl
  no_value (Some v) is = absurd (cc is)

  none_restored : (b : Bool) → restorable {V = V} b None ≡ None
  none_restored true = refl
  none_restored false = refl

  some_restored : (m : FinMap R V) (k q : K) (v : V) (there : Bool) → is_some (get m k) ≡ there → get (if there then insert m k v else m) q ≡ cond (eq_by_cmp R q k) (restorable there (Some v)) (get m q)
  some_restored m k q v true is = get-insert o m k v q
  some_restored m k q v false is = none_there m k q (eq_by_cmp R q k) refl (no_value (get m k) is)

  -- what is at a key after one write was undone
  get-restored : (m : FinMap R V) (k q : K) (v : Option V) → get (value_restored k v m) q ≡ cond (eq_by_cmp R q k) (restorable (is_some (get m k)) v) (get m q)
  get-restored m k q None = get-remove o m k q ∙ ap (λ v. cond (eq_by_cmp R q k) v (get m q)) (sym (none_restored (is_some (get m k))))
  get-restored m k q (Some v) = some_restored m k q v (is_some (get m k)) refl

  either : (b : Bool) (x : Option V) (y : Option (Option V)) (z : Option V) → cond b x (unwrap_or y z) ≡ unwrap_or (cond b (Some x) y) z
  either true x y z = refl
  either false x y z = refl

  -- one write more is undone
  pub earlier_more : (found : FinMap R (Option V)) (now before : FinMap R V) (old : Old K V) → IsEarlier found now before
      → IsEarlier (insert found old.key (restorable (is_some (unwrap_or (get found old.key) (get now old.key))) old.value)) now (restored old before)
  earlier_more found now before old is q =
      let there = is_some (unwrap_or (get found old.key) (get now old.key)) in
      get-restored before old.key q old.value
      ∙ ap (λ v. cond (eq_by_cmp R q old.key) (restorable (is_some v) old.value) (get before q)) (is old.key)
      ∙ ap (cond (eq_by_cmp R q old.key) (restorable there old.value)) (is q)
      ∙ either (eq_by_cmp R q old.key) (restorable there old.value) (get found q) (get now q)
      ∙ ap (λ f. unwrap_or f (get now q)) (sym (get-insert o found old.key (restorable there old.value) q))

  -- at first none is undone
  pub earlier_none : (now : FinMap R V) (olds : List (Old K V)) → IsEarlier (from_entries {R = R} []) now (undone (drop (length olds - 0) olds) now)
  earlier_none now olds q = ap (λ l. get (undone l now) q) (drop_all (length olds - 0) olds (omega arith)) ∙ sym (ap (λ f. unwrap_or f (get now q)) (get-from_entries {X = Option V} o [] q))

  -- the write before the last that was undone
  pub one_before : (olds : List (Old K V)) (step : ℕ) (d : Old K V) → step < length olds → drop (length olds - (step + 1)) olds ≡ get_or olds (length olds - 1 - step) d ∷ drop (length olds - step) olds
  one_before olds step d low =
      let at : length olds - (step + 1) ≡ length olds - 1 - step = omega arith in
      let next : (length olds - 1 - step) + 1 ≡ length olds - step = omega (arith, low) in
      ap (λ n. drop n olds) at ∙ drop_more olds (length olds - 1 - step) d (omega (arith, low)) ∙ ap (λ n. get_or olds (length olds - 1 - step) d ∷ drop n olds) next

  -- at last all are undone
  pub all_undone : (found : FinMap R (Option V)) (now : FinMap R V) (olds : List (Old K V)) (step : ℕ) → length olds ≤ step → IsEarlier found now (undone (drop (length olds - step) olds) now) → IsEarlier found now (undone olds now)
  all_undone found now olds step through is = let whole : length olds - step ≡ 0 = omega arith in rw whole at is
