-- What a write makes of a table's entries, and how it is undone.
use Rattle.std.proofs.Common.{◌≡◌, List, [], ◌∷◌, ◌++◌, Bool, true, false, cond, refl, sym, ap, ◌∙◌, Ordering, Option, Some, None, is_some, if◌then◌else◌, Result, Ok, Err, OnOk}
use Rattle.std.specs.Prelude.{OnErr}
use Rattle.std.specs.Option.{option_to_list}
use Rattle.std.specs.Ordering.{is_eq, eq_by_cmp}
use Rattle.std.specs.Cmp.{Equal-is, IsTotalOrder, eq_by_cmp_equiv, tied_itself}
use Rattle.std.specs.Map.{lookup}
use Rattle.std.specs.BTreeMap.{BTreeMap, is_at}
use Rattle.std.specs.BTreeMap as tree
use Rattle.std.specs.FinMap.{FinMap, IsAntisymmetric, get, insert, remove, from_entries, contains_key, get-insert, get-remove, get_tied, get-from_entries, same_map, find}
use Rattle.bsp_maps.specs.declared.logged.Old.{Old}
use Rattle.bsp_maps.specs.Undo.{value_restored, restored, undone}

same_find : {K X : Type 0} (R : K → K → Ordering) (q : K) (es : List (K × X)) → find R q es ≡ lookup (is_at (R q)) es
same_find R q [] = refl
same_find R q (e ∷ es) = ap (cond (is_eq (R q e.0)) (Some e.1)) (same_find R q es)

-- the value at a key
pub found : {K X : Type 0} {R : K → K → Ordering} (o : IsTotalOrder R) (es : List (K × X)) (q : K) → get (from_entries {R = R} es) q ≡ lookup (is_at (R q)) es
found {K} {X} {R} o es q = get-from_entries o es q ∙ same_find R q es

hidden : {X : Type 0} (b : Bool) (x y z : Option X) → cond b x (cond b y z) ≡ cond b x z
hidden true x y z = refl
hidden false x y z = refl

module _ {K X : Type 0} {R : K → K → Ordering} (o : IsTotalOrder R) (exact : IsAntisymmetric R) where
  -- an entry was written
  pub written : (m n : BTreeMap K X) (k : K) (v : X) → ((q : K) → tree.get R n q ≡ cond (is_at (R k) q) (Some v) (tree.get R m q)) → from_entries {R = R} n.entries ≡ insert (from_entries m.entries) k v
  written m n k v h = same_map o exact _ _ (λ q.
      found o n.entries q ∙ h q
      ∙ ap (λ b. cond b (Some v) (tree.get R m q)) ((eq_by_cmp_equiv o).symm k q)
      ∙ sym (get-insert o (from_entries m.entries) k v q ∙ ap (cond (eq_by_cmp R q k) (Some v)) (found o m.entries q)))

  -- an entry was taken out
  pub taken : (m n : BTreeMap K X) (k : K) → ((q : K) → tree.get R n q ≡ cond (is_at (R k) q) None (tree.get R m q)) → from_entries {R = R} n.entries ≡ remove (from_entries m.entries) k
  taken m n k h = same_map o exact _ _ (λ q.
      found o n.entries q ∙ h q
      ∙ ap (λ b. cond b None (tree.get R m q)) ((eq_by_cmp_equiv o).symm k q)
      ∙ sym (get-remove o (from_entries m.entries) k q ∙ ap (cond (eq_by_cmp R q k) None) (found o m.entries q)))

  -- at the key what was there, and elsewhere what is there
  at_key : (m : FinMap R X) (k q : K) (b : Bool) → eq_by_cmp R q k ≡ b → cond b (get m k) (get m q) ≡ get m q
  at_key m k q true e = get_tied o m q k ((Equal-is (R q k)).0 e)
  at_key m k q false e = refl

  held : (m : FinMap R X) (k : K) (v : X) → contains_key (insert m k v) k ≡ true
  held m k v = ap is_some (get-insert o m k v k ∙ ap (λ r. cond (is_eq r) (Some v) (get m k)) (tied_itself o k))

  -- what was written is undone
  pub put_back : (m : FinMap R X) (k : K) (v : X) (old : Option X) → get m k ≡ old → value_restored k old (insert m k v) ≡ m
  put_back m k v None e = same_map o exact _ _ (λ q.
      get-remove o (insert m k v) k q
      ∙ ap (cond (eq_by_cmp R q k) None) (get-insert o m k v q)
      ∙ hidden (eq_by_cmp R q k) None (Some v) (get m q)
      ∙ ap (λ w. cond (eq_by_cmp R q k) w (get m q)) (sym e)
      ∙ at_key m k q (eq_by_cmp R q k) refl)
  put_back m k v (Some w) e = ap (λ b. if b then insert (insert m k v) k w else insert m k v) (held m k v) ∙ same_map o exact _ _ (λ q.
      get-insert o (insert m k v) k w q
      ∙ ap (cond (eq_by_cmp R q k) (Some w)) (get-insert o m k v q)
      ∙ hidden (eq_by_cmp R q k) (Some w) (Some v) (get m q)
      ∙ ap (λ u. cond (eq_by_cmp R q k) u (get m q)) (sym e)
      ∙ at_key m k q (eq_by_cmp R q k) refl)

  -- what was there is written again
  pub written_back : (m : FinMap R X) (k : K) (v w : X) → get m k ≡ Some w → insert (insert m k v) k w ≡ m
  written_back m k v w e = sym (ap (λ b. if b then insert (insert m k v) k w else insert m k v) (held m k v)) ∙ put_back m k v (Some w) e

  -- to put back what is there changes nothing
  pub put_back_same : (m : FinMap R X) (k : K) (old : Option X) → get m k ≡ old → value_restored k old m ≡ m
  put_back_same m k None e = same_map o exact _ _ (λ q.
      get-remove o m k q
      ∙ ap (λ u. cond (eq_by_cmp R q k) u (get m q)) (sym e)
      ∙ at_key m k q (eq_by_cmp R q k) refl)
  put_back_same m k (Some w) e = ap (λ b. if b then insert m k w else m) (ap is_some e) ∙ same_map o exact _ _ (λ q.
      get-insert o m k w q
      ∙ ap (λ u. cond (eq_by_cmp R q k) u (get m q)) (sym e)
      ∙ at_key m k q (eq_by_cmp R q k) refl)

-- the last is put back first
pub undone_last : {K X : Type 0} {R : K → K → Ordering} (olds : List (Old K X)) (old : Old K X) (m : FinMap R X) → undone (olds ++ old ∷ []) m ≡ undone olds (restored old m)
undone_last [] old m = refl
undone_last (first ∷ olds) old m = ap (restored first) (undone_last olds old m)

-- a refusal that cannot be is none
pub either : {A B P Q : Type 0} (r : Result A B) → OnOk r P → OnErr r Q → (Q → P) → P
either (Ok x) p q f = p
either (Err y) p q f = f q

pub popped : {K X : Type 0} {R : K → K → Ordering} (olds rest : List (Old K X)) (last : Option (Old K X)) (old : Old K X) (m : FinMap R X) → last ≡ Some old → olds ≡ rest ++ option_to_list last → undone olds m ≡ undone rest (restored old m)
popped olds rest last old m is e = ap (λ xs. undone xs m) (e ∙ ap (λ l. rest ++ option_to_list l) is) ∙ undone_last rest old m
