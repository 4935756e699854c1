-- A map brought up to another one at some keys, and the rows of a map's table.
use Rattle.std.proofs.Common.{◌≡◌, Bool, true, false, cond, not, ◌||◌, List, [], ◌∷◌, map, Option, Some, None, is_some, inl, inr, refl, sym, ap, ◌∙◌, subst, Ordering, Less, Equal, Greater, is_eq, filter, IsPermutation}
use Rattle.bsp_store_base.proofs.Std.{alike_right, cases_Bool, entries, entries-insert, entries_sorted, eq_by_cmp, eq_by_cmp_equiv, Equal-is, FinMap, get, get-entries, get-insert, get-remove, get_tied, insert, IsAntisymmetric, IsPermutation-cons, IsPermutation-map, IsPermutation-middle, IsPermutation-refl, IsPermutation-sym, IsPermutation-trans, IsTotalOrder, list_any, remove, same_map, tied_itself}
use Rattle.std.specs.FinMap.Entries.{find, put, by_order, where_key, is_sorted-where_key, find-where_key, same_entries}
use Rattle.sqlite_trees.proofs.ListLemmas.{IsPermutation-filter}
use Rattle.bsp_maps.proofs.UndoLemmas.{put_back_same}
use Rattle.bsp_store_base.proofs.Alone.{alone}
use Rattle.bsp_store_base.specs.Synced.{with_value, synced}

module _ {K V : Type 0} {R : K → K → Ordering} (o : IsTotalOrder R) where
  -- ---- what is at a key

  pub get-with_value : (k : K) (v : Option V) (m : FinMap R V) (q : K) → get (with_value k v m) q ≡ cond (eq_by_cmp R q k) v (get m q)
  get-with_value k None m q = get-remove o m k q
  get-with_value k (Some v) m q = get-insert o m k v q

  synced_step : (a b : Bool) (at now old : Option V) → (b ≡ true → at ≡ now) → cond a now (cond b at old) ≡ cond (b || a) now old
  synced_step true true at now old same = refl
  synced_step false true at now old same = same refl
  synced_step true false at now old same = refl
  synced_step false false at now old same = refl

  pub get-synced : (ks : List K) (now m : FinMap R V) (q : K) → get (synced ks now m) q ≡ cond (list_any (eq_by_cmp R q) ks) (get now q) (get m q)
  get-synced [] now m q = refl
  get-synced (k ∷ ks) now m q =
      get-synced ks now (with_value k (get now k) m) q
      ∙ ap (cond (list_any (eq_by_cmp R q) ks) (get now q)) (get-with_value k (get now k) m q)
      ∙ synced_step (list_any (eq_by_cmp R q) ks) (eq_by_cmp R q k) (get now k) (get now q) (get m q) (λ tie. get_tied o now q k ((Equal-is (R q k)).0 tie))

-- ---- the rows of a map's table

module _ {K X : Type 0} (R : K → K → Ordering) (o : IsTotalOrder R) where
  -- a key that is taken out takes its entry out
  turned : (b : Bool) (x : Option X) → cond (not b) x None ≡ cond b None x
  turned true x = refl
  turned false x = refl

  pub entries-remove : IsAntisymmetric R → (m : FinMap R X) (k : K) → entries (remove m k) ≡ filter (λ e. not (eq_by_cmp R k e.0)) (entries m)
  entries-remove exact m k =
      same_entries R o exact (entries (remove m k)) (where_key R (λ x. not (eq_by_cmp R k x)) (entries m)) (entries_sorted (remove m k)) (is_sorted-where_key R _ (entries m) (entries_sorted m))
      (λ q. sym (get-entries (remove m k) q) ∙ get-remove o m k q ∙ ap (cond (eq_by_cmp R q k) None) (get-entries m q)
      ∙ ap (λ b. cond b None (find R q (entries m))) ((eq_by_cmp_equiv o).symm q k) ∙ sym (turned (eq_by_cmp R k q) (find R q (entries m)))
      ∙ sym (find-where_key R (λ x. not (eq_by_cmp R k x)) q (λ x t. ap (λ r. not (is_eq r)) (sym (alike_right o q x k t))) (entries m)))

  put_new_step : (k : K) (v : X) (e : K × X) (es : List (K × X)) → find R k (e ∷ es) ≡ None → (find R k es ≡ None → IsPermutation ((k, v) ∷ es) (put R k v es)) → (r : Ordering) → R k e.0 ≡ r → IsPermutation ((k, v) ∷ e ∷ es) (by_order r ((k, v) ∷ e ∷ es) ((e.0, v) ∷ es) (e ∷ put R k v es))
  put_new_step k v e es h rest Less is = IsPermutation-refl _
  put_new_step k v e es h rest Equal is =
      let some : Some e.1 ≡ None = sym (ap (λ s. cond (is_eq s) (Some e.1) (find R k es)) is) ∙ h in
      absurd (cc some)
  put_new_step k v e es h rest Greater is =
      let none : find R k es ≡ None = sym (ap (λ s. cond (is_eq s) (Some e.1) (find R k es)) is) ∙ h in
      IsPermutation-trans _ _ _ (IsPermutation-sym _ _ (IsPermutation-middle (e ∷ []) (k, v) es)) (IsPermutation-cons e _ _ (rest none))

  put_new : (k : K) (v : X) (es : List (K × X)) → find R k es ≡ None → IsPermutation ((k, v) ∷ es) (put R k v es)
  put_new k v [] h = IsPermutation-refl _
  put_new k v (e ∷ es) h = put_new_step k v e es h (put_new k v es) (R k e.0) refl

  insert_new : (m : FinMap R X) (k : K) (v : X) → get m k ≡ None → IsPermutation ((k, v) ∷ entries m) (entries (insert m k v))
  insert_new m k v h = subst (IsPermutation ((k, v) ∷ entries m)) (sym (entries-insert o m k v)) (put_new k v (entries m) (sym (get-entries m k) ∙ h))

  -- the rows after an INSERT of a key that is new
  pub rows_added : {Y : Type 0} (row_of : K × X → Y) (m : FinMap R X) (k : K) (v : X) → get m k ≡ None → IsPermutation (map row_of (entries (insert m k v))) (row_of (k, v) ∷ map row_of (entries m))
  rows_added row_of m k v h = IsPermutation-sym _ _ (IsPermutation-map row_of _ _ (insert_new m k v h))

  -- the rows after a DELETE of those of the key
  pub rows_removed : {Y : Type 0} (row_of : K × X → Y) → IsAntisymmetric R → (m : FinMap R X) (k : K) → map row_of (entries (remove m k)) ≡ map row_of (filter (λ e. not (eq_by_cmp R k e.0)) (entries m))
  rows_removed row_of exact m k = ap (map row_of) (entries-remove exact m k)

  -- a key that was taken out is put in as a new one
  pub put_again : IsAntisymmetric R → (m : FinMap R X) (k : K) (v : X) → insert (remove m k) k v ≡ insert m k v
  put_again exact m k v = same_map o exact _ _ (λ q. get-insert o (remove m k) k v q ∙ ap (cond (eq_by_cmp R q k) (Some v)) (get-remove o m k q) ∙ twice (eq_by_cmp R q k) (get m q) ∙ sym (get-insert o m k v q))
    where
      twice : (b : Bool) (x : Option X) → cond b (Some v) (cond b None x) ≡ cond b (Some v) x
      twice true x = refl
      twice false x = refl

  pub gone : (m : FinMap R X) (k : K) → get (remove m k) k ≡ None
  gone m k = get-remove o m k k ∙ ap (λ b. cond b None (get m k)) (ap is_eq (tied_itself o k))

  -- what is there is put in again
  put_same : IsAntisymmetric R → (m : FinMap R X) (k : K) (v : X) → get m k ≡ Some v → insert m k v ≡ m
  put_same exact m k v is = sym (ap (λ b. cond b (insert m k v) m) (ap is_some is)) ∙ put_back_same o exact m k (Some v) is

  -- none is taken out where there is none
  pub remove_none : IsAntisymmetric R → (m : FinMap R X) (k : K) → get m k ≡ None → remove m k ≡ m
  remove_none exact m k none = put_back_same o exact m k None none

  no_more : (p : K × X → Bool) (es : List (K × X)) → filter p (filter (λ e. not (p e)) es) ≡ []
  no_more p [] = refl
  no_more p (e ∷ es) = let more = no_more p es in elim (cases_Bool (p e)) [ inl is ↦ rw (is, more) refl | inr is ↦ rw (is, is, more) refl ]

  -- the one entry of a key
  pub one_there : IsAntisymmetric R → (m : FinMap R X) (k : K) (v : X) → get m k ≡ Some v → filter (λ e. eq_by_cmp R k e.0) (entries m) ≡ (k, v) ∷ []
  one_there exact m k v is =
      let p : K × X → Bool = λ e. eq_by_cmp R k e.0 in
      let whole : insert (remove m k) k v ≡ m = put_again exact m k v ∙ put_same exact m k v is in
      let parts : IsPermutation ((k, v) ∷ entries (remove m k)) (entries m) = subst (λ n. IsPermutation ((k, v) ∷ entries (remove m k)) (entries n)) whole (insert_new (remove m k) k v (gone m k)) in
      let rest : filter p (entries (remove m k)) ≡ [] = ap (filter p) (entries-remove exact m k) ∙ no_more p (entries m) in
      let first : filter p ((k, v) ∷ entries (remove m k)) ≡ (k, v) ∷ [] = ap (λ r. cond (is_eq r) ((k, v) ∷ filter p (entries (remove m k))) (filter p (entries (remove m k)))) (tied_itself o k) ∙ ap (λ l. (k, v) ∷ l) rest in
      alone (k, v) _ (subst (λ l. IsPermutation l (filter p (entries m))) first (IsPermutation-filter p _ _ parts))

  -- the rows after an UPDATE of the row of a key
  pub rows_changed : {Y : Type 0} → IsAntisymmetric R → (row_of : K × X → Y) (m : FinMap R X) (k : K) (v : X) → IsPermutation (map row_of (entries (insert m k v))) (row_of (k, v) ∷ map row_of (filter (λ e. not (eq_by_cmp R k e.0)) (entries m)))
  rows_changed exact row_of m k v =
      subst (λ l. IsPermutation (map row_of (entries (insert m k v))) (row_of (k, v) ∷ l)) (rows_removed row_of exact m k)
      (subst (λ n. IsPermutation (map row_of (entries n)) (row_of (k, v) ∷ map row_of (entries (remove m k)))) (put_again exact m k v) (rows_added row_of (remove m k) k v (gone m k)))
