-- The values of a map with an entry written are those of the others, and the written one.
use Rattle.std.proofs.Common.{◌≡◌, true, cond, List, [], ◌∷◌, ◌++◌, map, refl, sym, ap, subst, ◌∙◌, Ordering, Less, Equal, Greater, Option, Some, None, IsPermutation}
use Rattle.std.specs.Option.{option_to_list}
use Rattle.std.specs.Ordering.{is_eq, is_lt}
use Rattle.std.specs.Cmp.{IsTotalOrder}
use Rattle.std.specs.FinMap.{FinMap, get, insert, entries, values, get-entries, entries_sorted, entries-insert}
use Rattle.std.specs.FinMap.Entries.{find, put, by_order, is_sorted, below_all}
use Rattle.std.proofs.lemmas.Bool.{and_parts}
use Rattle.std.proofs.lemmas.List.Sorted.{IsPermutation-refl, IsPermutation-trans, IsPermutation-cons, IsPermutation-middle}
use Rattle.bsp_rows.proofs.MapLemmas.{is_true}

-- the values of the others
pub record HasOthers {X : Type 0} (before after : List X) (old : Option X) (new : X) : Type 0 where
  pub others : List X
  pub was : IsPermutation before (option_to_list old ++ others)
  pub is : IsPermutation (new ∷ others) after

less : (r : Ordering) → is_lt r ≡ true → r ≡ Less
less Less h = refl
less Equal h = absurd (cc)
less Greater h = absurd (cc)

turned : {X : Type 0} (x y : X) (zs : List X) → IsPermutation (x ∷ y ∷ zs) (y ∷ x ∷ zs)
turned x y zs = IsPermutation-middle (x ∷ []) y zs

module _ {K X : Type 0} {R : K → K → Ordering} (o : IsTotalOrder R) where
  none_below : (k x : K) (es : List (K × X)) → R k x ≡ Less → below_all R x es ≡ true → find R k es ≡ None
  none_below k x [] l up = refl
  none_below k x (e ∷ es) l up =
      let parts = and_parts (is_lt (R x e.0)) (below_all R x es) up in
      ap (λ r. cond (is_eq r) (Some e.1) (find R k es)) (o.trans k x e.0 l (less (R x e.0) parts.0)) ∙ none_below k x es l parts.1

  skipped : (e : K × X) (before after : List X) (old : Option X) (new : X) → HasOthers before after old new → HasOthers (e.1 ∷ before) (e.1 ∷ after) old new
  skipped e before after None new h = record {
    others = e.1 ∷ h.others;
    was = IsPermutation-cons e.1 before h.others h.was;
    is = IsPermutation-trans _ _ _ (turned new e.1 h.others) (IsPermutation-cons e.1 (new ∷ h.others) after h.is);
  }
  skipped e before after (Some w) new h = record {
    others = e.1 ∷ h.others;
    was = IsPermutation-trans _ _ _ (IsPermutation-cons e.1 before (w ∷ h.others) h.was) (turned e.1 w h.others);
    is = IsPermutation-trans _ _ _ (turned new e.1 h.others) (IsPermutation-cons e.1 (new ∷ h.others) after h.is);
  }

  step : (k : K) (v : X) (e : K × X) (es : List (K × X)) → below_all R e.0 es ≡ true → HasOthers (map (λ e. e.1) es) (map (λ e. e.1) (put R k v es)) (find R k es) v
      → (r : Ordering) → R k e.0 ≡ r
      → HasOthers (e.1 ∷ map (λ e. e.1) es) (map (λ e. e.1) (by_order r ((k, v) ∷ e ∷ es) ((e.0, v) ∷ es) (e ∷ put R k v es))) (cond (is_eq r) (Some e.1) (find R k es)) v
  step k v e es up rest Less is =
      subst (λ (old : Option X). HasOthers (e.1 ∷ map (λ e. e.1) es) (v ∷ e.1 ∷ map (λ e. e.1) es) old v) (sym (none_below k e.0 es is up))
      (record { others = e.1 ∷ map (λ e. e.1) es; was = IsPermutation-refl _; is = IsPermutation-refl _ })
  step k v e es up rest Equal is = record { others = map (λ e. e.1) es; was = IsPermutation-refl _; is = IsPermutation-refl _ }
  step k v e es up rest Greater is = skipped e (map (λ e. e.1) es) (map (λ e. e.1) (put R k v es)) (find R k es) v rest

  put_others : (k : K) (v : X) (es : List (K × X)) → is_sorted R es ≡ true → HasOthers (map (λ e. e.1) es) (map (λ e. e.1) (put R k v es)) (find R k es) v
  put_others k v [] up = record { others = []; was = IsPermutation-refl _; is = IsPermutation-refl _ }
  put_others k v (e ∷ es) up =
      let parts = and_parts (below_all R e.0 es) (is_sorted R es) up in
      step k v e es parts.0 (put_others k v es parts.1) (R k e.0) refl

  pub insert_others : (m : FinMap R X) (k : K) (v : X) → HasOthers (values m) (values (insert m k v)) (get m k) v
  insert_others m k v =
      subst (λ (es : List (K × X)). HasOthers (values m) (map (λ e. e.1) es) (get m k) v) (sym (entries-insert o m k v))
      (subst (λ (old : Option X). HasOthers (values m) (map (λ e. e.1) (put R k v (entries m))) old v) (sym (get-entries m k))
      (put_others k v (entries m) (is_true _ (entries_sorted m))))
