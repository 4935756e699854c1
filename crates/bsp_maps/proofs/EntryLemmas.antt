-- The order of an index's entries, and what a move of a key makes of them.
use Rattle.std.proofs.Common.{◌≡◌, Bool, true, false, cond, not, ◌&&◌, ◌||◌, refl, sym, ap, ◌∙◌, Ordering, Less, Equal, Greater, Option, Some, None, is_some, Result, Ok, Err, OnOk}
use Rattle.std.specs.Ordering.{eq_by_cmp, is_eq, ordering_then}
use Rattle.std.specs.Option.{option_cmp}
use Rattle.std.specs.Cmp.{IsTotalOrder, alike_right, on_total, then_total}
use Rattle.std.specs.FinMap.{FinMap, IsAntisymmetric, contains_key, get, get-insert, get-remove}
use Rattle.bsp_maps.proofs.Orderings.{then_equal}
use Rattle.bsp_maps.specs.Indexes.{AreExact, IsAlone, IsMoved, entry_cmp, is_place, with_place, without_place}

pub tied : (r : Ordering) → is_eq r ≡ true → r ≡ Equal
tied Less h = absurd (cc)
tied Equal h = refl
tied Greater h = absurd (cc)

pub then_ok : {A B S T : Type 0} (r : Result A B) → (S → T) → OnOk r S → OnOk r T
then_ok (Ok x) f p = f p
then_ok (Err y) f p = tt

both_tied : (a b : Ordering) → is_eq (ordering_then a b) ≡ (is_eq a && is_eq b)
both_tied Less b = refl
both_tied Equal b = refl
both_tied Greater b = refl

module _ {P K : Type 0} {RP : P → P → Ordering} {RK : K → K → Ordering} where
  pub entry_total : IsTotalOrder RP → IsTotalOrder RK → IsTotalOrder (entry_cmp RP RK)
  entry_total op ok = then_total (on_total (λ (t : P × K). t.0) op) (on_total (λ (t : P × K). t.1) ok)

  pub entry_exact : AreExact RP RK → IsAntisymmetric (entry_cmp RP RK)
  entry_exact exact x y e =
      let both = then_equal (RP x.0 y.0) (RK x.1 y.1) e in
      let p = exact.places x.0 y.0 both.0 in
      let k = exact.keys x.1 y.1 both.1 in
      λ i. (p i, k i)

pub entry_tied : {P K : Type 0} (RP : P → P → Ordering) (RK : K → K → Ordering) (x y : P × K) → eq_by_cmp (entry_cmp RP RK) x y ≡ (eq_by_cmp RP x.0 y.0 && eq_by_cmp RK x.1 y.1)
entry_tied RP RK x y = both_tied (RP x.0 y.0) (RK x.1 y.1)

-- ---- entries taken and added

or_there : (b : Bool) (x : Option (Unit {0})) → is_some (cond b (Some tt) x) ≡ (b || is_some x)
or_there true x = refl
or_there false x = refl

not_there : (b : Bool) (x : Option (Unit {0})) → is_some (cond b None x) ≡ (not b && is_some x)
not_there true x = refl
not_there false x = refl

and_false : (b : Bool) → (b && false) ≡ false
and_false true = refl
and_false false = refl

turned : (a b : Bool) → (a && b) ≡ (b && a)
turned true true = refl
turned true false = refl
turned false true = refl
turned false false = refl

module _ {P K : Type 0} (RP : P → P → Ordering) (RK : K → K → Ordering) (op : IsTotalOrder RP) (ok : IsTotalOrder RK) where
  at_entry : (place p : P) (k key : K) → eq_by_cmp (entry_cmp RP RK) (place, k) (p, key) ≡ (eq_by_cmp RK k key && eq_by_cmp RP place p)
  at_entry place p k key = entry_tied RP RK (place, k) (p, key) ∙ turned (eq_by_cmp RP place p) (eq_by_cmp RK k key)

  taken : (key : K) (from : Option P) (m : FinMap (entry_cmp RP RK) (Unit {0})) (place : P) (k : K) → contains_key (without_place RP RK key from m) (place, k) ≡ (not (eq_by_cmp RK k key && is_place RP from place) && contains_key m (place, k))
  taken key None m place k = ap (λ b. not b && contains_key m (place, k)) (sym (and_false (eq_by_cmp RK k key)))
  taken key (Some p) m place k =
      ap is_some (get-remove (entry_total op ok) m (p, key) (place, k))
      ∙ not_there (eq_by_cmp (entry_cmp RP RK) (place, k) (p, key)) (get m (place, k))
      ∙ ap (λ b. not b && contains_key m (place, k)) (at_entry place p k key)

  added : (key : K) (to : Option P) (m : FinMap (entry_cmp RP RK) (Unit {0})) (place : P) (k : K) → contains_key (with_place RP RK key to m) (place, k) ≡ ((eq_by_cmp RK k key && is_place RP to place) || contains_key m (place, k))
  added key None m place k = ap (λ b. b || contains_key m (place, k)) (sym (and_false (eq_by_cmp RK k key)))
  added key (Some p) m place k =
      ap is_some (get-insert (entry_total op ok) m (p, key) tt (place, k))
      ∙ or_there (eq_by_cmp (entry_cmp RP RK) (place, k) (p, key)) (get m (place, k))
      ∙ ap (λ b. b || contains_key m (place, k)) (at_entry place p k key)

  here : (b to from was : Bool) → (b ≡ true → was ≡ from) → ((b && to) || (not (b && from) && was)) ≡ cond b to was
  here true true from was e = refl
  here true false true was e = refl
  here true false false was e = e refl
  here false to from was e = refl

  -- a key that was at one place alone was moved
  pub moved : AreExact RP RK → (key : K) (from to : Option P) (old : FinMap (entry_cmp RP RK) (Unit {0})) → IsAlone RP RK key from old → IsMoved RP RK key to old (with_place RP RK key to (without_place RP RK key from old))
  moved exact key from to old alone place k =
      added key to (without_place RP RK key from old) place k
      ∙ ap (λ b. (eq_by_cmp RK k key && is_place RP to place) || b) (taken key from old place k)
      ∙ here (eq_by_cmp RK k key) (is_place RP to place) (is_place RP from place) (contains_key old (place, k))
      (λ tie. ap (λ (j : K). contains_key old (place, j)) (exact.keys k key (tied (RK k key) tie)) ∙ alone place)

  alike : (from to : Option P) → option_cmp RP from to ≡ Equal → (place : P) → is_place RP from place ≡ is_place RP to place
  alike None None same place = refl
  alike None (Some q) same place = absurd (cc)
  alike (Some p) None same place = absurd (cc)
  alike (Some p) (Some q) same place = ap is_eq (alike_right op p q place same)

  stayed_at : (b to was : Bool) → (b ≡ true → was ≡ to) → was ≡ cond b to was
  stayed_at true to was e = e refl
  stayed_at false to was e = refl

  -- or is there already
  pub stayed : AreExact RP RK → (key : K) (from to : Option P) (old : FinMap (entry_cmp RP RK) (Unit {0})) → option_cmp RP from to ≡ Equal → IsAlone RP RK key from old → IsMoved RP RK key to old old
  stayed exact key from to old same alone place k =
      stayed_at (eq_by_cmp RK k key) (is_place RP to place) (contains_key old (place, k))
      (λ tie. ap (λ (j : K). contains_key old (place, j)) (exact.keys k key (tied (RK k key) tie)) ∙ alone place ∙ alike from to same place)
