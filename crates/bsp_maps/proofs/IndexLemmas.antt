-- The index of rows, and what a written row makes of it.
use Rattle.std.proofs.Common.{◌≡◌, Bool, true, false, cond, ◌&&◌, ◌||◌, List, [], ◌∷◌, ◌++◌, map, refl, sym, ap, subst, ◌∙◌, Ordering, Less, Equal, Greater, Option, Some, None, is_some}
use Rattle.std.specs.List.{filter, filter_map, list_any}
use Rattle.std.specs.Ordering.{eq_by_cmp, is_eq, is_le, ordering_then}
use Rattle.std.specs.Cmp.{IsTotalOrder, alike_right}
use Rattle.std.specs.FinMap.{FinMap, IsAntisymmetric, contains_key-keys, empty, entries, get, get-empty, get-insert, get-remove, insert, remove}
use Rattle.bsp_maps.proofs.PickLemmas.{AreAmong}
use Rattle.bsp_maps.proofs.WindowLemmas.{front, more_found, none_found}
use Rattle.bsp_maps.specs.Present.{present_entry}
use Rattle.bsp_maps.specs.Windows.{entries_in}
use Rattle.bsp_maps.specs.Indexes.{IsAlone, IsIndex, IsLeast, IsMoved, entry_cmp, found_place, is_place, keys_at}
use Rattle.bsp_maps.proofs.EntryLemmas.{entry_tied, tied}

-- the key of an entry, if it is there
abbrev pub here : {P K : Type 0} → (P × K) × Option (Unit {0}) → Option K
here (e, None) = None
here (e, Some u) = Some e.1

module _ {P K : Type 0} (has : P × K → Bool) where
  abbrev keys_of_front : List ((P × K) × Option (Unit {0})) → List K
  keys_of_front es = filter_map here (front has es)

  there : (e : P × K) (value : Option (Unit {0})) (es : List ((P × K) × Option (Unit {0}))) → is_some value ≡ true → filter_map here ((e, value) ∷ es) ≡ e.1 ∷ filter_map here es
  there e None es is = absurd (cc)
  there e (Some u) es is = refl

  gone : (e : P × K) (value : Option (Unit {0})) (es : List ((P × K) × Option (Unit {0}))) → is_some value ≡ false → filter_map here ((e, value) ∷ es) ≡ filter_map here es
  gone e None es is = refl
  gone e (Some u) es is = absurd (cc)

  pub keys_more : (found after : List K) (e : (P × K) × Option (Unit {0})) (es rest : List ((P × K) × Option (Unit {0}))) (all : List K) → es ≡ e ∷ rest → has e.0 ≡ true → is_some e.1 ≡ true → after ≡ found ++ e.0.1 ∷ [] → found ++ keys_of_front es ≡ all → after ++ keys_of_front rest ≡ all
  keys_more found after e es rest all first is some = more_found keys_of_front found after e.0.1 es rest all (rw (first, is) (there e.0 e.1 (front has rest) some))

  pub keys_none : (found : List K) (e : (P × K) × Option (Unit {0})) (es rest : List ((P × K) × Option (Unit {0}))) (all : List K) → es ≡ e ∷ rest → has e.0 ≡ true → is_some e.1 ≡ false → found ++ keys_of_front es ≡ all → found ++ keys_of_front rest ≡ all
  keys_none found e es rest all first is none = none_found keys_of_front found es rest all (rw (first, is) (gone e.0 e.1 (front has rest) none))

-- ---- a row is written

module _ {P K V : Type 0} (RP : P → P → Ordering) (RK : K → K → Ordering) (place : K → V → Option P) where
  -- of no rows
  pub nothing_indexed : IsIndex RP RK place empty empty
  nothing_indexed k p = ap is_some (get-empty (entry_cmp RP RK) (p, k)) ∙ ap (λ (w : Option V). is_place RP (found_place place k w) p) (sym (get-empty RK k))

  -- of equal maps
  pub index_same : (rows others : FinMap RK V) (old new : FinMap (entry_cmp RP RK) (Unit {0})) → others ≡ rows → new ≡ old → IsIndex RP RK place rows old → IsIndex RP RK place others new
  index_same rows others old new p q is = subst (λ (m : FinMap RK V). IsIndex RP RK place m new) (sym p) (subst (λ (m : FinMap (entry_cmp RP RK) (Unit {0})). IsIndex RP RK place rows m) (sym q) is)

  module _ (ok : IsTotalOrder RK) (exact : IsAntisymmetric RK) (rows : FinMap RK V) (key : K) (v : V) (old new : FinMap (entry_cmp RP RK) (Unit {0})) where
    row_at : (k : K) (p : P) (b : Bool) → eq_by_cmp RK k key ≡ b → cond b (is_place RP (place key v) p) (is_place RP (found_place place k (get rows k)) p) ≡ is_place RP (found_place place k (cond b (Some v) (get rows k))) p
    row_at k p true tie = ap (λ (j : K). is_place RP (place j v) p) (sym (exact k key (tied (RK k key) tie)))
    row_at k p false tie = refl

    written : IsIndex RP RK place rows old → IsMoved RP RK key (place key v) old new → IsIndex RP RK place (insert rows key v) new
    written is move k p =
        move p k
        ∙ ap (cond (eq_by_cmp RK k key) (is_place RP (place key v) p)) (is k p)
        ∙ row_at k p (eq_by_cmp RK k key) refl
        ∙ ap (λ (w : Option V). is_place RP (found_place place k w) p) (sym (get-insert ok rows key v k))

    -- its key was moved from the place of the row that was there to that of the one that is
    pub index_written : (from to : Option P) → from ≡ found_place place key (get rows key) → to ≡ place key v → (IsAlone RP RK key from old → IsMoved RP RK key to old new) → IsIndex RP RK place rows old → IsIndex RP RK place (insert rows key v) new
    index_written from to was now move is =
        written is (subst (λ (t : Option P). IsMoved RP RK key t old new) now (move (subst (λ (f : Option P). IsAlone RP RK key f old) (sym was) (is key))))

  -- ---- a row is taken out

  module _ (ok : IsTotalOrder RK) (rows : FinMap RK V) (key : K) (old new : FinMap (entry_cmp RP RK) (Unit {0})) where
    row_out : (k : K) (p : P) (b : Bool) → cond b false (is_place RP (found_place place k (get rows k)) p) ≡ is_place RP (found_place place k (cond b None (get rows k))) p
    row_out k p true = refl
    row_out k p false = refl

    taken_out : IsIndex RP RK place rows old → IsMoved RP RK key None old new → IsIndex RP RK place (remove rows key) new
    taken_out is move k p =
        move p k
        ∙ ap (cond (eq_by_cmp RK k key) false) (is k p)
        ∙ row_out k p (eq_by_cmp RK k key)
        ∙ ap (λ (w : Option V). is_place RP (found_place place k w) p) (sym (get-remove ok rows key k))

    -- its key was taken from the place of the row that was there
    pub index_taken : (from : Option P) → from ≡ found_place place key (get rows key) → (IsAlone RP RK key from old → IsMoved RP RK key None old new) → IsIndex RP RK place rows old → IsIndex RP RK place (remove rows key) new
    index_taken from was move is = taken_out is (move (subst (λ (f : Option P). IsAlone RP RK key f old) (sym was) (is key)))

-- ---- the keys at a place

module _ {P K : Type 0} (RP : P → P → Ordering) (RK : K → K → Ordering) where
  any_at : (p : P) (k : K) (es : List ((P × K) × Unit {0})) → list_any (eq_by_cmp (entry_cmp RP RK) (p, k)) (map (λ e. e.0) es) ≡ list_any (eq_by_cmp RK k) (map (λ e. e.0.1) (filter (λ e. eq_by_cmp RP p e.0.0) es))
  any_at p k [] = refl
  any_at p k (e ∷ es) = ap (λ b. b || list_any (eq_by_cmp (entry_cmp RP RK) (p, k)) (map (λ e. e.0) es)) (entry_tied RP RK (p, k) e.0) ∙ at (eq_by_cmp RP p e.0.0) (any_at p k es) where
    at : (b : Bool) → list_any (eq_by_cmp (entry_cmp RP RK) (p, k)) (map (λ e. e.0) es) ≡ list_any (eq_by_cmp RK k) (map (λ e. e.0.1) (filter (λ e. eq_by_cmp RP p e.0.0) es))
        → ((b && eq_by_cmp RK k e.0.1) || list_any (eq_by_cmp (entry_cmp RP RK) (p, k)) (map (λ e. e.0) es)) ≡ list_any (eq_by_cmp RK k) (map (λ e. e.0.1) (cond b (e ∷ filter (λ e. eq_by_cmp RP p e.0.0) es) (filter (λ e. eq_by_cmp RP p e.0.0) es)))
    at true rest = ap (λ b. eq_by_cmp RK k e.0.1 || b) rest
    at false rest = rest

  -- each key whose row passes is among them, where what passes is at the place
  pub index_among : {V : Type 0} (place : K → V → Option P) (holds : K → V → Bool) (p : P) → ((k : K) (v : V) → holds k v ≡ true → is_place RP (place k v) p ≡ true) → (rows : FinMap RK V) (index : FinMap (entry_cmp RP RK) (Unit {0})) → IsIndex RP RK place rows index → AreAmong holds rows (keys_at RP RK p index)
  index_among place holds p at rows index is k v found passes =
      sym (contains_key-keys index (p, k) ∙ any_at p k (entries index))
      ∙ is k p ∙ ap (λ w. is_place RP (found_place place k w) p) found ∙ at k v passes

  -- ---- where they are

  pub here_keys : (has : P × K → Bool) (es : List ((P × K) × Option (Unit {0}))) → filter_map here (entries_in has es) ≡ map (λ e. e.0.1) (filter (λ e. has e.0) (filter_map present_entry es))
  here_keys has [] = refl
  here_keys has ((e, None) ∷ es) = at (has e) (here_keys has es) where
    at : (b : Bool) → filter_map here (entries_in has es) ≡ map (λ e. e.0.1) (filter (λ e. has e.0) (filter_map present_entry es)) → filter_map here (cond b ((e, None) ∷ entries_in has es) (entries_in has es)) ≡ map (λ e. e.0.1) (filter (λ e. has e.0) (filter_map present_entry es))
    at true rest = rest
    at false rest = rest
  here_keys has ((e, Some u) ∷ es) = at (has e) (here_keys has es) where
    at : (b : Bool) → filter_map here (entries_in has es) ≡ map (λ e. e.0.1) (filter (λ e. has e.0) (filter_map present_entry es)) → filter_map here (cond b ((e, Some u) ∷ entries_in has es) (entries_in has es)) ≡ map (λ e. e.0.1) (cond b ((e, u) ∷ filter (λ e. has e.0) (filter_map present_entry es)) (filter (λ e. has e.0) (filter_map present_entry es)))
    at true rest = ap (λ ks. e.1 ∷ ks) rest
    at false rest = rest

  -- ---- the window of a place

  itself_or_more : (a b : Ordering) → is_eq a ≡ true → is_le b ≡ true → is_le (ordering_then a b) ≡ true
  itself_or_more Less b t h = refl
  itself_or_more Equal b t h = h
  itself_or_more Greater b t h = absurd (cc)

  pub place_lowest : (p : P) (least : K) → IsLeast RK least → (e : P × K) → eq_by_cmp RP p e.0 ≡ true → is_le (entry_cmp RP RK (p, least) e) ≡ true
  place_lowest p least is e at = itself_or_more (RP p e.0) (RK least e.1) at (is e.1)

  first_le : (a b : Ordering) → is_le (ordering_then a b) ≡ true → is_le a ≡ true
  first_le Less b h = refl
  first_le Equal b h = refl
  first_le Greater b h = h

  first_less : (a b : Ordering) → ordering_then a b ≡ Less → is_le a ≡ true
  first_less Less b h = refl
  first_less Equal b h = refl
  first_less Greater b h = absurd (cc)

  pinched : (a : Ordering) → is_le a ≡ true → (a ≡ Less → Equal ≡ Less) → is_eq a ≡ true
  pinched Less h k = absurd (cc (k refl))
  pinched Equal h k = refl
  pinched Greater h k = absurd (cc)

  below : (op : IsTotalOrder RP) (p x y : P) (r : Ordering) → RP x y ≡ r → RP p x ≡ Less → is_le r ≡ true → RP p y ≡ Less
  below op p x y Less e less h = op.trans p x y less e
  below op p x y Equal e less h = sym (alike_right op x y p e) ∙ less
  below op p x y Greater e less h = absurd (cc)

  pub place_together : IsTotalOrder RP → (p : P) (least : K) (x y : P × K) → is_le (entry_cmp RP RK (p, least) x) ≡ true → entry_cmp RP RK x y ≡ Less → eq_by_cmp RP p y.0 ≡ true → eq_by_cmp RP p x.0 ≡ true
  place_together op p least x y from less at =
      pinched (RP p x.0) (first_le (RP p x.0) (RK least x.1) from)
      (λ apart. sym (tied (RP p y.0) at) ∙ below op p x.0 y.0 (RP x.0 y.0) refl apart (first_less (RP x.0 y.0) (RK x.1 y.1) less))

-- ---- lists

-- values that pass
pub passing_values : {K V : Type 0} (p : V → Bool) (es : List (K × V)) → map (λ e. e.1) (filter (λ e. p e.1) es) ≡ filter p (map (λ e. e.1) es)
passing_values p [] = refl
passing_values p (e ∷ es) = at (p e.1) (passing_values p es) where
  at : (b : Bool) → map (λ e. e.1) (filter (λ e. p e.1) es) ≡ filter p (map (λ e. e.1) es) → map (λ e. e.1) (cond b (e ∷ filter (λ e. p e.1) es) (filter (λ e. p e.1) es)) ≡ cond b (e.1 ∷ filter p (map (λ e. e.1) es)) (filter p (map (λ e. e.1) es))
  at true rest = ap (λ vs. e.1 ∷ vs) rest
  at false rest = rest
