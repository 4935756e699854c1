-- A table of a content that follows from a map in memory.
use Rattle.bsp_store_base.proofs.Std.{◌∙◌, ◌≡◌, ap, Bool, cond, eq_by_cmp, Equal-is, false, FinMap, get, IsAntisymmetric, IsTotalOrder, Option, Ordering, refl, same_map, sym, true}
use Rattle.bsp_store_base.proofs.Base.{Content, with_value}
use Rattle.bsp_store_load.proofs.Syncing.{get-with_value}

-- what is known of the table
pub record Followed (K V F : Type 0) (R : K → K → Ordering) : Type 0 where
  pub total : IsTotalOrder R
  pub exact : IsAntisymmetric R
  -- what it is of a map, and with another value at a key
  pub of : FinMap R V → F
  pub step : K → Option V → F → F
  pub steps : (m : FinMap R V) (k : K) (v : Option V) → of (with_value k v m) ≡ step k v (of m)
  -- whether it has a row of a key, and whether a value has one there
  pub holds : K → F → Bool
  pub rows : K → Option V → Bool
  pub sees : (m : FinMap R V) (k : K) → holds k (of m) ≡ rows k (get m k)
  pub field : Content → F
  pub put : F → Content → Content
  pub same : (c : Content) → put (field c) c ≡ c
  pub seen : (m : F) (c : Content) → field (put m c) ≡ m
  pub twice : (m n : F) (c : Content) → put m (put n c) ≡ put m c

module _ {K V F : Type 0} {R : K → K → Ordering} (t : Followed K V F R) where
  -- the content with what the table is of another value at a key
  abbrev pub set : K → Option V → Content → Content
  set k v c = t.put (t.step k v (t.field c)) c

  abbrev pub has_row : K → Content → Bool
  has_row k c = t.holds k (t.field c)

-- a table that has at each key what is seen of the map there
module _ {K V W : Type 0} {R : K → K → Ordering} (o : IsTotalOrder R) (exact : IsAntisymmetric R) (f : FinMap R V → FinMap R W) (h : K → Option V → Option W) (sees : (m : FinMap R V) (q : K) → get (f m) q ≡ h q (get m q))
    (m : FinMap R V) (k : K) (v : Option V) where
  at_tie : (q : K) (b : Bool) → eq_by_cmp R q k ≡ b → h q (cond b v (get m q)) ≡ cond b (h k v) (get (f m) q)
  at_tie q true is = ap (λ x. h x v) (exact q k ((Equal-is (R q k)).0 is))
  at_tie q false is = sym (sees m q)

  pub pointwise : f (with_value k v m) ≡ with_value k (h k v) (f m)
  pointwise = same_map o exact _ _ (λ q.
      sees (with_value k v m) q ∙ ap (h q) (get-with_value o k v m q) ∙ at_tie q (eq_by_cmp R q k) refl ∙ sym (get-with_value o k (h k v) (f m) q))
