-- The rows that are left against the entries that are left, one after another.
use Rattle.bsp_store_base.proofs.Std.{[], ◌+◌, ◌<◌, ◌==◌, ◌∙◌, ◌∷◌, ◌≡◌, ◌≤◌, AllByRecursion, ap, arith, at_drop_more, Bool, cond, drop, drop_all, false, filter, get_or, IsTrue, length, List, map, subst, sym, true, ℕ}
use Rattle.bsp_maps.proofs.OrderLemmas.{no_length}
use Rattle.bsp_store_base.specs.Columns.{placed}

-- the rows are those of all entries, each of which may have one, exactly where what is left is that of the entries left
pub record AreLeft {A Row : Type 0} (row_of : A → Row) (P : A → Type 0) (rows : List Row) (all : List A) (rest : List Row) (now : List A) : Type 0 where
  pub same : rest ≡ map row_of now → rows ≡ map row_of all
  pub whole : AllByRecursion P all → rows ≡ map row_of all → (rest ≡ map row_of now) × AllByRecursion P now

zero : (n : ℕ) → (n == 0) ≡ true → n ≡ 0
zero n h = grind arith

module _ {A Row : Type 0} {row_of : A → Row} {P : A → Type 0} {rows : List Row} {all : List A} {rest : List Row} {now : List A} (left : AreLeft row_of P rows all rest now) where
  -- no entry is left
  pub ended : now ≡ [] → (b : Bool) → b ≡ (length rest == 0) → (IsTrue b → rows ≡ map row_of all) × (AllByRecursion P all → rows ≡ map row_of all → IsTrue b)
  ended end b is = (
    λ t. left.same (no_length rest (zero (length rest) (sym is ∙ t)) ∙ sym (ap (map row_of) end)),
    λ fits are. is ∙ ap (λ l. length l == 0) ((left.whole fits are).0 ∙ ap (map row_of) end),
  )

  module _ {e : A} {next : List A} (more : now ≡ e ∷ next) where
    next_of : AllByRecursion P all → rows ≡ map row_of all → (rest ≡ map row_of (e ∷ next)) × AllByRecursion P (e ∷ next)
    next_of fits are = subst (λ l. (rest ≡ map row_of l) × AllByRecursion P l) more (left.whole fits are)

    -- there is a row for it
    pub some_left : length rest ≡ 0 → AllByRecursion P all → rows ≡ map row_of all → IsTrue false
    some_left none fits are = let row = sym (no_length rest none) ∙ (next_of fits are).0 in absurd (cc row)

    module _ {row : Row} {others : List Row} (first : rest ≡ row ∷ others) where
      same_first : AllByRecursion P all → rows ≡ map row_of all → row ∷ others ≡ row_of e ∷ map row_of next
      same_first fits are = sym first ∙ (next_of fits are).0

      -- it is the next row
      pub must_be : (b : Bool) → b ≡ false → (P e → row ≡ row_of e → IsTrue b) → AllByRecursion P all → rows ≡ map row_of all → IsTrue false
      must_be b fails so fits are = let same = same_first fits are in subst IsTrue fails (so (next_of fits are).1.0 (cc same))

      pub taken : row ≡ row_of e → AreLeft row_of P rows all others next
      taken is = record {
        same = λ h. left.same (first ∙ (λ i. is i ∷ h i) ∙ sym (ap (map row_of) more));
        whole = λ fits are. let same = same_first fits are in (cc same, (next_of fits are).1.1);
      }

-- ---- the entries of which a test holds, and values with their places

module _ {A : Type 0} (has : A → Bool) {now next : List A} {e : A} (is : now ≡ e ∷ next) where
  filter_is : (b : Bool) → has e ≡ b → filter has now ≡ cond b (e ∷ filter has next) (filter has next)
  filter_is b so = ap (filter has) is ∙ ap (λ b. cond b (e ∷ filter has next) (filter has next)) so

  pub filter_on : has e ≡ true → filter has now ≡ e ∷ filter has next
  filter_on = filter_is true

  pub filter_past : has e ≡ false → filter has now ≡ filter has next
  filter_past = filter_is false

module _ {A : Type 0} (values : List A) (i : ℕ) where
  pub placed_on : (v : A) → i < length values → v ≡ get_or values i v → placed i (drop i values) ≡ (i + 1, v) ∷ placed (i + 1) (drop (i + 1) values)
  placed_on v below is = at_drop_more (λ l. placed i l) values i v below ∙ ap (λ w. (i + 1, w) ∷ placed (i + 1) (drop (i + 1) values)) (sym is)

  pub placed_some : i < length values → (v : A) × (placed i (drop i values) ≡ (i + 1, v) ∷ placed (i + 1) (drop (i + 1) values))
  placed_some below = go values below
    where
      go : (xs : List A) → i < length xs → (v : A) × (placed i (drop i xs) ≡ (i + 1, v) ∷ placed (i + 1) (drop (i + 1) xs))
      go [] below = absurd (omega arith)
      go (x ∷ xs) below = (get_or (x ∷ xs) i x, at_drop_more (λ l. placed i l) (x ∷ xs) i x below)

  pub placed_end : length values ≤ i → placed i (drop i values) ≡ []
  placed_end past = ap (λ l. placed i l) (drop_all i values past)
