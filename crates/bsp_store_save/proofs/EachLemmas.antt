-- The table of a content after each key that was written is brought up to date.
use Rattle.bsp_store_base.proofs.Std.{[], ◌∙◌, ◌∷◌, ◌≡◌, AllByRecursion, ap, Bool, cond, contains_key-keys, entries, eq_by_cmp, false, find, FinMap, get, get-entries, is_eq, is_some, IsTotalOrder, Less, List, map, None, Option, option_flatten, Ordering, ordering_reverse, refl, same_map, Some, sym, tied_itself, true, unwrap_or}
use Rattle.bsp_store_base.proofs.Sqlite.{all_both, all_weaker, IsAscending}
use Rattle.bsp_maps.specs.Undo.{IsEarlier}
use Rattle.bsp_maps.proofs.PresentLemmas.{flat}
use Rattle.bsp_store_base.proofs.Base.{Content, synced, with_value}
use Rattle.bsp_store_load.proofs.Syncing.{get-synced, get-with_value}
use Rattle.bsp_store_load.proofs.Rising.{entries_rise}
use Rattle.bsp_store_save.specs.Each.{AreThere, with_each}
use Rattle.bsp_store_save.proofs.Followed.{Followed, has_row, set}

apart : {K : Type 0} {R : K → K → Ordering} (o : IsTotalOrder R) (a b : K) → R a b ≡ Less → eq_by_cmp R b a ≡ false
apart o a b less = ap is_eq (o.antisymm b a ∙ ap ordering_reverse less)

module _ {K V : Type 0} {R : K → K → Ordering} (o : IsTotalOrder R) where
  abbrev Rise : List (K × V) → Type 0
  Rise es = IsAscending (λ (a b : K × V). R a.0 b.0 ≡ Less) es

  found_below : (e d : K × V) (es : List (K × V)) → R e.0 d.0 ≡ Less → find R d.0 es ≡ Some d.1 → find R d.0 (e ∷ es) ≡ Some d.1
  found_below e d es below is = ap (λ b. cond b (Some e.1) (find R d.0 es)) (apart o e.0 d.0 below) ∙ is

  -- each entry is found by its key
  all_found : (es : List (K × V)) → Rise es → AllByRecursion (λ e. find R e.0 es ≡ Some e.1) es
  all_found [] up = tt
  all_found (e ∷ es) up =
      (ap (λ r. cond (is_eq r) (Some e.1) (find R e.0 es)) (tied_itself o e.0), all_both _ _ _ (λ d below is. found_below e d es below is) es up.0 (all_found es up.1))

  pub entries_found : (m : FinMap R V) → AllByRecursion (λ e. get m e.0 ≡ Some e.1) (entries m)
  entries_found m = all_weaker _ _ (λ e is. get-entries m e.0 ∙ is) (entries m) (all_found (entries m) (entries_rise R m))

no_value : {X : Type 0} (v : Option X) → is_some v ≡ false → v ≡ None
no_value None is = refl
no_value (Some x) is = absurd (cc is)

pub same_present : {V : Type 0} (found : Option (Option V)) → flat found ≡ option_flatten found
same_present None = refl
same_present (Some v) = refl

choose : {V : Type 0} (b : Bool) (x y : Option V) → (b ≡ false → y ≡ x) → cond b x y ≡ x
choose true x y alike = refl
choose false x y alike = alike refl

-- a table, each of whose keys is set to what is in memory
module _ {K V F : Type 0} {R : K → K → Ordering} (t : Followed K V F R) (raw was : FinMap R V) (olds : FinMap R (Option V)) (is : IsEarlier olds raw was) where
  -- one key, written to the table of a map
  one_set : (e : K × Option V) (m : FinMap R V) (c : Content) → t.field c ≡ t.of m → t.field (set t e.0 (get raw e.0) c) ≡ t.of (with_value e.0 (get raw e.0) m)
  one_set e m c had = t.seen (t.step e.0 (get raw e.0) (t.field c)) c ∙ ap (t.step e.0 (get raw e.0)) had ∙ sym (t.steps m e.0 (get raw e.0))

  -- ---- what the table has in the end

  each : (es : List (K × Option V)) (m : FinMap R V) (c : Content) → t.field c ≡ t.of m → with_each (set t) (get raw) es c ≡ t.put (t.of (synced (map (λ e. e.0) es) raw m)) c
  each [] m c had = sym (t.same c) ∙ ap (λ x. t.put x c) had
  each (e ∷ es) m c had =
      each es (with_value e.0 (get raw e.0) m) (set t e.0 (get raw e.0) c) (one_set e m c had)
      ∙ t.twice (t.of (synced (map (λ e. e.0) es) raw (with_value e.0 (get raw e.0) m))) (t.step e.0 (get raw e.0) (t.field c)) c

  up_to_date : synced (map (λ e. e.0) (entries olds)) raw was ≡ raw
  up_to_date = same_map t.total t.exact _ _ (λ q.
      get-synced t.total (map (λ e. e.0) (entries olds)) raw was q
      ∙ choose _ (get raw q) (get was q) (λ none. is q ∙ ap (λ v. unwrap_or v (get raw q)) (no_value (get olds q) (contains_key-keys olds q ∙ none))))

  pub all_set : (c : Content) → t.field c ≡ t.of was → with_each (set t) (get raw) (entries olds) c ≡ t.put (t.of raw) c
  all_set c had = each (entries olds) was c had ∙ ap (λ m. t.put (t.of m) c) up_to_date

  -- ---- which keys have a row

  stays : (e x : K × Option V) (m : FinMap R V) → R e.0 x.0 ≡ Less → get m x.0 ≡ x.1 → get (with_value e.0 (get raw e.0) m) x.0 ≡ x.1
  stays e x m below at = get-with_value t.total e.0 (get raw e.0) m x.0 ∙ ap (λ b. cond b (get raw e.0) (get m x.0)) (apart t.total e.0 x.0 below) ∙ at

  all_there : (es : List (K × Option V)) → IsAscending (λ (a b : K × Option V). R a.0 b.0 ≡ Less) es → (m : FinMap R V) (c : Content) → t.field c ≡ t.of m → AllByRecursion (λ e. get m e.0 ≡ e.1) es → AreThere (set t) (get raw) (has_row t) t.rows es c
  all_there [] up m c had agrees = tt
  all_there (e ∷ es) up m c had agrees = (
    ap (t.holds e.0) had ∙ t.sees m e.0 ∙ ap (t.rows e.0) agrees.0,
    all_there es up.1 (with_value e.0 (get raw e.0) m) (set t e.0 (get raw e.0) c) (one_set e m c had) (all_both _ _ _ (λ x below at. stays e x m below at) es up.0 agrees.1),
  )

  at_first : AllByRecursion (λ e. get was e.0 ≡ e.1) (entries olds)
  at_first = all_weaker _ _ (λ e found. is e.0 ∙ ap (λ v. unwrap_or v (get raw e.0)) found) (entries olds) (entries_found t.total olds)

  pub are_there : (c : Content) → t.field c ≡ t.of was → AreThere (set t) (get raw) (has_row t) t.rows (entries olds) c
  are_there c had = all_there (entries olds) (entries_rise R olds) was c had at_first
