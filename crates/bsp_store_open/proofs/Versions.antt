-- Tables whose rows were made of those of another one, and what the tables of a version kept before they were filled and keep
-- after.
use Rattle.bsp_store_base.proofs.Std.{[], ◌&&◌, ◌++◌, ◌==◌, ◌∙◌, ◌∷◌, ◌≡◌, AllByRecursion, and_parts, ap, ap₂, Bool, drop, entries, Err, false, FinMap, IsErrAnd, IsPermutation, IsPermutation-map, IsPermutation-refl, IsPermutation-sym, IsPermutation-trans, length, length_permutation, List, list_all, map, None, not, Ok, OnOk, Option, pos, refl, Result, Some, subst, subst₂, sym, take, true, ℕ, ℤ}
use Rattle.bsp_store_base.proofs.Sqlite.{all-append, all-map, all-permutation, all_both, all_from_map, all_of, all_weaker, Blob, cast, column, Error, Ghosts, HasCleanDisk, Held, Int, IsSound, IsTable, map-map, Null, Real, Row, state, State, Table, Text, Trees, Value}
use Rattle.sqlite_sql.specs.Ops.{is_null}
use Rattle.sqlite_schema.specs.Rules.{are_present, are_typed, is_of, passes}
use Rattle.sqlite_schema.specs.declared.schema.Kind.TheVariants.{Integer}
use Rattle.bsp_store_base.proofs.Entries.{day_number, Item, item_cmp, ItemKey, Tally, tally_cmp, TallyKey}
use Rattle.bsp_store_base.proofs.Base.{agent_text, airline_text, alone, cast_int, cast_same, columns_of, Content, count, flag, form, IsInOrder, item_part, item_row, item_tax_row, item_tax_table, KeepsTable, Meta, meta_row, meta_rows, meta_table, number_text, our_schema, Part, period_text, placed, table_trees, tally_part, tally_row, tally_tax_row, tally_tax_table, width_of}
use Rattle.bsp_store_open.specs.Filled.{HasNoTax, IsUntaxed, with_number, AreInOldOrder, Begun, Fills, IsBegun, IsFilled, IsFilling}
use Rattle.bsp_store_open.specs.Statements.{AreMade, At, Keyed, stored, untaxed_item, untaxed_tally, with_version, Goes, HasSeconds, HasTaxes, IsAdded, IsAt, is_tree}
use Rattle.sqlite_schema.specs.declared.schema.Constraint.TheVariants.{Datatype, NotNull}
use Rattle.bsp_store_open.specs.Old.{old_schema}
use Rattle.bsp_store_open.specs.declared.old_versions.OldVersion.{OldVersion}
use Rattle.bsp_store_open.specs.declared.old_versions.OldVersion.TheVariants.{First, Second}

same_each : {A B : Type 0} (f g : A → B) (xs : List A) → AllByRecursion (λ a. f a ≡ g a) xs → map f xs ≡ map g xs
same_each f g [] all = refl
same_each f g (x ∷ xs) all = ap₂ ◌∷◌ all.0 (same_each f g xs all.1)

-- a row is made of the columns of another one
module _ (table : Table) (made : Row → Row) (width : ℕ) (see : Row → Row) (sees : (r : Row) → see (columns_of width r) ≡ stored table (made r)) where
  seen : (from : List Row) → map see (map (columns_of width) from) ≡ map (λ r. stored table (made r)) from
  seen from = map-map see (columns_of width) from ∙ same_each (λ r. see (columns_of width r)) (λ r. stored table (made r)) from (all_of _ sees from)

  -- what the first table keeps shows what the second one does
  pub made_keeps : {A : Type 0} (row_of next : A → Row) (xs : List A) → AllByRecursion (λ a. see (row_of a) ≡ next a) xs → (from into : List Row) → KeepsTable width (map row_of xs) from → AreMade table made from into
      → KeepsTable (length table.columns) (map next xs) into
  made_keeps row_of next xs each from into keeps m = record {
    table = m.rising;
    keyed = m.keyed;
    rows = IsPermutation-trans _ _ _ (subst₂ IsPermutation (map-map see row_of xs ∙ same_each (λ a. see (row_of a)) next xs each) (seen from) (IsPermutation-map see _ _ keeps.rows)) m.rows;
  }

  -- what holds of each row that was made holds of each that the table keeps
  pub made_of_each : {A : Type 0} (next : A → Row) (xs : List A) (P : Row → Type 0) → ((r : Row) → P (stored table (made r))) → (from into : List Row) → KeepsTable (length table.columns) (map next xs) into
      → AreMade table made from into → AllByRecursion (λ a. P (next a)) xs
  made_of_each next xs P holds from into keeps m =
      let all : AllByRecursion P (map (λ r. stored table (made r)) from) = all-map P (λ r. stored table (made r)) from (all_of _ holds from) in
      all_from_map P next xs (all-permutation P _ _ (IsPermutation-sym _ _ keeps.rows) (all-permutation P _ _ m.rows all))

-- ---- a tax of 0

abbrev see_item : Row → Row
see_item r = stored item_tax_table (column r 0 ∷ column r 1 ∷ column r 2 ∷ Int (pos 0) ∷ Int (pos 0) ∷ [])

abbrev see_tally : Row → Row
see_tally r = stored tally_tax_table (column r 0 ∷ column r 1 ∷ column r 2 ∷ Int (pos 0) ∷ [])

item_seen : (e : ItemKey × Item) → IsUntaxed e → see_item (item_row e) ≡ item_tax_row e
item_seen e none =
    ap (λ vs. columns_of 5 (cast Integer Null ∷ vs))
    (cast_same item_tax_table.columns (agent_text e.0.agent ∷ number_text e.0.number ∷ flag e.0.is_canx ∷ Int (pos 0) ∷ Int (pos 0) ∷ []) (refl, (refl, (cast_int _, (cast_int (pos 0), (cast_int (pos 0), tt))))))
    ∙ ap₂ (λ tax hundredths. agent_text e.0.agent ∷ number_text e.0.number ∷ flag e.0.is_canx ∷ Int tax ∷ count hundredths ∷ []) (sym none.0) (sym none.1)

tally_seen : (e : TallyKey × Tally) → HasNoTax e → see_tally (tally_row e) ≡ tally_tax_row e
tally_seen e none =
    ap (λ vs. columns_of 4 (cast Integer Null ∷ vs))
    (cast_same tally_tax_table.columns (agent_text e.0.agent ∷ airline_text e.0.airline ∷ period_text e.0.period ∷ Int (pos 0) ∷ []) (refl, (refl, (refl, (cast_int (pos 0), tt)))))
    ∙ ap (λ tax. agent_text e.0.agent ∷ airline_text e.0.airline ∷ period_text e.0.period ∷ Int tax ∷ []) (sym none)

pub items_taxed : (entries : List (ItemKey × Item)) → AllByRecursion IsUntaxed entries → (from into : List Row) → KeepsTable (width_of item_part.tree) (map item_row entries) from → AreMade item_tax_table untaxed_item from into
    → KeepsTable 5 (map item_tax_row entries) into
items_taxed entries none from into keeps m =
    made_keeps item_tax_table untaxed_item (width_of item_part.tree) see_item (λ r. refl) item_row item_tax_row entries (all_weaker IsUntaxed (λ e. see_item (item_row e) ≡ item_tax_row e) item_seen entries none) from into keeps m

pub tallies_taxed : (entries : List (TallyKey × Tally)) → AllByRecursion HasNoTax entries → (from into : List Row) → KeepsTable (width_of tally_part.tree) (map tally_row entries) from → AreMade tally_tax_table untaxed_tally from into
    → KeepsTable 4 (map tally_tax_row entries) into
tallies_taxed entries none from into keeps m =
    made_keeps tally_tax_table untaxed_tally (width_of tally_part.tree) see_tally (λ r. refl) tally_row tally_tax_row entries (all_weaker HasNoTax (λ e. see_tally (tally_row e) ≡ tally_tax_row e) tally_seen entries none) from into keeps m

-- the columns at these places are 0
abbrev AreZero : ℕ → ℕ → Row → Type 0
AreZero i j r = (column r i ≡ Int (pos 0)) × (column r j ≡ Int (pos 0))

pub items_untaxed : (entries : List (ItemKey × Item)) (from into : List Row) → KeepsTable 5 (map item_tax_row entries) into → AreMade item_tax_table untaxed_item from into → AllByRecursion IsUntaxed entries
items_untaxed entries from into keeps m =
    all_weaker (λ e. AreZero 3 4 (item_tax_row e)) IsUntaxed zero entries
    (made_of_each item_tax_table untaxed_item (width_of item_part.tree) see_item (λ r. refl) item_tax_row entries (AreZero 3 4) (λ r. (cast_int (pos 0), cast_int (pos 0))) from into keeps m)
  where
    zero : (e : ItemKey × Item) → AreZero 3 4 (item_tax_row e) → IsUntaxed e
    zero e is = let tax : Int e.1.tax ≡ Int (pos 0) = is.0 in let hundredths : Int (pos e.1.hundredths) ≡ Int (pos 0) = is.1 in (cc, cc)

pub tallies_untaxed : (entries : List (TallyKey × Tally)) (from into : List Row) → KeepsTable 4 (map tally_tax_row entries) into → AreMade tally_tax_table untaxed_tally from into → AllByRecursion HasNoTax entries
tallies_untaxed entries from into keeps m =
    all_weaker (λ e. AreZero 3 3 (tally_tax_row e)) HasNoTax zero entries
    (made_of_each tally_tax_table untaxed_tally (width_of tally_part.tree) see_tally (λ r. refl) tally_tax_row entries (AreZero 3 3) (λ r. (cast_int (pos 0), cast_int (pos 0))) from into keeps m)
  where
    zero : (e : TallyKey × Tally) → AreZero 3 3 (tally_tax_row e) → HasNoTax e
    zero e is = let tax : Int e.1.tax ≡ Int (pos 0) = is.0 in cc

-- ---- the version in `meta`

abbrev see_meta : Row → Row
see_meta r = stored meta_table (column r 0 ∷ count 3 ∷ column r 2 ∷ column r 3 ∷ [])

-- four integers
pub record AreInts (r : Row) : Type 0 where
  pub id : ℤ
  pub number : ℤ
  pub day : ℤ
  pub closed : ℤ
  pub is : r ≡ Int id ∷ Int number ∷ Int day ∷ Int closed ∷ []

ints_seen : (id number day closed : ℤ) → see_meta (Int id ∷ Int number ∷ Int day ∷ Int closed ∷ []) ≡ Int id ∷ count 3 ∷ Int day ∷ Int closed ∷ []
ints_seen id number day closed =
    ap (λ vs. columns_of 4 (cast Integer Null ∷ vs)) (cast_same meta_table.columns (Int id ∷ count 3 ∷ Int day ∷ Int closed ∷ []) (cast_int id, (cast_int (pos 3), (cast_int day, (cast_int closed, tt)))))

meta_seen : (number : ℕ) (m : Option Meta) → AllByRecursion (λ r. see_meta (with_number number r) ≡ r) (meta_rows m)
meta_seen number None = tt
meta_seen number (Some meta) = (ints_seen (pos 1) (pos number) (day_number meta.day) (pos meta.closed), tt)

map-same : {A : Type 0} (xs : List A) → map (λ x. x) xs ≡ xs
map-same [] = refl
map-same (x ∷ xs) = ap (λ l. x ∷ l) (map-same xs)

pub meta_forward : (number : ℕ) (m : Option Meta) (from into : List Row) → KeepsTable 4 (map (with_number number) (meta_rows m)) from → AreMade meta_table with_version from into → KeepsTable 4 (meta_rows m) into
meta_forward number m from into keeps made =
    subst (λ l. KeepsTable 4 l into) (map-same (meta_rows m)) (made_keeps meta_table with_version 4 see_meta (λ r. refl) (with_number number) (λ r. r) (meta_rows m) (meta_seen number m) from into keeps made)

no_more : (f : Row → Row) (more : List Row) → map f more ≡ [] → more ≡ []
no_more f [] none = refl
no_more f (r ∷ more) none = absurd (cc none)

pub meta_back : (number : ℕ) (m : Option Meta) (from into : List Row) → IsTable from → Keyed from → AllByRecursion (λ r. AreInts (columns_of 4 r)) from → (row : Row) (more : List Row)
    → IsPermutation (map (columns_of 4) from) (row ∷ more) → column row 1 ≡ count number → KeepsTable 4 (meta_rows m) into → AreMade meta_table with_version from into
    → KeepsTable 4 (map (with_number number) (meta_rows m)) from
meta_back number m from into rising keyed ints row more shown has keeps made =
    record { table = rising; keyed = keyed; rows = subst (λ l. IsPermutation l (map (columns_of 4) from)) (rows_are m kept) (IsPermutation-sym _ _ shown) }
  where
    kept : IsPermutation (meta_rows m) (see_meta row ∷ map see_meta more)
    kept = IsPermutation-trans _ _ _ (IsPermutation-trans _ _ _ keeps.rows (IsPermutation-sym _ _ made.rows))
        (subst (λ l. IsPermutation l (see_meta row ∷ map see_meta more)) (seen meta_table with_version 4 see_meta (λ r. refl) from) (IsPermutation-map see_meta _ _ shown))

    is_ints : AreInts row
    is_ints = (all-permutation AreInts _ _ shown (all-map AreInts (columns_of 4) from ints)).0

    rows_are : (m : Option Meta) → IsPermutation (meta_rows m) (see_meta row ∷ map see_meta more) → row ∷ more ≡ map (with_number number) (meta_rows m)
    rows_are None same = absurd (cc (length_permutation _ _ same))
    rows_are (Some meta) same =
        let one : see_meta row ∷ map see_meta more ≡ meta_row meta ∷ [] = alone (meta_row meta) (see_meta row ∷ map see_meta more) same in
        let none : map see_meta more ≡ [] = cc in
        let only : more ≡ [] = no_more see_meta more none in
        let first : see_meta row ≡ meta_row meta = cc in
        let made : Int is_ints.id ∷ count 3 ∷ Int is_ints.day ∷ Int is_ints.closed ∷ [] ≡ meta_row meta = sym (ap see_meta is_ints.is ∙ ints_seen is_ints.id is_ints.number is_ints.day is_ints.closed) ∙ first in
        let named : Int is_ints.number ≡ count number = sym (ap (λ r. column r 1) is_ints.is) ∙ has in
        let is : row ≡ Int is_ints.id ∷ Int is_ints.number ∷ Int is_ints.day ∷ Int is_ints.closed ∷ [] = is_ints.is in
        let same_row : row ≡ with_number number (meta_row meta) = cc in
        ap₂ ◌∷◌ same_row only

int_there : (v : Value) → not (is_null v) ≡ true → is_of Integer v ≡ true → (n : ℤ) × (v ≡ Int n)
int_there Null there typed = absurd (cc there)
int_there (Int n) there typed = (n, refl)
int_there (Real x) there typed = absurd (cc typed)
int_there (Text t) there typed = absurd (cc typed)
int_there (Blob b) there typed = absurd (cc typed)

-- a row of `meta` that obeys the schema
pub are_ints : (r : Row) → are_typed None 0 meta_table.columns (drop 1 r) ≡ true → are_present None 0 meta_table.columns r ≡ true → AreInts (columns_of 4 r)
are_ints [] typed there = absurd (cc there)
are_ints (x ∷ []) typed there = absurd (cc there)
are_ints (x ∷ a ∷ []) typed there = let h : false ≡ true = (and_parts (not (is_null a)) false there).1 in absurd (cc h)
are_ints (x ∷ a ∷ b ∷ []) typed there = let h : false ≡ true = (and_parts (not (is_null b)) false (and_parts (not (is_null a)) (not (is_null b) && false) there).1).1 in absurd (cc h)
are_ints (x ∷ a ∷ b ∷ c ∷ []) typed there =
    let h : false ≡ true = (and_parts (not (is_null c)) false (and_parts (not (is_null b)) (not (is_null c) && false) (and_parts (not (is_null a)) (not (is_null b) && (not (is_null c) && false)) there).1).1).1 in absurd (cc h)
are_ints (x ∷ a ∷ b ∷ c ∷ d ∷ more) typed there =
    let t1 = and_parts _ _ typed in
    let t2 = and_parts _ _ t1.1 in
    let t3 = and_parts _ _ t2.1 in
    let t4 = and_parts _ _ t3.1 in
    let p1 = and_parts _ _ there in
    let p2 = and_parts _ _ p1.1 in
    let p3 = and_parts _ _ p2.1 in
    let p4 = and_parts _ _ p3.1 in
    let i = int_there a p1.0 t1.0 in
    let j = int_there b p2.0 t2.0 in
    let k = int_there c p3.0 t3.0 in
    let l = int_there d p4.0 t4.0 in
    record { id = i.0; number = j.0; day = k.0; closed = l.0; is = ap₂ ◌∷◌ i.1 (ap₂ ◌∷◌ j.1 (ap₂ ◌∷◌ k.1 (ap (λ v. v ∷ []) l.1))) }

-- ---- lists of tables

module _ {A : Type 0} (tree : A → ℕ) where
  same_trees : (ok : ℕ → Bool) (old new : Trees) → ((x : ℕ) → ok x ≡ true → new x ≡ old x) → (xs : List A) → list_all (λ a. ok (tree a)) xs ≡ true → AllByRecursion (λ a. new (tree a) ≡ old (tree a)) xs
  same_trees ok old new same [] all = tt
  same_trees ok old new same (a ∷ xs) all = let both = and_parts _ _ all in (same (tree a) both.0, same_trees ok old new same xs both.1)

  -- what holds of the rows of each tree still does
  moved : (P : A → List Row → Type 0) (old new : Trees) (xs : List A) → AllByRecursion (λ a. new (tree a) ≡ old (tree a)) xs → AllByRecursion (λ a. P a (old (tree a))) xs → AllByRecursion (λ a. P a (new (tree a))) xs
  moved P old new [] same all = tt
  moved P old new (a ∷ xs) same all = (subst (P a) (sym same.0) all.0, moved P old new xs same.1 all.1)

  -- and did
  moved_back : (P : A → List Row → Type 0) (old new : Trees) (xs : List A) → AllByRecursion (λ a. new (tree a) ≡ old (tree a)) xs → AllByRecursion (λ a. P a (new (tree a))) xs → AllByRecursion (λ a. P a (old (tree a))) xs
  moved_back P old new [] same all = tt
  moved_back P old new (a ∷ xs) same all = (subst (P a) same.0 all.0, moved_back P old new xs same.1 all.1)

all-front : {A : Type 0} (P : A → Type 0) (xs ys : List A) → AllByRecursion P (xs ++ ys) → AllByRecursion P xs
all-front P [] ys all = tt
all-front P (x ∷ xs) ys all = (all.0, all-front P xs ys all.1)

-- those of the version after `meta`
abbrev rest : {A : Type 0} → OldVersion → List A → List A
rest First xs = take 9 (drop 1 xs)
rest Second xs = take 12 (drop 1 xs)

abbrev part_tree : Part Content → ℕ
part_tree p = p.tree

abbrev itself : ℕ → ℕ
itself x = x

-- ---- a table with no row

keeps_none : {A : Type 0} (width : ℕ) (f : A → Row) (xs : List A) (rows : List Row) → xs ≡ [] → rows ≡ [] → KeepsTable width (map f xs) rows
keeps_none width f [] [] none empty = record { table = tt; keyed = tt; rows = IsPermutation-refl [] }
keeps_none width f [] (r ∷ rows) none empty = absurd (cc empty)
keeps_none width f (x ∷ xs) rows none empty = absurd (cc none)

none_kept : {A : Type 0} (width : ℕ) (f : A → Row) (xs : List A) (rows : List Row) → rows ≡ [] → KeepsTable width (map f xs) rows → xs ≡ []
none_kept width f [] rows empty keeps = refl
none_kept width f (x ∷ xs) [] empty keeps = absurd (cc (length_permutation _ _ keeps.rows))
none_kept width f (x ∷ xs) (r ∷ rows) empty keeps = absurd (cc empty)

none_placed : {A : Type 0} (xs : List A) → placed 0 xs ≡ [] → xs ≡ []
none_placed [] none = refl
none_placed (x ∷ xs) none = absurd (cc none)

placed_none : {A : Type 0} (xs : List A) → xs ≡ [] → placed 0 xs ≡ []
placed_none [] none = refl
placed_none (x ∷ xs) none = absurd (cc none)

-- ---- the rows of `meta` obey the schema

ints_of : (rows : List Row) → AllByRecursion (λ row. passes Datatype (old_schema Second) (λ t. []) meta_table row ≡ true) rows → AllByRecursion (λ row. passes NotNull (old_schema Second) (λ t. []) meta_table row ≡ true) rows
    → AllByRecursion (λ r. AreInts (columns_of 4 r)) rows
ints_of [] typed there = tt
ints_of (r ∷ rows) typed there = (are_ints r (and_parts _ _ typed.0).0 there.0, ints_of rows typed.1 there.1)

meta_ints : (version : OldVersion) (trees : Trees) → IsSound (old_schema version) trees → AllByRecursion (λ r. AreInts (columns_of 4 r)) (trees 0)
meta_ints First trees sound = ints_of (trees 0) (sound.obeys.rules Datatype).0 (sound.obeys.rules NotNull).0
meta_ints Second trees sound = ints_of (trees 0) (sound.obeys.rules Datatype).0 (sound.obeys.rules NotNull).0

-- ---- version 2

module _ (old new : Trees) (s : HasSeconds old new) (sound : IsSound (old_schema Second) old) (ordered : AreInOldOrder Second old) where
  meta_made : AreMade meta_table with_version (old 0) (new 0)
  meta_made = s.meta ordered.0.0 ordered.0.1

  same_parts : AllByRecursion (λ p. new (part_tree p) ≡ old (part_tree p)) (rest Second form.parts)
  same_parts = same_trees part_tree (λ x. not (x == 0) && is_tree Second x) old new s.others (rest Second form.parts) refl

  pub second_filled : IsFilled Second old new
  second_filled = record {
    ordered = (
      (meta_made.rising, meta_made.keyed),
      all-append (IsInOrder new) (rest Second table_trees) (26 ∷ [])
          (moved itself (λ x rows. IsTable rows × Keyed rows) old new (rest Second table_trees) (same_trees itself (λ x. not (x == 0) && is_tree Second x) old new s.others (rest Second table_trees) refl) ordered.1)
          (subst (λ rows. IsTable rows × Keyed rows) (sym s.seconds) (tt, tt), tt),
    );
    forward = λ c tied of keeps. (
      meta_forward 2 c.meta (old 0) (new 0) keeps.0 meta_made,
      all-append (λ p. KeepsTable (width_of p.tree) (p.rows c) (new p.tree)) (rest Second form.parts) (drop 13 form.parts)
          (moved part_tree (λ p. KeepsTable (width_of p.tree) (p.rows c)) old new (rest Second form.parts) same_parts keeps.1)
          (keeps_none 4 _ (entries c.seconds) (new 26) of.seconds s.seconds, tt),
    );
    back = λ c keeps has. (
      meta_back 2 c.meta (old 0) (new 0) ordered.0.0 ordered.0.1 (meta_ints Second old sound) has.row has.more has.shown has.number keeps.0 meta_made,
      moved_back part_tree (λ p. KeepsTable (width_of p.tree) (p.rows c)) old new (rest Second form.parts) same_parts
          (all-front (λ p. KeepsTable (width_of p.tree) (p.rows c) (new p.tree)) (rest Second form.parts) (drop 13 form.parts) keeps.1),
    );
    untaxed = λ c keeps. record { taxes = tt; seconds = none_kept 4 _ (entries c.seconds) (new 26) s.seconds keeps.1.1.1.1.1.1.1.1.1.1.1.1.1.0 };
  }

-- ---- version 1

module _ (old mid new : Trees) (t : HasTaxes old mid) (s : HasSeconds mid new) (sound : IsSound (old_schema First) old) (ordered : AreInOldOrder First old) where
  mid_meta : mid 0 ≡ old 0
  mid_meta = t.others 0 refl

  meta_both : AreMade meta_table with_version (old 0) (new 0)
  meta_both = subst (λ rows. AreMade meta_table with_version rows (new 0)) mid_meta (s.meta (subst IsTable (sym mid_meta) ordered.0.0) (subst Keyed (sym mid_meta) ordered.0.1))

  same_both : {A : Type 0} (tree : A → ℕ) (xs : List A) → list_all (λ a. is_tree First (tree a)) xs ≡ true → list_all (λ a. not (tree a == 0) && is_tree Second (tree a)) xs ≡ true → AllByRecursion (λ a. new (tree a) ≡ old (tree a)) xs
  same_both tree xs first second =
      all_both (λ a. mid (tree a) ≡ old (tree a)) (λ a. new (tree a) ≡ mid (tree a)) (λ a. new (tree a) ≡ old (tree a)) (λ a p q. q ∙ p) xs (same_trees tree (is_tree First) old mid t.others xs first)
      (same_trees tree (λ x. not (x == 0) && is_tree Second x) mid new s.others xs second)

  parts_both : AllByRecursion (λ p. new (part_tree p) ≡ old (part_tree p)) (rest First form.parts)
  parts_both = same_both part_tree (rest First form.parts) refl refl

  published : new 20 ≡ []
  published = s.others 20 refl ∙ t.published

  items : AreMade item_tax_table untaxed_item (old 14) (new 22)
  items = subst (AreMade item_tax_table untaxed_item (old 14)) (sym (s.others 22 refl)) t.items

  tallies : AreMade tally_tax_table untaxed_tally (old 18) (new 24)
  tallies = subst (AreMade tally_tax_table untaxed_tally (old 18)) (sym (s.others 24 refl)) t.tallies

  pub first_filled : IsFilled First old new
  first_filled = record {
    ordered = (
      (meta_both.rising, meta_both.keyed),
      all-append (IsInOrder new) (rest First table_trees) (20 ∷ 22 ∷ 24 ∷ 26 ∷ [])
          (moved itself (λ x rows. IsTable rows × Keyed rows) old new (rest First table_trees) (same_both itself (rest First table_trees) refl refl) ordered.1)
          (subst (λ rows. IsTable rows × Keyed rows) (sym published) (tt, tt), ((items.rising, items.keyed), ((tallies.rising, tallies.keyed), (subst (λ rows. IsTable rows × Keyed rows) (sym s.seconds) (tt, tt), tt)))),
    );
    forward = λ c tied of keeps.
        let none : AllByRecursion IsUntaxed (entries c.items) = subst (λ (m : FinMap item_cmp Item). AllByRecursion IsUntaxed (entries m)) tied.items of.taxes.items in
        let no_tax : AllByRecursion HasNoTax (entries c.tallies) = subst (λ (m : FinMap tally_cmp Tally). AllByRecursion HasNoTax (entries m)) tied.tallies of.taxes.tallies in
        let item_taxes = items_taxed (entries c.items) none (old 14) (new 22) keeps.1.1.1.1.1.1.1.0 items in
        let tally_taxes = tallies_taxed (entries c.tallies) no_tax (old 18) (new 24) keeps.1.1.1.1.1.1.1.1.1.0 tallies in (
          meta_forward 1 c.meta (old 0) (new 0) keeps.0 meta_both,
          all-append (λ p. KeepsTable (width_of p.tree) (p.rows c) (new p.tree)) (rest First form.parts) (drop 10 form.parts)
              (moved part_tree (λ p. KeepsTable (width_of p.tree) (p.rows c)) old new (rest First form.parts) parts_both keeps.1) (
                keeps_none 3 _ (placed 0 c.commission_taxes) (new 20) (placed_none c.commission_taxes of.taxes.published) published,
                (
                  subst (λ (m : FinMap item_cmp Item). KeepsTable 5 (map item_tax_row (entries m)) (new 22)) (sym tied.items) item_taxes,
                  (subst (λ (m : FinMap tally_cmp Tally). KeepsTable 4 (map tally_tax_row (entries m)) (new 24)) (sym tied.tallies) tally_taxes, (keeps_none 4 _ (entries c.seconds) (new 26) of.seconds s.seconds, tt)),
                ),
              ),
        );
    back = λ c keeps has. (
      meta_back 1 c.meta (old 0) (new 0) ordered.0.0 ordered.0.1 (meta_ints First old sound) has.row has.more has.shown has.number keeps.0 meta_both,
      moved_back part_tree (λ p. KeepsTable (width_of p.tree) (p.rows c)) old new (rest First form.parts) parts_both
          (all-front (λ p. KeepsTable (width_of p.tree) (p.rows c) (new p.tree)) (rest First form.parts) (drop 10 form.parts) keeps.1),
    );
    untaxed = λ c keeps.
        let after = keeps.1.1.1.1.1.1.1.1.1.1 in
        record {
          taxes = record {
            published = none_placed c.commission_taxes (none_kept 3 _ (placed 0 c.commission_taxes) (new 20) published after.0);
            items = items_untaxed (entries c.item_taxes) (old 14) (new 22) after.1.0 items;
            tallies = tallies_untaxed (entries c.tally_taxes) (old 18) (new 24) after.1.1.0 tallies;
          };
          seconds = none_kept 4 _ (entries c.seconds) (new 26) s.seconds after.1.1.1.0;
        };
  }

-- ---- the whole

fills : (version : OldVersion) (old new : State) → At our_schema new → IsFilled version old.now.trees new.now.trees → new.committed ≡ old.committed → Fills version old new
fills version old new at filled committed = record { schema = at.schema; filled = filled; inside = at.inside; is_open = at.is_open; sound = at.sound; committed = committed }

as_second : (old new : State) → Begun Second old → Goes our_schema HasSeconds old new → Fills Second old new
as_second old new begun after = fills Second old new after.at (second_filled old.now.trees new.now.trees after.made (subst (λ s. IsSound s old.now.trees) begun.schema begun.sound) begun.ordered) after.committed

as_first : (old mid new : State) → Begun First old → Goes (old_schema Second) HasTaxes old mid → Goes our_schema HasSeconds mid new → Fills First old new
as_first old mid new begun first second =
    let filled = first_filled old.now.trees mid.now.trees new.now.trees first.made second.made (subst (λ s. IsSound s old.now.trees) begun.schema begun.sound) begun.ordered in
    fills First old new second.at filled (second.committed ∙ first.committed)

at_begun : {S : Type 0} (g : Ghosts S) (version : OldVersion) (old : Held S) → IsBegun g version old → IsAt g (old_schema version) old
at_begun g version old begun disk = let it = begun disk in record { schema = it.schema; inside = it.inside; is_open = it.is_open; sound = it.sound }

module _ {S : Type 0} (g : Ghosts S) (old mid new : Held S) where
  -- from version 2
  pub second_fills : (r : Result (Unit {0}) Error) → IsAdded g (old_schema Second) our_schema HasSeconds old new r → IsFilling g Second old new r
  second_fills r it = record { spares = λ begun. it.spares (at_begun g Second old begun); kept = λ begun. it.kept (at_begun g Second old begun); filled = filled r it.added }
    where
      filled : (r : Result (Unit {0}) Error) → OnOk r (IsAt g (old_schema Second) old → HasCleanDisk (state g new) → Goes our_schema HasSeconds (state g old) (state g new))
          → OnOk r (IsBegun g Second old → HasCleanDisk (state g new) → Fills Second (state g old) (state g new))
      filled (Err e) added = tt
      filled (Ok u) added = λ begun disk.
          let at = at_begun g Second old begun in
          as_second (state g old) (state g new) (begun ((it.spares at).earlier disk)) (added at disk)

  -- from version 1, where the first text failed
  pub first_fails : (e : Error) (r : Result (Unit {0}) Error) → IsErrAnd r (λ f. f ≡ e) → IsAdded g (old_schema First) (old_schema Second) HasTaxes old new (Err e) → IsFilling g First old new r
  first_fails e (Ok u) is it = absurd is
  first_fails e (Err f) is it = record { spares = λ begun. it.spares (at_begun g First old begun); kept = λ begun. it.kept (at_begun g First old begun); filled = tt }

  -- and where it did not
  pub first_fills : (r : Result (Unit {0}) Error) → IsAdded g (old_schema First) (old_schema Second) HasTaxes old mid (Ok tt) → IsAdded g (old_schema Second) our_schema HasSeconds mid new r → IsFilling g First old new r
  first_fills r taxes second = record {
    spares = λ begun.
        let a = taxes.spares (at_begun g First old begun) in
        let b = second.spares (halfway begun) in
        record { earlier = λ clean. a.earlier (b.earlier clean); leaves = λ clean db may. a.leaves (b.earlier clean) db (b.leaves clean db may) };
    kept = λ begun disk.
        let a = taxes.kept (at_begun g First old begun) ((second.spares (halfway begun)).earlier disk) in
        let b = second.kept (halfway begun) disk in
        record { was_open = λ is. a.was_open (b.was_open is); committed = λ is. b.committed is ∙ a.committed (b.was_open is) };
    filled = filled r second.added;
  }
    where
      halfway : IsBegun g First old → IsAt g (old_schema Second) mid
      halfway begun disk = (taxes.added (at_begun g First old begun) disk).at

      filled : (r : Result (Unit {0}) Error) → OnOk r (IsAt g (old_schema Second) mid → HasCleanDisk (state g new) → Goes our_schema HasSeconds (state g mid) (state g new))
          → OnOk r (IsBegun g First old → HasCleanDisk (state g new) → Fills First (state g old) (state g new))
      filled (Err e) added = tt
      filled (Ok u) added = λ begun disk.
          let at = at_begun g First old begun in
          let mid_disk = (second.spares (halfway begun)).earlier disk in
          as_first (state g old) (state g mid) (state g new) (begun ((taxes.spares at).earlier mid_disk)) (taxes.added at mid_disk) (added (halfway begun) disk)
