-- What INSERT of the next entry makes of a table whose rows have places, and what the rest of a list makes of the content.
use Rattle.bsp_store_base.proofs.Std.{[], ◌++◌, ◌+◌, ◌<◌, ◌∙◌, ◌∷◌, ◌≡◌, ◌≤◌, ap, ap₂, Err, false, get_or, IsPermutation, IsPermutation-middle, length, List, map, Ok, OnErr, OnOk, range_with_len, Result, subst, sym, take, ℕ}
use Rattle.std.proofs.lemmas.List.{append-nil, map-append, take_all}
use Rattle.bsp_store_base.proofs.Sqlite.{col, command_of, Error, Executes, Ghosts, Held, IsPlain, lit, Null, Output, reads_listing, Row, Select, State, state, Trees, understood}
use Rattle.sqlite_schema.specs.declared.schema.Column.{Column}
use Rattle.bsp_store_base.proofs.Base.{cast_null, Changes, columns_of, command_is, Content, form, GivesUp, GivesUpIf, HasContents, HasRun, inserts, IsBefore, IsInside, IsText, Keeps, keys_of, next_place, no_work, one_more, our_schema, out, placed, placed_next, placed_rise, simple, table_shown, writes, wrote}
use Rattle.bsp_store_rows.specs.declared.placed.PlacedStatements.{PlacedStatements}
use Rattle.bsp_store_rows.specs.PlacedTables.{ArePlacedStatements, IsPlacedList, PlacedList, by_place, has_first, insertion, is_next, part, width, with_more}

-- one entry more comes at the end
placed_more : {A : Type 0} (row_of : ℕ × A → Row) (xs : List A) (x : A) → IsPermutation (map row_of (placed 0 (xs ++ x ∷ []))) (row_of (length xs + 1, x) ∷ map row_of (placed 0 xs))
placed_more row_of xs x =
    let row = row_of (length xs + 1, x) in
    let rows = map row_of (placed 0 xs) in
    let is : map row_of (placed 0 (xs ++ x ∷ [])) ≡ rows ++ row ∷ [] = ap (map row_of) (placed_next xs x) ∙ map-append row_of (placed 0 xs) ((length xs + 1, x) ∷ []) in
    subst (λ l. IsPermutation l (row ∷ rows)) (sym is)
    (subst (λ l. IsPermutation (rows ++ row ∷ []) (row ∷ l)) (append-nil rows) (IsPermutation-middle rows row []))

module _ {A : Type 0} (t : PlacedList A) (l : IsPlacedList t) where
  module _ (text : List ℕ) (old new : State) (count : ℕ) (now : Content) (keeps : Keeps form now old.now) where
    added : command_of (understood our_schema text) ≡ insertion t → IsPlain (understood our_schema text) → (place : ℕ) (entry : A) → is_next t place now → Executes text (t.row_of (place, entry)) old new (Ok count) → Keeps form (with_more t entry now) new.now
    added is plain place entry next h =
        let row = t.row_of (place, entry) in
        let it = inserts our_schema t.at t.table l.is_at l.uncounted l.plain_tree (width t) (no_work t.table.tree) text plain row (lit Null ∷ map (col 0) (range_with_len 0 (width t))) (width t + 1) is (Null ∷ row) row (l.sourced (place, entry))
        (ap₂ ◌∷◌ cast_null (l.casts (place, entry))) (λ id. l.wide id (place, entry)) old new keeps.schema count h (map t.row_of (placed 0 (t.of now))) (l.here now old.now.trees keeps.kept) in
        let more = subst (λ p. IsPermutation (map t.row_of (placed 0 (t.of now ++ entry ∷ []))) (t.row_of (p, entry) ∷ map t.row_of (placed 0 (t.of now)))) (sym next) (placed_more t.row_of (t.of now) entry) in
        wrote form old.now new.now t.table.tree now (with_more t entry now) _ it.same it.kept it.others (l.moved now (t.of now ++ entry ∷ []) _ more) keeps

  -- ---- all rows

  abbrev seen : Trees → Row → Output
  seen trees r = out t.table.tree [] (map (col 1) (range_with_len 1 (width t))) (by_place t) trees [] r

  pub meant : (s : PlacedStatements) → IsText s.insert.now (insertion t) → IsText s.query.now (Select (record { lets = []; body = simple t.table.tree [] (map (col 1) (range_with_len 1 (width t))) (by_place t) }) (map (λ (c : Column). c.name) t.table.columns)) → reads_listing our_schema s.query.now ≡ false → ((trees : Trees) (r : Row) → (seen trees r).1 ≡ columns_of (width t) r)
      → ((trees : Trees) (r : Row) → (seen trees r).0 ≡ keys_of (by_place t) (columns_of (width t) r)) → ((a b : ℕ × A) → a.0 < b.0 → IsBefore (by_place t) (t.row_of a) (t.row_of b)) → ArePlacedStatements t s
  meant s insert query unlisted lists sees rise = record {
    insert = insert;
    query = table_shown (part t) s.query.now (map (λ (c : Column). c.name) t.table.columns) (by_place t) (command_is _ _ query.0) query.1 unlisted l.plain_tree lists sees (λ c formed. placed_rise (by_place t) t.row_of rise (t.of c)) (λ c trees kept. (l.here c trees kept).rows);
  }

  -- ---- the calls

  module _ {S : Type 0} (g : Ghosts S) where
    adding : (old new : Held S) (text : List ℕ) (r : Result ℕ Error) → IsText text (insertion t) → (place : ℕ) (entry : A) → HasRun g text (t.row_of (place, entry)) old new r
        → OnOk r (Changes g old new (is_next t place) (with_more t entry)) × OnErr r (GivesUp g old new)
    adding old new text r is place entry ran =
        writes form g old new text (t.row_of (place, entry)) (insertion t) (command_is _ _ is.0) is.1 (λ e. cc) (λ name e. cc) (λ o n count w. w) r ran.survives ran.runs (is_next t place) (with_more t entry)
        (λ now count next keeps h. added text (state g old) (state g new) count now keeps (command_is _ _ is.0) is.1 place entry next h)

    -- the entries of a list from a count on, one after another
    module _ (first : Held S) (from : ℕ) (all : List A) where
      abbrev pub AreAdded : Held S → ℕ → Type 0
      AreAdded h i = Changes g first h (has_first t from all) (t.with (take i all))

      pub none_added : AreAdded first from
      none_added now last a b met stands inside = (subst (λ c. HasContents form g first c last a b) (sym (l.same now) ∙ ap (λ x. t.with x now) met) stands, inside)

      module _ (h next : Held S) (i : ℕ) (added : AreAdded h i) (text : List ℕ) (is : IsText text (insertion t)) (x : A) where
        pub one_added : (count : ℕ) → i < length all → x ≡ get_or all i x → HasRun g text (t.row_of (i + 1, x)) h next (Ok count) → AreAdded next (i + 1)
        one_added count below same ran now last a b met stands inside =
            let so_far = added now last a b met stands inside in
            let had = l.seen (take i all) now in
            let more = (adding h next text (Ok count) is (i + 1) x ran).0 in
            let done = more (t.with (take i all) now) last a b (next_place all i below ∙ ap (λ (x : List A). length x + 1) (sym had)) so_far.0 so_far.1 in
            let after : with_more t x (t.with (take i all) now) ≡ t.with (take (i + 1) all) now =
            l.twice _ (take i all) now ∙ ap (λ y. t.with (y ++ x ∷ []) now) had ∙ ap (λ y. t.with y now) (one_more all i x below same) in
            (subst (λ c. HasContents form g next c last a b) after done.0, done.1)

        pub not_added : (e : Error) → HasRun g text (t.row_of (i + 1, x)) h next (Err e) → GivesUpIf g first next (has_first t from all)
        not_added e ran now last a b met stands inside =
            let so_far = added now last a b met stands inside in
            (adding h next text (Err e) is (i + 1) x ran).1 (t.with (take i all) now) last a b so_far.0 so_far.1

      pub all_added : (h : Held S) (i : ℕ) → AreAdded h i → length all ≤ i → Changes g first h (has_first t from all) (t.with all)
      all_added h i added end now last a b met stands inside = subst (λ x. HasContents form g h (t.with x now) last a b × IsInside form g h) (take_all i all end) (added now last a b met stands inside)
