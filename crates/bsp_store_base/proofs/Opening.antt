-- What a query for a whole table shows.
use Rattle.std.proofs.Common.{◌≡◌, Less, ℕ, List, [], ◌++◌, map, filter, false, Ok, Err, Result, refl, sym, ap, ◌∙◌, subst, IsPermutation, map-id}
use Rattle.bsp_store_base.proofs.Std.{IsPermutation-map, IsPermutation-refl, range_with_len}
use Rattle.bsp_store_base.specs.Sqlite.{Begins, Command, CompileError, Compiled, IsAnswer, IsAscending, IsUnchanged, Key, Null, Output, Query, Row, Select, Shown, State, Term, Trees, col, output_cmp, overlay, reads_listing, timed, understood}
use Rattle.bsp_store_base.proofs.Sqlite.{all_of, begins_shown, command_of, EndsIn, filter_all, IsPlain, map-map, reads_as}
use Rattle.sqlite_keyed.proofs.ListLemmas.{ascending-map, map_same}
use Rattle.bsp_store_base.specs.Schema.{our_schema}
use Rattle.bsp_store_base.specs.Content.{Content, form, width_of}
use Rattle.bsp_store_base.specs.Forms.{IsFormed}
use Rattle.bsp_store_base.specs.Kept.{KeepsRows, Part, columns_of}
use Rattle.bsp_store_base.specs.Shows.{AreAllOf, IsCommand, IsQuery, ShowsTable}
use Rattle.bsp_store_base.proofs.Rising.{keys_of, IsBefore}
use Rattle.bsp_store_base.proofs.ReadingLemmas.{simple, passes, out, rows_are, rows_in_order}

-- SELECT all columns FROM t ORDER BY ..
module _ (tree width : ℕ) (order : List (Term × Key)) (plain_tree : (db : Trees) → overlay db [] tree ≡ db tree)
    (lists : (trees : Trees) (r : Row) → (out tree [] (map (col 1) (range_with_len 1 width)) order trees [] r).1 ≡ columns_of width r) where
  abbrev project : List Term
  project = map (col 1) (range_with_len 1 width)

  in_any_order : (db : Trees) (rows : List Row) → IsAnswer (simple tree [] project order) (overlay db []) [] rows → IsPermutation (map (columns_of width) (db tree)) rows
  in_any_order db rows a =
      let trees = overlay db [] in
      let f = out tree [] project order trees [] in
      let kept = filter_all (passes tree [] project order trees []) (trees tree) (all_of _ (λ r. refl) (trees tree)) in
      subst (λ (l : List Row). IsPermutation l rows)
      (ap (λ (l : List Row). map (λ (o : Output). o.1) (map f l)) kept ∙ map-map (λ (o : Output). o.1) f (trees tree) ∙ map_same (λ r. (f r).1) (columns_of width) (lists trees) (trees tree) ∙ ap (map (columns_of width)) (plain_tree db))
      (rows_are tree [] project order trees [] rows a (map f (filter (passes tree [] project order trees []) (trees tree))) (IsPermutation-refl _))

  abbrev shown_as : Row → Output
  shown_as row = (keys_of order row, row)

  module _ (sees : (trees : Trees) (r : Row) → (out tree [] (map (col 1) (range_with_len 1 width)) order trees [] r).0 ≡ keys_of order (columns_of width r)) where
    in_order : (db : Trees) (rows : List Row) → IsAnswer (simple tree [] project order) (overlay db []) [] rows → (xs : List Row) → IsPermutation xs (map (columns_of width) (db tree)) → IsAscending (IsBefore order) xs → rows ≡ xs
    in_order db rows a xs same up =
        let trees = overlay db [] in
        let f = out tree [] project order trees [] in
        let kept = filter_all (passes tree [] project order trees []) (trees tree) (all_of _ (λ r. refl) (trees tree)) in
        let outs : map shown_as (map (columns_of width) (db tree)) ≡ map f (filter (passes tree [] project order trees []) (trees tree)) =
        map-map shown_as (columns_of width) (db tree) ∙ map_same (λ r. shown_as (columns_of width r)) f (λ r i. (sym (sees trees r) i, sym (lists trees r) i)) (db tree) ∙ ap (map f) (sym (plain_tree db) ∙ sym kept) in
        rows_in_order tree [] project order trees [] rows a (map shown_as xs) (ascending-map (λ x y. output_cmp (simple tree [] project order) x y ≡ Less) shown_as xs up)
        (subst (IsPermutation (map shown_as xs)) outs (IsPermutation-map shown_as _ _ same))
        ∙ map-map (λ (o : Output). o.1) shown_as xs ∙ map-id xs

query_is : (r : Result Compiled CompileError) (query : Query) (names : List (List ℕ)) → command_of r ≡ Select (record { lets = []; body = query }) names → IsQuery r query names
query_is (Ok c) query names is = is
query_is (Err e) query names is = absurd (cc is)

pub command_is : (r : Result Compiled CompileError) (command : Command) → IsCommand r command → command_of r ≡ command
command_is (Ok c) command is = is
command_is (Err e) command is = absurd is

-- a text for the rows of one of our tables
pub table_shown : (part : Part Content) (sql : List ℕ) (names : List (List ℕ)) (order : List (Term × Key))
    (is : command_of (understood our_schema sql) ≡ Select (record { lets = []; body = simple part.tree [] (map (col 1) (range_with_len 1 (width_of part.tree))) order }) names)
    → IsPlain (understood our_schema sql) → reads_listing our_schema sql ≡ false → ((db : Trees) → overlay db [] part.tree ≡ db part.tree)
    → ((trees : Trees) (r : Row) → (out part.tree [] (map (col 1) (range_with_len 1 (width_of part.tree))) order trees [] r).1 ≡ columns_of (width_of part.tree) r)
    → ((trees : Trees) (r : Row) → (out part.tree [] (map (col 1) (range_with_len 1 (width_of part.tree))) order trees [] r).0 ≡ keys_of order (columns_of (width_of part.tree) r))
    → ((c : Content) → IsFormed c → IsAscending (IsBefore order) (part.rows c))
    → ((c : Content) (trees : Trees) → KeepsRows form c trees → IsPermutation (part.rows c) (map (columns_of (width_of part.tree)) (trees part.tree)))
    → ShowsTable part sql
table_shown part sql names order is plain unlisted plain_tree lists sees rise same = record {
  query = simple part.tree [] (map (col 1) (range_with_len 1 (width_of part.tree))) order;
  names = names;
  is = query_is (understood our_schema sql) _ names is;
  plain = plain;
  unlisted = unlisted;
  all = λ trees rows answer. record {
    in_any_order = in_any_order part.tree (width_of part.tree) order plain_tree lists trees rows answer;
    in_order = λ c formed keeps. in_order part.tree (width_of part.tree) order plain_tree lists sees trees rows answer (part.rows c) (same c trees keeps) (rise c formed);
  };
}

-- ---- what is known of a table whose rows are read one at a time

module _ (part : Part Content) (sql : List ℕ) (shows : ShowsTable part sql) where
  -- the rows that are shown are all
  pub whole_shown : (old new : State) → old.now.schema ≡ our_schema → (rows : List Row) → Shown sql [] old new rows → AreAllOf part old.now.trees rows
  whole_shown old new has rows shown =
      shows.all old.now.trees rows ((reads_as sql [] old new our_schema has _ (command_is (understood our_schema sql) _ shows.is) shows.plain shows.unlisted rows shown).answer Null)

  -- the rows that were read so far are the first of all
  pub rest_shown : (old new : State) → old.now.schema ≡ our_schema → IsUnchanged old new → (rows : List Row) → Begins sql [] old rows → (tail : List Row) × Shown sql [] old new (rows ++ tail)
  rest_shown old new has unchanged rows first =
      begins_shown sql [] old new rows first unchanged
      (λ compiled db it source.
      subst (λ k. EndsIn k db (timed [] compiled.formats it.now)) (sym (ap command_of (sym (ap (λ s. understood s sql) (sym has) ∙ it.is)) ∙ command_is (understood our_schema sql) _ shows.is)) tt)
