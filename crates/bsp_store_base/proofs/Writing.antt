-- What INSERT, DELETE and UPDATE leave in a table.
use Rattle.std.proofs.Common.{◌≡◌, ◌≢◌, ◌⊎◌, inl, inr, ℕ, ◌/◌, List, [], ◌∷◌, map, filter, Bool, true, false, not, Some, None, Ok, Err, Result, refl, sym, ap, ap₂, ◌∙◌, subst, drop, IsPermutation, length, slice_get, Option}
use Rattle.bsp_store_base.proofs.Std.{AllByRecursion, and_parts, cond-false, IsPermutation-cons, IsPermutation-map, IsPermutation-refl, IsPermutation-trans, list_all, MatchBool-at_false, not-true}
use Rattle.bsp_store_base.specs.Sqlite.{AtPlace, Blob, Command, Database, Delete, Enforced, Executes, Insert, Int, Integer, IsAnswer, IsNoIndex, Null, OnRows, OnTable, Output, Real, Row, Schema, State, Table, Tally, Task, Term, Text, Trees, Update, Value, Values, WritesRows, Written, are_fresh, cast, cast_all, cast_row, col, count_of, edit_of, eval_all, holds, id_in, is_int, is_taken, mode_of, next_rowid, numbered, overlay, put_all, put_row, rowid, rowids_for, stamped, taken_by, understood, value_rows, without_all, works}
use Rattle.bsp_store_base.proofs.Sqlite.{all-filter, ascending-filter, command_of, IsPlain, map-map, one_step, runs_as}
use Rattle.sqlite_trees.proofs.TreeLemmas.{IsTable-put_row, all-put_row}
use Rattle.sqlite_schema.specs.declared.program.Program.{Program}
use Rattle.sqlite_rules.specs.Calls.{ids_of}
use Rattle.sqlite_rules.specs.declared.error.Rowids.TheVariants.{Chosen, Given}
use Rattle.bsp_store_base.specs.Kept.{KeepsTable, columns_of}
use Rattle.bsp_store_base.proofs.ReadingLemmas.{simple, passes, out, rows_are, seen, put_fresh, taken_out}
use Rattle.bsp_store_base.proofs.Alone.{alone, only}
use Rattle.bsp_store_base.proofs.Values.{cast_int}

-- a part that gave a value did not stop on the way
pub went : {B E R : Type 0} {b : B} {Stops : E → Type 0} → ((stop : E) × Stops stop × (Ok b ≡ Err stop)) ⊎ R → R
went (inl stopped) = absurd (let e = stopped.2 in cc)
went (inr on) = on

pub same_value : {B E : Type 0} {a b : B} → ◌≡◌ {A = Result B E} (Ok a) (Ok b) → a ≡ b
same_value e = cc

cast_id : (v : Value) → is_int v ≡ true → cast Integer v ≡ v
cast_id (Int n) is = cast_int n
cast_id Null is = absurd (cc is)
cast_id (Real x) is = absurd (cc is)
cast_id (Text t) is = absurd (cc is)
cast_id (Blob b) is = absurd (cc is)

numbered-given : (rows news : List Row) → numbered Given rows news ≡ news
numbered-given rows [] = refl
numbered-given rows (n ∷ news) = ap (λ l. n ∷ l) (numbered-given (put_row n rows) news)

-- a row that is put at a free rowid, beside those that are kept
put_beside : (width : ℕ) (rows tree : List Row) (id : Value) (row : Row) → is_int id ≡ true → columns_of width (id ∷ row) ≡ row → is_taken tree (id ∷ row) ≡ false
    → KeepsTable width rows tree → KeepsTable width (row ∷ rows) (put_row (id ∷ row) tree)
put_beside width rows tree id row int wide free keeps = record {
  table = IsTable-put_row (id ∷ row) tree keeps.table;
  keyed = all-put_row _ (id ∷ row) tree int keeps.keyed;
  rows = IsPermutation-trans _ _ _ (IsPermutation-cons row _ _ keeps.rows)
      (subst (λ l. IsPermutation (l ∷ map (columns_of width) tree) (map (columns_of width) (put_row (id ∷ row) tree))) wide (IsPermutation-map (columns_of width) _ _ (put_fresh (id ∷ row) tree free)));
}

-- those of the rows of a table that pass a test
passing_kept : (width : ℕ) (p : Row → Bool) (rows passing tree : List Row) → KeepsTable width rows tree → IsPermutation passing (map (columns_of width) (filter p tree)) → KeepsTable width passing (filter p tree)
passing_kept width p rows passing tree keeps same = record { table = ascending-filter _ _ tree keeps.table; keyed = all-filter _ _ tree keeps.keyed; rows = same }

-- a table, on whose rows no foreign key acts
module _ (schema : Schema) (at : ℕ) (table : Table) (is_at : slice_get schema.tables at ≡ Some table) (uncounted : table.is_counted ≡ false)
    (plain_tree : (db : Trees) → overlay db [] table.tree ≡ db table.tree) (width : ℕ) (free : (olds news : List Row) → works schema Enforced 0 table.tree olds news ≡ []) where
  -- a write that left these rows in the table, and each other table as it was
  pub record Wrote (old new : State) (rows : List Row) : Type 0 where
    pub same : new.now.schema ≡ schema
    pub kept : KeepsTable width rows (new.now.trees table.tree)
    pub others : (t : ℕ) → t ≢ table.tree → IsNoIndex schema t → new.now.trees t ≡ old.now.trees t

  module _ (sql : List ℕ) (plain : IsPlain (understood schema sql)) (params : Row) where
    -- what a statement on the rows of the table wrote
    module _ (command : Command) (old new : State) (has : old.now.schema ≡ schema) (tally : Tally)
        (changed : OnTable old.step_limit (mode_of old) params old.now at (λ task. OnRows task (mode_of old) None command old.now.trees) (Ok (tally, new.now))) where
      abbrev task : Schema → Table → Task
      task s t = record { limit = old.step_limit; keys = (mode_of old).keys; schema = s; table = t; params = params }

      ran : (it : Written) × WritesRows (task schema table) old.now.trees command (Ok it) × (new.now ≡ record { schema = schema; trees = it.trees })
      ran =
          let done = went (subst (λ (o : Option Table). AtPlace (λ t. OnRows (task schema t) (mode_of old) None command old.now.trees) o (Ok (tally, new.now))) is_at
          (subst (λ (s : Schema). AtPlace (λ t. OnRows (task s t) (mode_of old) None command old.now.trees) (slice_get s.tables at) (Ok (tally, new.now))) has changed)) in
          (done.0, done.1, ap (λ (p : Tally × Database). p.1) (same_value (went (went done.2).2).2))

    -- a write by which the table got these rows
    wrote_by : (old new : State) (next : Trees) (rows tree : List Row) → new.now ≡ record { schema = schema; trees = next } → next table.tree ≡ tree → KeepsTable width rows tree
        → ((t : ℕ) → t ≢ table.tree → IsNoIndex schema t → next t ≡ old.now.trees t) → Wrote old new rows
    wrote_by old new next rows tree is tree_is kept others = record {
      same = ap (λ (d : Database). d.schema) is;
      kept = subst (KeepsTable width rows) (sym (ap (λ (d : Database). d.trees table.tree) is ∙ tree_is)) kept;
      others = λ t other free_of. ap (λ (d : Database). d.trees t) is ∙ others t other free_of;
    }

    pub inserts : (terms : List Term) (many : ℕ) (is : command_of (understood schema sql) ≡ Insert at (Values terms many)) (source row : Row)
        (sourced : value_rows (stamped table params) many (length terms / many) terms ≡ source ∷ []) (casts : cast_row table source ≡ Null ∷ row) (wide : (id : Value) → columns_of width (id ∷ row) ≡ row)
        (old new : State) (has : old.now.schema ≡ schema) (count : ℕ) → Executes sql params old new (Ok count) → (rows : List Row) → KeepsTable width rows (old.now.trees table.tree) → Wrote old new (row ∷ rows)
    inserts terms many is source row sourced casts wide old new has count h rows keeps =
        let db = old.now.trees in
        let command = Insert at (Values terms many) in
        let w = runs_as sql params old new schema has command is plain count h in
        let it = ran command old new has w.tally w.changed in
        let given = went it.1 in
        let none = went given.2 in
        let counter : none.0 ≡ None = same_value (MatchBool-at_false _ _ uncounted none.1) in
        let written = went none.2 in
        let counted = went written.2 in
        let nothing : written.0 ≡ counted.0 = sym (same_value (MatchBool-at_false _ _ (cond-false table.is_counted _ false uncounted) counted.1)) in
        let chosen : rowids_for table (count_of none.0) ≡ Chosen = cond-false table.is_counted _ Chosen uncounted in
        let edit = edit_of db table [] (rowids_for table (count_of none.0)) 0 given.0 in
        let applied = one_step schema Enforced db written.0 edit (free (taken_by db edit) edit.news) written.1 in
        let id = Int (next_rowid (db table.tree)) in
        let news : edit.news ≡ (id ∷ row) ∷ [] =
        ap (λ k. (edit_of db table [] k 0 given.0).news) chosen
        ∙ ap (λ all. (edit_of db table [] Chosen 0 all).news) (given.1.1 ∙ sourced)
        ∙ ap (λ s. numbered Chosen (db table.tree) (s ∷ [])) casts in
        let fresh : is_taken (db table.tree) (id ∷ row) ≡ false = not-true _ (and_parts _ _ (subst (λ l. are_fresh (db table.tree) l ≡ true) news applied.fresh)).0 in
        wrote_by old new written.0 _ _ (it.2 ∙ ap (λ t. record { schema = schema; trees = t }) (ap (λ (w : Written). w.trees) (same_value counted.2) ∙ sym nothing)) (applied.rows ∙ ap (λ l. put_all (db table.tree) l) news)
        (put_beside width rows (db table.tree) id row refl (wide id) fresh keeps) applied.others

    -- a statement looks at the rows that pass its test
    looked_at : (test project : List Term) (db : Trees) (given : List Row) → IsAnswer (simple table.tree test project []) (overlay db []) params given
        → IsPermutation (map (λ (o : Output). o.1) (map (out table.tree test project [] (overlay db []) params) (filter (passes table.tree test project [] (overlay db []) params) (db table.tree)))) given
    looked_at test project db given answer =
        let all = map (out table.tree test project [] (overlay db []) params) (filter (passes table.tree test project [] (overlay db []) params) (db table.tree)) in
        rows_are table.tree test project [] (overlay db []) params given answer all
        (subst (λ l. IsPermutation all (map (out table.tree test project [] (overlay db []) params) (filter (passes table.tree test project [] (overlay db []) params) l))) (sym (plain_tree db)) (IsPermutation-refl _))

    pub deletes : (test : List Term) (is : command_of (understood schema sql) ≡ Delete at (record { lets = []; body = simple table.tree test (col 1 0 ∷ []) [] }))
        {A : Type 0} (row_of : A → Row) (q : A → Bool)
        (tests : (r : Row) → list_all (holds (params ∷ r ∷ [])) test ≡ list_all (holds (params ∷ (Null ∷ columns_of width r) ∷ [])) test) (again : (r : Row) → columns_of width r ≡ columns_of width (Null ∷ columns_of width r))
        (test_is : (a : A) → list_all (holds (params ∷ (Null ∷ row_of a) ∷ [])) test ≡ q a) (wide : (a : A) → columns_of width (Null ∷ row_of a) ≡ row_of a)
        (old new : State) (has : old.now.schema ≡ schema) (count : ℕ) → Executes sql params old new (Ok count) → (xs : List A) → KeepsTable width (map row_of xs) (old.now.trees table.tree) → Wrote old new (map row_of (filter (λ a. not (q a)) xs))
    deletes test is row_of q tests again test_is wide old new has count h xs keeps =
        let t = table.tree in
        let db = old.now.trees in
        let project = col 1 0 ∷ [] in
        let program : Program = record { lets = []; body = simple t test project [] } in
        let w = runs_as sql params old new schema has (Delete at program) is plain count h in
        let it = ran (Delete at program) old new has w.tally w.changed in
        let given = went it.1 in
        let written = went given.2 in
        let edit = edit_of db table (ids_of given.0) Given 0 [] in
        let applied = one_step schema Enforced db written.0 edit (free (taken_by db edit) edit.news) written.1 in
        let p = passes t test project [] (overlay db []) params in
        let f = out t test project [] (overlay db []) params in
        let shown = looked_at test project db given.0 (given.1.answer Null) in
        let ids : IsPermutation (map (λ r. id_in (rowid r)) (filter p (db t))) (ids_of given.0) =
        subst (λ l. IsPermutation l (ids_of given.0)) (ap (map (λ r. id_in (rowid r))) (map-map (λ (o : Output). o.1) f (filter p (db t))) ∙ map-map (λ r. id_in (rowid r)) (λ r. (f r).1) (filter p (db t))) (IsPermutation-map (λ r. id_in (rowid r)) _ _ shown) in
        let others = seen (columns_of width) row_of (λ r. not (p r)) (λ a. not (q a)) (columns_of width) row_of (λ r. ap not (tests r)) again (λ a. ap not (test_is a)) wide xs (db t) keeps.rows in
        wrote_by old new written.0 _ _ (it.2 ∙ ap (λ (w : Written). record { schema = schema; trees = w.trees }) (same_value written.2)) (applied.rows ∙ taken_out p (db t) (ids_of given.0) keeps.table keeps.keyed ids)
        (passing_kept width (λ r. not (p r)) _ _ (db t) keeps others) applied.others

    -- the one row that passes is replaced by another, which has its rowid
    module _ (test project : List Term) (is : command_of (understood schema sql) ≡ Update at (record { lets = []; body = simple table.tree test project [] }))
        {A : Type 0} (row_of : A → Row) (q : A → Bool)
        (tests : (r : Row) → list_all (holds (params ∷ r ∷ [])) test ≡ list_all (holds (params ∷ (Null ∷ columns_of width r) ∷ [])) test) (again : (r : Row) → columns_of width r ≡ columns_of width (Null ∷ columns_of width r))
        (test_is : (a : A) → list_all (holds (params ∷ (Null ∷ row_of a) ∷ [])) test ≡ q a) (wide : (a : A) → columns_of width (Null ∷ row_of a) ≡ row_of a)
        (a : A) (row : Row) (made : (r : Row) → columns_of width r ≡ row_of a → eval_all project (params ∷ r ∷ []) ≡ rowid r ∷ rowid r ∷ row)
        (casts : cast_all table.columns row ≡ row) (wide_row : (id : Value) → columns_of width (id ∷ row) ≡ row) where
      pub updates : (old new : State) (has : old.now.schema ≡ schema) (count : ℕ) → Executes sql params old new (Ok count) → (xs : List A) → filter q xs ≡ a ∷ [] → KeepsTable width (map row_of xs) (old.now.trees table.tree)
          → Wrote old new (row ∷ map row_of (filter (λ b. not (q b)) xs))
      updates old new has count h xs one keeps =
          let t = table.tree in
          let db = old.now.trees in
          let program : Program = record { lets = []; body = simple t test project [] } in
          let w = runs_as sql params old new schema has (Update at program) is plain count h in
          let it = ran (Update at program) old new has w.tally w.changed in
          let given = went it.1 in
          let written = went given.2 in
          let edit = edit_of db table (ids_of given.0) Given 1 given.0 in
          let applied = one_step schema Enforced db written.0 edit (free (taken_by db edit) edit.news) written.1 in
          let p = passes t test project [] (overlay db []) params in
          let f = out t test project [] (overlay db []) params in
          let shown = looked_at test project db given.0 (given.1.answer Null) in
          -- the row that passes
          let there : IsPermutation (row_of a ∷ []) (map (columns_of width) (filter p (db t))) =
          subst (λ l. IsPermutation (map row_of l) (map (columns_of width) (filter p (db t)))) one (seen (columns_of width) row_of p q (columns_of width) row_of tests again test_is wide xs (db t) keeps.rows) in
          let found = only (columns_of width) (row_of a) (filter p (db t)) there in
          let id = rowid found.0 in
          let shows : map (λ (o : Output). o.1) (map f (filter p (db t))) ≡ (id ∷ id ∷ row) ∷ [] =
          ap (λ l. map (λ (o : Output). o.1) (map f l)) found.1 ∙ ap (λ (x : Row). x ∷ []) (made found.0 found.2) in
          let rows : given.0 ≡ (id ∷ id ∷ row) ∷ [] = alone _ given.0 (subst (λ l. IsPermutation l given.0) shows shown) in
          let int = (subst (AllByRecursion (λ x. is_int (rowid x) ≡ true)) found.1 (all-filter _ p (db t) keeps.keyed)).0 in
          let left : without_all (db t) (ids_of given.0) ≡ filter (λ x. not (p x)) (db t) =
          taken_out p (db t) (ids_of given.0) keeps.table keeps.keyed
          (subst (λ l. IsPermutation (map (λ x. id_in (rowid x)) l) (ids_of given.0)) (sym found.1) (subst (λ l. IsPermutation (id_in id ∷ []) (ids_of l)) (sym rows) (IsPermutation-refl _))) in
          let news : edit.news ≡ (id ∷ row) ∷ [] =
          ap (λ l. numbered Given (without_all (db t) (ids_of given.0)) (map (λ s. cast_row table (drop 1 s)) l)) rows
          ∙ numbered-given (without_all (db t) (ids_of given.0)) _
          ∙ ap₂ (λ v vs. (v ∷ vs) ∷ []) (cast_id id int) casts in
          let fresh : is_taken (filter (λ x. not (p x)) (db t)) (id ∷ row) ≡ false =
          not-true _ (and_parts _ _ (subst (λ l. are_fresh l ((id ∷ row) ∷ []) ≡ true) left (subst (λ l. are_fresh (without_all (db t) (ids_of given.0)) l ≡ true) news applied.fresh))).0 in
          let others = seen (columns_of width) row_of (λ r. not (p r)) (λ b. not (q b)) (columns_of width) row_of (λ r. ap not (tests r)) again (λ b. ap not (test_is b)) wide xs (db t) keeps.rows in
          wrote_by old new written.0 _ _ (it.2 ∙ ap (λ (w : Written). record { schema = schema; trees = w.trees }) (same_value written.2)) (applied.rows ∙ ap₂ put_all left news)
          (put_beside width _ _ id row int (wide_row id) fresh (passing_kept width (λ r. not (p r)) _ _ (db t) keeps others)) applied.others
