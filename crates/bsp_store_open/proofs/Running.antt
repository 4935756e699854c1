-- The statements of a text: rows that are put into a table, and one statement after the other, in a transaction that stays
-- open and commits nothing.
use Rattle.std.proofs.Common.{◌≡◌, ◌≢◌, ℕ, List, [], ◌∷◌, ◌++◌, append-nil, map, filter, Bool, true, false, not, ◌&&◌, cond, Some, None, Ok, Option, refl, sym, ap, ap₂, ◌∙◌, subst, drop, IsPermutation, length, slice_get, true≢false, MatchBool, pos, negsuc, ◌⊎◌, inl, inr, ◌≤◌, zero, suc, take, ◌||◌, Err, Result, OnOk, IsTrue, subst₂, arith}
use Rattle.bsp_store_base.proofs.Std.{◌==◌, AllByRecursion, and_parts, cases_Bool, digits, eqb-false, eqb-true, IsPermutation-append_right, IsPermutation-map, IsPermutation-middle, IsPermutation-refl, IsPermutation-sym, IsPermutation-trans, list_all, list_any, nat_lt, not-true}
use Rattle.bsp_store_base.specs.Sqlite.{AtPlace, Binary, cast, cast_row, col, Command, Commit, CommitsBy, count_of, CreateTable, Database, Does, doubt, end, Enforced, Error, eval_all, everything, ExecutesIn, Ghosts, Gives, HasCleanDisk, Held, Index, inner, Insert, Int, Integer, IsAnswer, IsNotRun, IsRolledBack, IsTable, IsUnchanged, KeepsCommit, lacks_sequence, lit, MakesSequence, MakesTable, mode_of, no_rows, Null, OnRows, Output, overlay, put_row, Query, Release, Row, rowid, rowids_for, Runs, RunsCommand, Schema, shows_rows, stamped, State, state, Survives, Table, table_defined_by, Tally, Term, text_of, Then, timed, Trees, understood, Update, Value, works, Writes, Written}
use Rattle.sqlite_value.specs.declared.keys.Collation.{Collation}
use Rattle.sqlite_trees.proofs.ListLemmas.{map-map, filter_all, all_of}
use Rattle.sqlite_trees.proofs.TreeLemmas.{IsTable-put_row, all-put_row}
use Rattle.sqlite_schema.specs.declared.command.Source.TheVariants as source
use Rattle.sqlite_rules.specs.Calls.{ids_of}
use Rattle.sqlite_rules.specs.Edit.{at_least, edit_of, is_chosen, next_rowid, numbered, put_all, taken_by, with_rowid, without_all, are_fresh, have_rowids, id_in}
use Rattle.sqlite_rules.specs.declared.error.Rowids.{Rowids}
use Rattle.sqlite_rules.specs.declared.error.Rowids.TheVariants.{Given}
use Rattle.sqlite.proofs.Callers.{one_step, IsPlain, command_of, statement_of, through}
use Rattle.bsp_store_base.proofs.Base.{columns_of, commission_tax_table, item_tax_table, meta_table, our_schema, quiet, same_value, second_related_table, tally_tax_table, went}
use Rattle.bsp_store_base.proofs.ReadingLemmas.{simple, passes, out, rows_are, put_fresh, taken_out}
use Rattle.bsp_store_open.specs.Statements.{AreMade, Keyed, stored, At, Goes, HasSeconds, HasTaxes, IsAdded, IsAt, untaxed_item, untaxed_tally, with_version}
use Rattle.sqlite_catalog.specs.Change.{KeepsRows, created, next_tree}
use Rattle.sqlite.specs.Batch.{RunInTurn, first_len, ExecutesAll}
use Rattle.bsp_store_open.specs.Old.{old_schema, old_tables}
use Rattle.bsp_store_open.specs.declared.adding.TheConstants.{SECONDS, TAXES}
use Rattle.bsp_store_open.specs.declared.old_versions.OldVersion.TheVariants.{First, Second}

-- ---- queries

-- SELECT project FROM t, as INSERT compiles it
abbrev pub whole : ℕ → List Term → List Collation → Query
whole t project collations = record {
  from = inner t end;
  filter = [];
  group = None;
  project = project;
  distinct = false;
  collations = collations;
  order = [];
  limit = lit (Int (negsuc 0));
  offset = lit (Int (pos 0));
}

-- what a query for every row shows, in some order
answered : (t : ℕ) (project : List Term) (db : Trees) (plain : overlay db [] t ≡ db t) (params : Row) (rows : List Row) → IsAnswer (simple t [] project []) (overlay db []) params rows
    → IsPermutation (map (λ r. eval_all project (params ∷ r ∷ [])) (db t)) rows
answered t project db plain params rows a =
    let p = passes t [] project [] (overlay db []) params in
    let f = out t [] project [] (overlay db []) params in
    let every : filter p (overlay db [] t) ≡ db t = filter_all p (overlay db [] t) (all_of _ (λ r. refl) (overlay db [] t)) ∙ plain in
    let shown = rows_are t [] project [] (overlay db []) params rows a (map f (filter p (overlay db [] t))) (IsPermutation-refl _) in
    subst (λ l. IsPermutation l rows) (ap (λ l. map (λ (o : Output). o.1) (map f l)) every ∙ map-map (λ (o : Output). o.1) f (db t)) shown

as_simple : (t : ℕ) (project : List Term) (collations : List Collation) (db : Trees) (params : Row) (rows : List Row) → IsAnswer (whole t project collations) db params rows → IsAnswer (simple t [] project []) db params rows
as_simple t project collations db params rows a =
    record { staged = a.staged; grouped = a.grouped; kept = a.kept; distinct = a.distinct; ordered = a.ordered; same = a.same; sorted = a.sorted; shown = a.shown }

-- ---- rows put into a table that has none

otherwise : {X : Type 0} (b : Bool) (x y : X) → b ≡ false → cond b x y ≡ y
otherwise true x y e = absurd (true≢false e)
otherwise false x y e = refl

not_so : (P Q : Type 0) (b : Bool) → b ≡ false → MatchBool b P Q → Q
not_so P Q true e h = absurd (true≢false e)
not_so P Q false e h = h

put_all_fresh : (news rows : List Row) → are_fresh rows news ≡ true → IsPermutation (news ++ rows) (put_all rows news)
put_all_fresh [] rows fresh = IsPermutation-refl rows
put_all_fresh (n ∷ news) rows fresh =
    let parts = and_parts _ _ fresh in
    IsPermutation-trans _ _ _ (IsPermutation-sym _ _ (IsPermutation-middle news n rows))
    (IsPermutation-trans _ _ _ (IsPermutation-append_right news _ _ (put_fresh n rows (not-true _ parts.0))) (put_all_fresh news (put_row n rows) parts.1))

IsTable-put_all : (news rows : List Row) → IsTable rows → IsTable (put_all rows news)
IsTable-put_all [] rows table = table
IsTable-put_all (n ∷ news) rows table = IsTable-put_all news (put_row n rows) (IsTable-put_row n rows table)

Keyed-put_all : (news rows : List Row) → have_rowids news ≡ true → Keyed rows → Keyed (put_all rows news)
Keyed-put_all [] rows news keyed = keyed
Keyed-put_all (n ∷ news) rows all keyed = let parts = and_parts _ _ all in Keyed-put_all news (put_row n rows) parts.1 (all-put_row _ n rows parts.0 keyed)

module _ (width : ℕ) (wide : (id : Value) (r : Row) → columns_of width (id ∷ drop 1 r) ≡ columns_of width r) where
  numbered_columns : (k : Rowids) (rows sources : List Row) → map (columns_of width) (numbered k rows sources) ≡ map (columns_of width) sources
  numbered_columns k rows [] = refl
  numbered_columns k rows (s ∷ sources) = ap₂ ◌∷◌ (same (is_chosen k (rowid s)) (Int (at_least k (next_rowid rows)))) (numbered_columns k (put_row (with_rowid k rows s) rows) sources)
    where
      same : (b : Bool) (v : Value) → columns_of width (cond b (v ∷ drop 1 s) s) ≡ columns_of width s
      same true v = wide v s
      same false v = refl

module _ (table : Table) (wide : (id : Value) (r : Row) → columns_of (length table.columns) (id ∷ drop 1 r) ≡ columns_of (length table.columns) r) where
  abbrev width : ℕ
  width = length table.columns

  -- the rows that were put are such as were made, where each source has the values that were made
  put_made : (made : Row → Row) (from sources news rows : List Row) (k : Rowids) (before : List Row) (id : Row → Value) → IsPermutation (map (λ r. id r ∷ made r) from) sources
      → news ≡ numbered k before (map (λ s. cast_row table s) sources) → rows ≡ put_all [] news → are_fresh [] news ≡ true → have_rowids news ≡ true → AreMade table made from rows
  put_made made from sources news rows k before id shown news_are rows_are fresh keyed =
      let same : (id : Value) (values : Row) → columns_of width (cast_row table (id ∷ values)) ≡ stored table values =
      λ id values. wide (cast Integer id) (cast_row table (Null ∷ values)) in
      let each : map (λ r. columns_of width (cast_row table (id r ∷ made r))) from ≡ map (λ r. stored table (made r)) from = same_map (λ r. columns_of width (cast_row table (id r ∷ made r))) (λ r. stored table (made r)) (λ r. same (id r) (made r)) from in
      let made_are : IsPermutation (map (λ r. stored table (made r)) from) (map (columns_of width) news) =
      subst (λ l. IsPermutation (map (λ r. stored table (made r)) from) l) (sym (ap (map (columns_of width)) news_are ∙ numbered_columns width wide k before (map (λ s. cast_row table s) sources) ∙ map-map (columns_of width) (λ s. cast_row table s) sources))
      (subst (λ l. IsPermutation l (map (λ s. columns_of width (cast_row table s)) sources)) (map-map (λ s. columns_of width (cast_row table s)) (λ r. id r ∷ made r) from ∙ each)
      (IsPermutation-map (λ s. columns_of width (cast_row table s)) _ _ shown)) in
      record {
        rising = subst IsTable (sym rows_are) (IsTable-put_all news [] tt);
        keyed = subst Keyed (sym rows_are) (Keyed-put_all news [] keyed tt);
        rows = IsPermutation-trans _ _ _ made_are (IsPermutation-map (columns_of width) _ _ (subst (IsPermutation news) (sym rows_are) (subst (λ l. IsPermutation l (put_all [] news)) (append-nil news) (put_all_fresh news [] fresh))));
      }
    where
      same_map : {A B : Type 0} (f g : A → B) → ((a : A) → f a ≡ g a) → (xs : List A) → map f xs ≡ map g xs
      same_map f g h [] = refl
      same_map f g h (x ∷ xs) = ap₂ ◌∷◌ (h x) (same_map f g h xs)

no_index : (t : ℕ) (indexes : List Index) → list_all (λ i. not (i.tree == t)) indexes ≡ true → AllByRecursion (λ i. i.tree ≢ t) indexes
no_index t [] e = tt
no_index t (i ∷ is) e = let both = and_parts _ _ e in (eqb-false _ _ (not-true _ both.0), no_index t is both.1)

-- the number is neither this one nor that of the tree of an index
abbrev pub apart : Schema → ℕ → ℕ → Bool
apart schema tree x = not (x == tree) && list_all (λ i. not (i.tree == x)) schema.indexes

-- ---- the statements

-- INSERT of these columns, read from each row of the table of a tree
abbrev pub insertion : ℕ → ℕ → List Term → List Collation → Command
insertion at t columns collations = Insert at (source.Query (record { lets = []; body = whole t (lit Null ∷ columns) collations }))

-- UPDATE of each row of the table of a tree to these columns
abbrev pub change : ℕ → ℕ → List Term → Command
change at t columns = Update at (record { lets = []; body = simple t [] (col 1 0 ∷ col 1 0 ∷ columns) [] })

-- a table, on whose rows no foreign key acts
module _ (schema : Schema) (at : ℕ) (table : Table) (is_at : slice_get schema.tables at ≡ Some table) (free : (olds news : List Row) → works schema Enforced 0 table.tree olds news ≡ [])
    (wide : (id : Value) (r : Row) → columns_of (length table.columns) (id ∷ drop 1 r) ≡ columns_of (length table.columns) r)
    (old new : State) (has : old.now.schema ≡ schema) (text : List ℕ) (count : ℕ) where
  abbrev pub db : Trees
  db = old.now.trees

  -- the rows of the table, and what is left in each other tree
  pub record Puts (made : Row → Row) (from : List Row) (Before : Type 0) : Type 0 where
    pub same : new.now.schema ≡ schema
    pub now : Before → AreMade table made from (new.now.trees table.tree)
    pub others : (x : ℕ) → apart schema table.tree x ≡ true → new.now.trees x ≡ db x

  module _ (uncounted : table.is_counted ≡ false) (from : ℕ) (plain : overlay db [] from ≡ db from) (columns : List Term) (collations : List Collation) where
    pub inserts_all : Writes old new None (insertion at from columns collations) text [] count → Puts (λ r. eval_all columns (stamped table [] ∷ r ∷ [])) (db from) (db table.tree ≡ [])
    inserts_all w =
        let done = went (subst (λ (o : Option Table). AtPlace (λ t. OnRows (record { limit = old.step_limit; keys = (mode_of old).keys; schema = schema; table = t; params = [] }) (mode_of old) None (insertion at from columns collations) db) o (Ok (w.tally, new.now))) is_at
        (subst (λ s. Does old.step_limit (mode_of old) [] (record old.now { schema = s }) text None (insertion at from columns collations) (Ok (w.tally, new.now))) has w.changed)) in
        let now = ap (λ (p : Tally × Database). p.1) (same_value (went (went done.2).2).2) in
        let given = went done.1 in
        let none = went given.2 in
        let written = went none.2 in
        let counted = went written.2 in
        let nothing : written.0 ≡ counted.0 = sym (same_value (not_so _ _ _ (otherwise table.is_counted _ false uncounted) counted.1)) in
        let trees : done.0.trees ≡ written.0 = ap (λ (it : Written). it.trees) (same_value counted.2) ∙ sym nothing in
        let k = rowids_for table (count_of none.0) in
        let edit = edit_of db table [] k 0 given.0 in
        let applied = one_step schema Enforced db written.0 edit (free (taken_by db edit) edit.news) written.1 in
        let all : new.now.trees ≡ written.0 = ap (λ (d : Database). d.trees) now ∙ trees in
        let shown = answered from (lit Null ∷ columns) db plain (stamped table []) given.0 (as_simple from (lit Null ∷ columns) collations (overlay db []) (stamped table []) given.0 (given.1.answer Null)) in
        record {
          same = ap (λ (d : Database). d.schema) now;
          now = λ empty. put_made table wide (λ r. eval_all columns (stamped table [] ∷ r ∷ [])) (db from) given.0 edit.news (new.now.trees table.tree) k (db table.tree) (λ r. Null) shown refl
              (ap (λ (d : Trees). d table.tree) all ∙ applied.rows ∙ ap (λ l. put_all l edit.news) empty) (subst (λ l. are_fresh l edit.news ≡ true) empty applied.fresh) applied.keyed;
          others = λ x is. let parts = and_parts _ _ is in ap (λ (d : Trees). d x) all ∙ applied.others x (eqb-false _ _ (not-true _ parts.0)) (no_index x schema.indexes parts.1);
        }

  module _ (plain : overlay db [] table.tree ≡ db table.tree) (columns : List Term) where
    pub updates_all : Writes old new None (change at table.tree columns) text [] count → Puts (λ r. eval_all columns ([] ∷ r ∷ [])) (db table.tree) (IsTable (db table.tree) × Keyed (db table.tree))
    updates_all w =
        let t = table.tree in
        let project = col 1 0 ∷ col 1 0 ∷ columns in
        let done = went (subst (λ (o : Option Table). AtPlace (λ t. OnRows (record { limit = old.step_limit; keys = (mode_of old).keys; schema = schema; table = t; params = [] }) (mode_of old) None (change at table.tree columns) db) o (Ok (w.tally, new.now))) is_at
        (subst (λ s. Does old.step_limit (mode_of old) [] (record old.now { schema = s }) text None (change at table.tree columns) (Ok (w.tally, new.now))) has w.changed)) in
        let now = ap (λ (p : Tally × Database). p.1) (same_value (went (went done.2).2).2) in
        let given = went done.1 in
        let written = went given.2 in
        let trees : done.0.trees ≡ written.0 = ap (λ (it : Written). it.trees) (same_value written.2) in
        let edit = edit_of db table (ids_of given.0) Given 1 given.0 in
        let applied = one_step schema Enforced db written.0 edit (free (taken_by db edit) edit.news) written.1 in
        let all : new.now.trees ≡ written.0 = ap (λ (d : Database). d.trees) now ∙ trees in
        let shown = answered t project db plain [] given.0 (given.1.answer Null) in
        let values = λ (r : Row). eval_all columns ([] ∷ r ∷ []) in
        let ids : IsPermutation (map (λ r. id_in (rowid r)) (db t)) (ids_of given.0) =
        subst (λ l. IsPermutation l (ids_of given.0)) (map-map (λ r. id_in (rowid r)) (λ r. rowid r ∷ rowid r ∷ values r) (db t)) (IsPermutation-map (λ r. id_in (rowid r)) _ _ shown) in
        let none : IsTable (db t) × Keyed (db t) → without_all (db t) (ids_of given.0) ≡ [] =
        λ before. taken_out (λ r. true) (db t) (ids_of given.0) before.0 before.1
        (subst (λ l. IsPermutation (map (λ r. id_in (rowid r)) l) (ids_of given.0)) (sym (filter_all (λ r. true) (db t) (all_of _ (λ r. refl) (db t)))) ids) ∙ filter_none (db t) in
        let later : IsPermutation (map (λ r. rowid r ∷ values r) (db t)) (map (drop 1) given.0) =
        subst (λ l. IsPermutation l (map (drop 1) given.0)) (map-map (drop 1) (λ r. rowid r ∷ rowid r ∷ values r) (db t)) (IsPermutation-map (drop 1) _ _ shown) in
        record {
          same = ap (λ (d : Database). d.schema) now;
          now = λ before. put_made table wide values (db t) (map (drop 1) given.0) edit.news (new.now.trees t) Given (without_all (db t) (ids_of given.0)) rowid later
              (ap (numbered Given (without_all (db t) (ids_of given.0))) (sym (map-map (λ s. cast_row table s) (drop 1) given.0)))
              (ap (λ (d : Trees). d t) all ∙ applied.rows ∙ ap (λ l. put_all l edit.news) (none before)) (subst (λ l. are_fresh l edit.news ≡ true) (none before) applied.fresh) applied.keyed;
          others = λ x is. let parts = and_parts _ _ is in ap (λ (d : Trees). d x) all ∙ applied.others x (eqb-false _ _ (not-true _ parts.0)) (no_index x schema.indexes parts.1);
        }
      where
        filter_none : (rows : List Row) → filter (λ r. not true) rows ≡ []
        filter_none [] = refl
        filter_none (r ∷ rows) = filter_none rows

-- CREATE of a table; INSERT of columns that are read from each row of the table of a tree; UPDATE of each row
pub data Statement : Type 0 where
  makes : Table → Statement
  takes : ℕ → Table → ℕ → List Term → Statement
  changes : ℕ → Table → List Term → Statement

abbrev pub command_for : Statement → Command
command_for (makes t) = CreateTable
command_for (takes at table from columns) = insertion at from columns (map (λ _. Binary) (lit Null ∷ columns))
command_for (changes at table columns) = change at table.tree columns

abbrev pub bare : Table → Table
bare t = record t { tree = 0 }

abbrev pub next : Schema → Statement → Schema
next schema (makes t) = created schema (bare t)
next schema (takes at table from columns) = schema
next schema (changes at table columns) = schema

abbrev pub tree_of : Schema → Statement → ℕ
tree_of schema (makes t) = next_tree schema
tree_of schema (takes at table from columns) = table.tree
tree_of schema (changes at table columns) = table.tree

-- the trees that stay as they are
abbrev pub stays : Schema → Statement → ℕ → Bool
stays schema (makes t) x = list_any (λ t. t.tree == x) schema.tables
stays schema (takes at table from columns) x = apart schema table.tree x
stays schema (changes at table columns) x = apart schema table.tree x

-- the rows of the tree that it writes
abbrev pub Leaves : Statement → Trees → List Row → Type 0
Leaves (makes t) old rows = rows ≡ []
Leaves (takes at table from columns) old rows = old table.tree ≡ [] → AreMade table (λ r. eval_all columns (stamped table [] ∷ r ∷ [])) (old from) rows
Leaves (changes at table columns) old rows = IsTable (old table.tree) × Keyed (old table.tree) → AreMade table (λ r. eval_all columns ([] ∷ r ∷ [])) (old table.tree) rows

pub record Rewrites (schema : Schema) (s : Statement) (old new : Trees) : Type 0 where
  pub now : Leaves s old (new (tree_of schema s))
  pub others : (x : ℕ) → stays schema s x ≡ true → new x ≡ old x

-- a table of the schema, whose rows a statement may put
pub record MayPut (schema : Schema) (at : ℕ) (table : Table) (from : ℕ) : Type 0 where
  pub is_at : slice_get schema.tables at ≡ Some table
  pub uncounted : table.is_counted ≡ false
  pub plain : (db : Trees) → overlay db [] from ≡ db from
  pub free : (olds news : List Row) → works schema Enforced 0 table.tree olds news ≡ []
  pub wide : (id : Value) (r : Row) → columns_of (length table.columns) (id ∷ drop 1 r) ≡ columns_of (length table.columns) r

abbrev pub Fits : Schema → List ℕ → Statement → Type 0
Fits schema text (makes t) = (table_defined_by text ≡ Ok (bare t)) × (lacks_sequence (created schema (bare t)) ≡ false)
Fits schema text (takes at table from columns) = MayPut schema at table from
Fits schema text (changes at table columns) = MayPut schema at table table.tree

-- the text means this statement
pub record Means (schema : Schema) (sql : List ℕ) (s : Statement) : Type 0 where
  pub is : command_of (understood schema sql) ≡ command_for s
  pub plain : IsPlain (understood schema sql)
  pub fits : Fits schema (statement_of sql (understood schema sql)) s

-- the text means these statements, in turn
abbrev pub MeansAll : Schema → List ℕ → List Statement → Type 0
MeansAll schema text [] = text ≡ []
MeansAll schema text (s ∷ ss) = (nat_lt 0 (length text) ≡ true) × Means schema (take (first_len text) text) s × MeansAll (next schema s) (drop (first_len text) text) ss

abbrev pub last : Schema → List Statement → Schema
last schema [] = schema
last schema (s ∷ ss) = last (next schema s) ss

abbrev pub Rewrite : Schema → List Statement → Trees → Trees → Type 0
Rewrite schema [] old new = new ≡ old
Rewrite schema (s ∷ ss) old new = (mid : Trees) × Rewrites schema s old mid × Rewrite (next schema s) ss mid new

-- ---- one statement

at_table : (old new : Trees) (ts : List Table) (x : ℕ) → KeepsRows ts old new → list_any (λ t. t.tree == x) ts ≡ true → new x ≡ old x
at_table old new [] x keeps is = absurd (cc is)
at_table old new (t ∷ ts) x keeps is = go (t.tree == x) refl is (at_table old new ts x keeps.1)
  where
    go : (b : Bool) → (t.tree == x) ≡ b → (b || list_any (λ t. t.tree == x) ts) ≡ true → (list_any (λ t. t.tree == x) ts ≡ true → new x ≡ old x) → new x ≡ old x
    go true e any more = subst (λ y. new y ≡ old y) (eqb-true _ _ e) keeps.0
    go false e any more = more any

module _ (schema : Schema) (sql : List ℕ) (old new : State) (count : ℕ) (has : old.now.schema ≡ schema) where
  ran_as : (command : Command) → command_of (understood schema sql) ≡ command → IsPlain (understood schema sql) → ExecutesIn true sql [] old new (Ok count) → Runs old new None command (statement_of sql (understood schema sql)) [] count
  unfolding ExecutesIn
  ran_as command is plain h =
      let known = sym h.1.is ∙ ap (λ s. understood s sql) has in
      let bare = subst IsPlain (sym known) plain in
      let ran : Runs old new h.0.returning h.0.command (text_of sql h.0) (timed [] h.0.formats h.1.now) count = elim (cases_Bool (shows_rows true h.0)) [
        | inl shows ↦ absurd (let e = (rw shows at h.2).0 in cc)
        | inr runs ↦ rw runs at h.2
      ] in
      subst₂ (λ k t. Runs old new None k t [] count) (ap command_of known ∙ is) (ap (statement_of sql) known) (rw (bare.0, bare.1, append-nil {A = Value} []) at ran)

  writes : (s : Statement) → Means schema sql s → ExecutesIn true sql [] old new (Ok count) → Writes old new None (command_for s) (statement_of sql (understood schema sql)) [] count
  writes (makes t) m h = ran_as CreateTable m.is m.plain h
  writes (takes at table from columns) m h = ran_as (command_for (takes at table from columns)) m.is m.plain h
  writes (changes at table columns) m h = ran_as (command_for (changes at table columns)) m.is m.plain h

  does : (s : Statement) (text : List ℕ) → Fits schema text s → Writes old new None (command_for s) text [] count → (new.now.schema ≡ next schema s) × Rewrites schema s old.now.trees new.now.trees
  does (makes t) text fits w =
      let all = through (Then (MakesTable text old.now) MakesSequence) (λ after. Gives (no_rows false, after)) _ w.changed in
      let first = through (MakesTable text old.now) MakesSequence _ all.1 in
      let made = first.1 in
      let both : Ok made.table ≡ Ok (bare t) = sym made.defined ∙ fits.0 in
      let same : made.table ≡ bare t = cc in
      let after : first.0.schema ≡ created schema (bare t) = made.is ∙ ap (λ s. created s made.table) has ∙ ap (created schema) same in
      let counted : lacks_sequence first.0.schema ≡ false = ap lacks_sequence after ∙ fits.1 in
      let now : new.now ≡ first.0 = ap (λ (p : Tally × Database). p.1) (same_value all.2) ∙ same_value (rw counted at first.2) in
      let keeps : KeepsRows schema.tables old.now.trees first.0.trees = subst (λ (s : Schema). KeepsRows s.tables old.now.trees first.0.trees) has made.others in
      let none : first.0.trees (next_tree schema) ≡ [] = subst (λ s. first.0.trees (next_tree s) ≡ []) has made.empty in (
        ap (λ (d : Database). d.schema) now ∙ after,
        subst (λ (d : Database). Rewrites schema (makes t) old.now.trees d.trees) (sym now) (record { now = none; others = λ x is. at_table old.now.trees first.0.trees schema.tables x keeps is }),
      )
  does (takes at table from columns) text fits w =
      let puts = inserts_all schema at table fits.is_at fits.free fits.wide old new has text count fits.uncounted from (fits.plain old.now.trees) columns (map (λ _. Binary) (lit Null ∷ columns)) w in
      (puts.same, record { now = puts.now; others = puts.others })
  does (changes at table columns) text fits w =
      let puts = updates_all schema at table fits.is_at fits.free fits.wide old new has text count (fits.plain old.now.trees) columns w in
      (puts.same, record { now = puts.now; others = puts.others })

no_commit : (s : Statement) → command_for s ≢ Commit
no_commit (makes t) e = cc
no_commit (takes at table from columns) e = cc
no_commit (changes at table columns) e = cc

no_release : (s : Statement) (name : List ℕ) → command_for s ≢ Release name
no_release (makes t) name e = cc
no_release (takes at table from columns) name e = cc
no_release (changes at table columns) name e = cc

-- a statement that is refused or fails changes nothing, or rolls back
refused : (sql : List ℕ) (old new : State) (e : Error) → ExecutesIn true sql [] old new (Err e) → IsUnchanged old new ⊎ IsRolledBack old new
unfolding ExecutesIn IsNotRun
refused sql old new e (inl (inl bad)) = inl bad.1
refused sql old new e (inl (inr fails)) = inr fails.3
refused sql old new e (inr (c, it, ran)) = elim (cases_Bool (shows_rows true c)) [
  | inl shows ↦ inl (rw shows at ran).1
  | inr runs ↦ ends (rw runs at ran)
]
  where
    ends : RunsCommand old new sql c (timed [] c.formats it.now) (Err e) → IsUnchanged old new ⊎ IsRolledBack old new
    ends (inl h) = inl h.1
    ends (inr fails) = inr fails.3

-- ---- the statements in turn

module _ {S : Type 0} (g : Ghosts S) where
  -- whatever was answered, nothing is committed, and a stop leaves no more than there was
  pub record IsSafe (old new : Held S) : Type 0 where
    pub earlier : doubt (state g old).is_clean ≤ doubt (state g new).is_clean
    pub kept : KeepsCommit (state g old) (state g new)
    pub leaves : HasCleanDisk (state g new) → (db : Trees) → (state g new).may_leave db → (state g old).may_leave db

  pub safe_then : (old mid new : Held S) → IsSafe old mid → IsSafe mid new → IsSafe old new
  safe_then old mid new a b =
      let first = a.earlier in
      let second = b.earlier in
      record {
        earlier = omega arith;
        kept = record { was_open = λ is. a.kept.was_open (b.kept.was_open is); committed = λ is. b.kept.committed is ∙ a.kept.committed (b.kept.was_open is) };
        leaves = λ clean db may. a.leaves (omega (arith, clean, second)) db (b.leaves clean db may);
      }

  safe : (sql : List ℕ) (old new : Held S) (s : Statement) → command_of (understood (state g old).now.schema sql) ≡ command_for s → IsTrue (state g old).in_transaction
      → Survives (state g old) (state g new) (CommitsBy sql [] (state g old)) → KeepsCommit (state g old) (state g new) → IsSafe old new
  safe sql old new s is inside survives kept = record {
    earlier = survives.clean;
    kept = kept;
    leaves = λ clean db may. elim (survives.crash clean db may) [
      | inl before ↦ before
      | inr made ↦ absurd (quiet sql [] (state g old) db (command_for s) is (no_commit s) (no_release s) inside made)
    ];
  }

  failed : (sql : List ℕ) (old new : Held S) (e : Error) → ExecutesIn true sql [] (state g old) (state g new) (Err e) → KeepsCommit (state g old) (state g new)
  failed sql old new e h = elim (refused sql _ _ e h) [
    | inl same ↦ record { was_open = λ is. same.0.was_open; committed = λ is. same.0.committed_is }
    | inr back ↦ record { was_open = back.was_open; committed = λ is. (back.undone is).1 }
  ]

  on_ok : {X : Type 0} (r : Result (Unit {0}) Error) → X → OnOk r X
  on_ok (Ok u) x = x
  on_ok (Err e) x = tt

  on_map : {X Y : Type 0} (r : Result (Unit {0}) Error) → (X → Y) → OnOk r X → OnOk r Y
  on_map (Ok u) f x = f x
  on_map (Err e) f x = tt

  ended : (most : ℕ) (text : List ℕ) → text ≡ [] → (old new : Held S) (r : Result (Unit {0}) Error) → RunInTurn g None most text old new r → new ≡ old
  ended most [] none old new r ran = ran.1
  ended most (b ∷ more) none old new r ran = absurd (cc none)

  pub runs : (ss : List Statement) (schema : Schema) (text : List ℕ) → MeansAll schema text ss → (most : ℕ) (old new : Held S) (r : Result (Unit {0}) Error) → RunInTurn g None most text old new r
      → At schema (state g old) → IsSafe old new × OnOk r (Goes (last schema ss) (Rewrite schema ss) (state g old) (state g new))
  runs [] schema text means most old new r ran at =
      let same : new ≡ old = ended most text means old new r ran in
      let here : IsSafe old old = record { earlier = omega arith; kept = record { was_open = λ is. is; committed = λ is. refl }; leaves = λ clean db may. may } in
      let still : Goes schema (Rewrite schema []) (state g old) (state g old) = record { at = at; made = refl; committed = refl } in
      (subst (IsSafe old) (sym same) here, subst (λ (h : Held S). OnOk r (Goes schema (Rewrite schema []) (state g old) (state g h))) (sym same) (on_ok r still))
  runs (s ∷ ss) schema [] means most old new r ran at = absurd (cc means.0)
  runs (s ∷ ss) schema (b ∷ more) means zero old new r ran at = absurd ran
  runs (s ∷ ss) schema (b ∷ more) means (suc most) old new r (inl stopped) at =
      let sql = take (first_len (b ∷ more)) (b ∷ more) in
      let known = ap (λ s. command_of (understood s sql)) at.schema ∙ means.1.is in (
        safe sql old new s known at.inside stopped.2.survives (failed sql old new stopped.0 stopped.2.runs),
        subst (λ r. OnOk r (Goes (last schema (s ∷ ss)) (Rewrite schema (s ∷ ss)) (state g old) (state g new))) (sym stopped.1) tt,
      )
  runs (s ∷ ss) schema (b ∷ more) means (suc most) old new r (inr went) at =
      let text = b ∷ more in
      let sql = take (first_len text) text in
      let mid = went.0 in
      let known = ap (λ s. command_of (understood s sql)) at.schema ∙ means.1.is in
      let w = writes schema sql (state g old) (state g mid) went.1 at.schema s means.1 went.2.runs in
      let done = does schema sql (state g old) (state g mid) went.1 at.schema s (statement_of sql (understood schema sql)) means.1.fits w in
      let committed : (state g mid).committed ≡ (state g old).committed = subst (λ b. (state g mid).committed ≡ cond b (state g old).committed (state g mid).now) at.inside w.shown.committed_is in
      let here : At (next schema s) (state g mid) = record { schema = done.0; inside = w.shown.mode ∙ at.inside; is_open = w.shown.is_open; sound = w.sound } in
      let rest = runs ss (next schema s) (drop (first_len text) text) means.2 most mid new r went.3 here in
      let first = safe sql old mid s known at.inside went.2.survives (record { was_open = λ is. w.shown.was_open; committed = λ is. committed }) in (
        safe_then old mid new first rest.0,
        on_map r (λ (after : Goes (last (next schema s) ss) (Rewrite (next schema s) ss) (state g mid) (state g new)). record { at = after.at; made = ((state g mid).now.trees, done.1, after.made); committed = after.committed ∙ committed }) rest.1,
      )

-- ---- the statements

abbrev item_columns : List Term
item_columns = col 1 1 ∷ col 1 2 ∷ col 1 3 ∷ lit (Int (pos 0)) ∷ lit (Int (pos 0)) ∷ []

abbrev tally_columns : List Term
tally_columns = col 1 1 ∷ col 1 2 ∷ col 1 3 ∷ lit (Int (pos 0)) ∷ []

abbrev meta_columns : List Term
meta_columns = col 1 1 ∷ lit (Int (pos 3)) ∷ col 1 3 ∷ col 1 4 ∷ []

abbrev taxes : List Statement
taxes = makes commission_tax_table ∷ makes item_tax_table ∷ makes tally_tax_table
    ∷ takes 11 item_tax_table 14 item_columns ∷ takes 12 tally_tax_table 18 tally_columns ∷ []

abbrev seconds : List Statement
seconds = makes second_related_table ∷ changes 0 meta_table meta_columns ∷ []

same_columns : (id : Value) (r : Row) → (columns_of 4 (id ∷ drop 1 r) ≡ columns_of 4 r) × (columns_of 5 (id ∷ drop 1 r) ≡ columns_of 5 r)
same_columns id [] = (refl, refl)
same_columns id (v ∷ r) = (refl, refl)

-- no foreign key acts: each has NO ACTION
no_deed : (tree : ℕ) (olds news : List Row) (deletes : Bool) → (length news == 0) ≡ deletes → (works (old_schema Second) Enforced 0 tree olds news ≡ []) × (works our_schema Enforced 0 tree olds news ≡ [])
no_deed tree olds news true is = rw is (refl, refl)
no_deed tree olds news false is = rw is (refl, refl)

-- ---- the texts

taxes_mean : MeansAll (old_schema First) TAXES.now taxes
unfolding understood everything digits
taxes_mean = (
  refl,
  record { is = refl; plain = (refl, refl); fits = (refl, refl) },
  (
    refl,
    record { is = refl; plain = (refl, refl); fits = (refl, refl) },
    (
      refl,
      record { is = refl; plain = (refl, refl); fits = (refl, refl) },
      (
        refl,
        record { is = refl; plain = (refl, refl); fits = record { is_at = refl; uncounted = refl; plain = λ db. refl; free = λ olds news. (no_deed 22 olds news (length news == 0) refl).0; wide = λ id r. (same_columns id r).1 } },
        (refl, record { is = refl; plain = (refl, refl); fits = record { is_at = refl; uncounted = refl; plain = λ db. refl; free = λ olds news. (no_deed 24 olds news (length news == 0) refl).0; wide = λ id r. (same_columns id r).0 } }, refl),
      ),
    ),
  ),
)

seconds_mean : MeansAll (old_schema Second) SECONDS.now seconds
unfolding understood everything digits
seconds_mean = (
  refl,
  record { is = refl; plain = (refl, refl); fits = (refl, refl) },
  (refl, record { is = refl; plain = (refl, refl); fits = record { is_at = refl; uncounted = refl; plain = λ db. refl; free = λ olds news. (no_deed 0 olds news (length news == 0) refl).1; wide = λ id r. (same_columns id r).0 } }, refl),
)

taxes_last : last (old_schema First) taxes ≡ old_schema Second
unfolding digits
taxes_last = refl

seconds_last : last (old_schema Second) seconds ≡ our_schema
unfolding digits
seconds_last = refl

-- ---- what they leave

abbrev all_stay : Schema → List Statement → ℕ → Bool
all_stay schema [] x = true
all_stay schema (s ∷ ss) x = stays schema s x && all_stay (next schema s) ss x

stayed : (schema : Schema) (ss : List Statement) (old new : Trees) → Rewrite schema ss old new → (x : ℕ) → all_stay schema ss x ≡ true → new x ≡ old x
stayed schema [] old new same x stay = ap_at x same
  where
    ap_at : (x : ℕ) → new ≡ old → new x ≡ old x
    ap_at x e = subst (λ (d : Trees). d x ≡ old x) (sym e) refl
stayed schema (s ∷ ss) old new (mid, first, more) x stay = let both = and_parts _ _ stay in stayed (next schema s) ss mid new more x both.1 ∙ first.others x both.0

-- what holds of the tree of each table holds of each number that is one's
any_tree : (P : ℕ → Type 0) (ts : List Table) → AllByRecursion (λ t. P t.tree) ts → (x : ℕ) → list_any (λ t. t.tree == x) ts ≡ true → P x
any_tree P [] all x is = absurd (cc is)
any_tree P (t ∷ ts) all x is = go (t.tree == x) refl is (any_tree P ts all.1 x)
  where
    go : (b : Bool) → (t.tree == x) ≡ b → (b || list_any (λ t. t.tree == x) ts) ≡ true → (list_any (λ t. t.tree == x) ts ≡ true → P x) → P x
    go true e any more = subst P (eqb-true _ _ e) all.0
    go false e any more = more any

taxes_left : (old new : Trees) → Rewrite (old_schema First) taxes old new → HasTaxes old new
taxes_left old new h =
    let k = stayed (old_schema First) taxes old new h in
    let m1 = h.0 in
    let published = h.1 in
    let m2 = h.2.0 in
    let items = h.2.1 in
    let m3 = h.2.2.0 in
    let tallies = h.2.2.1 in
    let m4 = h.2.2.2.0 in
    let fill_items = h.2.2.2.1 in
    let m5 = h.2.2.2.2.0 in
    let fill_tallies = h.2.2.2.2.1 in
    let end : new ≡ m5 = h.2.2.2.2.2 in
    let at : (x : ℕ) → new x ≡ m5 x = λ x. subst (λ (d : Trees). d x ≡ m5 x) (sym end) refl in
    let no_item : m3 22 ≡ [] = tallies.others 22 refl ∙ items.now in
    let no_tally : m4 24 ≡ [] = fill_items.others 24 refl ∙ tallies.now in
    let from_items : m3 14 ≡ old 14 = tallies.others 14 refl ∙ items.others 14 refl ∙ published.others 14 refl in
    let from_tallies : m4 18 ≡ old 18 = fill_items.others 18 refl ∙ tallies.others 18 refl ∙ items.others 18 refl ∙ published.others 18 refl in
    record {
      published = at 20 ∙ fill_tallies.others 20 refl ∙ fill_items.others 20 refl ∙ tallies.others 20 refl ∙ items.others 20 refl ∙ published.now;
      items = subst₂ (AreMade item_tax_table untaxed_item) from_items (sym (at 22 ∙ fill_tallies.others 22 refl)) (fill_items.now no_item);
      tallies = subst₂ (AreMade tally_tax_table untaxed_tally) from_tallies (sym (at 24)) (fill_tallies.now no_tally);
      others = any_tree (λ x. new x ≡ old x) (old_tables First) (k 0 refl, (k 2 refl, (k 4 refl, (k 6 refl, (k 8 refl, (k 10 refl, (k 12 refl, (k 14 refl, (k 16 refl, (k 18 refl, tt))))))))));
    }

seconds_left : (old new : Trees) → Rewrite (old_schema Second) seconds old new → HasSeconds old new
seconds_left old new h =
    let k : (x : ℕ) → all_stay (old_schema Second) seconds x ≡ true → not (x == 0) ≡ true → new x ≡ old x = λ x stay apart. stayed (old_schema Second) seconds old new h x stay in
    let m1 = h.0 in
    let made = h.1 in
    let m2 = h.2.0 in
    let changed = h.2.1 in
    let end : new ≡ m2 = h.2.2 in
    let at : (x : ℕ) → new x ≡ m2 x = λ x. subst (λ (d : Trees). d x ≡ m2 x) (sym end) refl in
    let meta : m1 0 ≡ old 0 = made.others 0 refl in
    record {
      seconds = at 26 ∙ changed.others 26 refl ∙ made.now;
      meta = λ rising keyed. subst₂ (AreMade meta_table with_version) meta (sym (at 0)) (changed.now (subst IsTable (sym meta) rising, subst Keyed (sym meta) keyed));
      others = λ x is. let both = and_parts _ _ is in any_tree (λ x. not (x == 0) ≡ true → new x ≡ old x) (old_tables Second)
          (λ zero. absurd (cc zero), (k 2 refl, (k 4 refl, (k 6 refl, (k 8 refl, (k 10 refl, (k 12 refl, (k 14 refl, (k 16 refl, (k 18 refl, (k 20 refl, (k 22 refl, (k 24 refl, tt))))))))))))) x both.1 both.0;
    }

-- ---- the calls

goes_as : (schema after : Schema) (Left Made : Trees → Trees → Type 0) (old new : State) → schema ≡ after → ((o n : Trees) → Left o n → Made o n) → Goes schema Left old new → Goes after Made old new
goes_as schema after Left Made old new same turns goes =
    record { at = subst (λ s. At s new) same goes.at; made = turns _ _ goes.made; committed = goes.committed }

-- what a text ensures that means statements
added : {S : Type 0} (g : Ghosts S) (old new : Held S) (r : Result (Unit {0}) Error) → doubt (state g old).is_clean ≤ doubt (state g new).is_clean → (from after : Schema) (Made : Trees → Trees → Type 0) (text : List ℕ) (ss : List Statement)
    → MeansAll from text ss → last from ss ≡ after → ((o n : Trees) → Rewrite from ss o n → Made o n) → (HasCleanDisk (state g new) → ExecutesAll g text old new r) → IsAdded g from after Made old new r
unfolding ExecutesAll
added {S} g old new r clean from after Made text ss means same turns ran = record {
  spares = λ at. record { earlier = before; leaves = λ disk db may. (all_ran at disk).0.leaves disk db may };
  kept = λ at disk. (all_ran at disk).0.kept;
  added = on r (λ at disk. (all_ran at disk).1);
}
  where
    before : HasCleanDisk (state g new) → HasCleanDisk (state g old)
    before disk = omega (arith, clean, disk)

    all_ran : IsAt g from old → HasCleanDisk (state g new) → IsSafe g old new × OnOk r (Goes (last from ss) (Rewrite from ss) (state g old) (state g new))
    all_ran at disk = runs g ss from text means (length text) old new r (ran disk) (at (before disk))

    on : (r : Result (Unit {0}) Error) → (IsAt g from old → HasCleanDisk (state g new) → OnOk r (Goes (last from ss) (Rewrite from ss) (state g old) (state g new))) → OnOk r (IsAt g from old → HasCleanDisk (state g new) → Goes after Made (state g old) (state g new))
    on (Ok u) h = λ at disk. goes_as (last from ss) after (Rewrite from ss) Made (state g old) (state g new) same turns (h at disk)
    on (Err e) h = tt

module _ {S : Type 0} (g : Ghosts S) (old new : Held S) (r : Result (Unit {0}) Error) (clean : doubt (state g old).is_clean ≤ doubt (state g new).is_clean) where
  pub taxes_added : (HasCleanDisk (state g new) → ExecutesAll g TAXES.now old new r) → IsAdded g (old_schema First) (old_schema Second) HasTaxes old new r
  taxes_added = added g old new r clean (old_schema First) (old_schema Second) HasTaxes TAXES.now taxes taxes_mean taxes_last taxes_left

  pub seconds_added : (HasCleanDisk (state g new) → ExecutesAll g SECONDS.now old new r) → IsAdded g (old_schema Second) our_schema HasSeconds old new r
  seconds_added = added g old new r clean (old_schema Second) our_schema HasSeconds SECONDS.now seconds seconds_mean seconds_last seconds_left
