-- What DELETE, INSERT and UPDATE by a key make of a table, and what a value, or none, makes of the content.
use Rattle.bsp_store_base.proofs.Std.{[], ◌+◌, ◌∙◌, ◌∷◌, ◌≡◌, ap, ap₂, Bool, entries, eq_by_cmp, false, get, insert, is_some, List, map, None, Ok, OnErr, OnOk, Option, Ordering, range_with_len, refl, remove, Result, Some, subst, sym, true, ℕ}
use Rattle.bsp_store_base.specs.Sqlite.{Column, Error, Executes, Ghosts, Held, IsAscending, Null, Output, Row, State, Trees, col, eval_all, lit, reads_listing, rowid, state}
use Rattle.sqlite_trees.proofs.ListLemmas.{IsPermutation-same}
use Rattle.bsp_store_base.specs.Schema.{our_schema}
use Rattle.bsp_store_base.specs.Kept.{Keeps, HasContents, columns_of}
use Rattle.bsp_store_base.specs.Calls.{Changes, GivesUp}
use Rattle.bsp_store_base.specs.Content.{Content, form}
use Rattle.bsp_store_base.specs.Forms.{IsFormed}
use Rattle.bsp_store_base.specs.MapTables.{HasRun, IsMapTable, IsText, MapTable, after, by_keys, change, deletion, has, holds_row, insertion, key_project, key_test, lacks, part, selection, width, with_one, without}
use Rattle.bsp_store_base.specs.Shows.{ShowsTable}
use Rattle.bsp_store_base.proofs.Held.{writes}
use Rattle.bsp_store_base.proofs.Opening.{table_shown}
pub use Rattle.bsp_store_base.proofs.Opening.{command_is}
use Rattle.bsp_store_base.proofs.Parts.{wrote}
use Rattle.bsp_store_base.proofs.ReadingLemmas.{out}
use Rattle.bsp_store_base.proofs.Rising.{IsBefore, keys_of}
use Rattle.bsp_store_base.proofs.Syncing.{one_there, rows_added, remove_none, rows_changed, rows_removed}
use Rattle.bsp_store_base.proofs.Values.{cast_null}
use Rattle.bsp_store_base.proofs.Writes.{no_work}
use Rattle.bsp_store_base.proofs.Writing.{inserts, deletes, updates}

is_none : {V : Type 0} (o : Option V) → is_some o ≡ false → o ≡ None
is_none None e = refl
is_none (Some v) e = absurd (cc e)

some_there : {V : Type 0} (o : Option V) → is_some o ≡ true → (v : V) × (o ≡ Some v)
some_there None e = absurd (cc e)
some_there (Some v) e = (v, refl)

module _ {K V : Type 0} {R : K → K → Ordering} (t : MapTable K V R) (l : IsMapTable t) where
  -- ---- what each statement makes of the table

  module _ (old new : State) (count : ℕ) (now : Content) (keeps : Keeps form now old.now) (text : List ℕ) (k : K) where
    deleted : IsText text (deletion t) → Executes text (t.key_of k) old new (Ok count) → Keeps form (without t k now) new.now
    deleted is h =
        let it = deletes our_schema t.at t.table l.is_at l.uncounted l.plain_tree (width t) (no_work t.table.tree) text is.1 (t.key_of k) (key_test t.keys) (command_is _ _ is.0) t.row_of (λ (e : K × V). eq_by_cmp R k e.0) (l.tests k) l.again (l.same_key k) (l.wide Null)
        old new keeps.schema count h (entries (t.of now)) (l.here now old.now.trees keeps.kept) in
        wrote form old.now new.now t.table.tree now (without t k now) _ it.same it.kept it.others (l.moved now (remove (t.of now) k) _ (IsPermutation-same _ _ (rows_removed R l.total t.row_of l.exact (t.of now) k))) keeps

    inserted : IsText text (insertion t) → (v : V) → lacks t k now → Executes text (t.row_of (k, v)) old new (Ok count) → Keeps form (with_one t k v now) new.now
    inserted is v none h =
        let row = t.row_of (k, v) in
        let it = inserts our_schema t.at t.table l.is_at l.uncounted l.plain_tree (width t) (no_work t.table.tree) text is.1 row (lit Null ∷ map (col 0) (range_with_len 0 (width t))) (width t + 1) (command_is _ _ is.0) (Null ∷ row) row (l.sourced (k, v)) (ap₂ ◌∷◌ cast_null (l.casts (k, v))) (λ id. l.wide id (k, v))
        old new keeps.schema count h (map t.row_of (entries (t.of now))) (l.here now old.now.trees keeps.kept) in
        wrote form old.now new.now t.table.tree now (with_one t k v now) _ it.same it.kept it.others (l.moved now (insert (t.of now) k v) _ (rows_added R l.total t.row_of (t.of now) k v none)) keeps

    replaced : IsText text (change t) → (v : V) → has t k now → Executes text (t.row_of (k, v)) old new (Ok count) → Keeps form (with_one t k v now) new.now
    replaced is v has h =
        let row = t.row_of (k, v) in
        let was = some_there (get (t.of now) k) has in
        let it = updates our_schema t.at t.table l.is_at l.uncounted l.plain_tree (width t) (no_work t.table.tree) text is.1 row (key_test t.keys) (key_project t.keys (width t)) (command_is _ _ is.0) t.row_of (λ (e : K × V). eq_by_cmp R k e.0)
        (λ r. l.given (k, v) r ∙ l.tests k r ∙ sym (l.given (k, v) (Null ∷ columns_of (width t) r))) l.again (λ e. l.given (k, v) (Null ∷ t.row_of e) ∙ l.same_key k e) (l.wide Null)
        (k, was.0) row (λ r same. l.reads (k, v) r ∙ ap (λ cs. eval_all (key_project t.keys (width t)) (row ∷ (rowid r ∷ cs) ∷ [])) same ∙ l.made k was.0 v (rowid r)) (l.casts (k, v)) (λ id. l.wide id (k, v))
        old new keeps.schema count h (entries (t.of now)) (one_there R l.total l.exact (t.of now) k was.0 was.1) (l.here now old.now.trees keeps.kept) in
        wrote form old.now new.now t.table.tree now (with_one t k v now) _ it.same it.kept it.others (l.moved now (insert (t.of now) k v) _ (rows_changed R l.total l.exact t.row_of (t.of now) k v)) keeps

  -- ---- a value, or none, where it is known whether a row is there

  module _ {S : Type 0} (g : Ghosts S) (old new : Held S) (k : K) (there : Bool) (value : Option V) where
    abbrev Puts : Result ℕ Error → Type 0
    Puts r = OnOk r (Changes g old new (holds_row t k there) (after t k value)) × OnErr r (GivesUp g old new)

    module _ {text : List ℕ} {r : Result ℕ Error} where
      pub takes_out : value ≡ None → IsText text (deletion t) → HasRun g text (t.key_of k) old new r → Puts r
      takes_out none is ran =
          writes form g old new text (t.key_of k) (deletion t) (command_is _ _ is.0) is.1 (λ e. cc) (λ name e. cc) (λ o n count w. w) r ran.survives ran.runs (holds_row t k there) (after t k value)
          (λ now count met keeps h. subst (λ o. Keeps form (after t k o now) (state g new).now) (sym none) (deleted (state g old) (state g new) count now keeps text k is h))

      module _ {v : V} (some : value ≡ Some v) where
        pub puts_in : there ≡ false → IsText text (insertion t) → HasRun g text (t.row_of (k, v)) old new r → Puts r
        puts_in absent is ran =
            writes form g old new text (t.row_of (k, v)) (insertion t) (command_is _ _ is.0) is.1 (λ e. cc) (λ name e. cc) (λ o n count w. w) r ran.survives ran.runs (holds_row t k there) (after t k value)
            (λ now count met keeps h. subst (λ o. Keeps form (after t k o now) (state g new).now) (sym some) (inserted (state g old) (state g new) count now keeps text k is v (is_none _ (met ∙ absent)) h))

        pub puts_over : there ≡ true → IsText text (change t) → HasRun g text (t.row_of (k, v)) old new r → Puts r
        puts_over present is ran =
            writes form g old new text (t.row_of (k, v)) (change t) (command_is _ _ is.0) is.1 (λ e. cc) (λ name e. cc) (λ o n count w. w) r ran.survives ran.runs (holds_row t k there) (after t k value)
            (λ now count met keeps h. subst (λ o. Keeps form (after t k o now) (state g new).now) (sym some) (replaced (state g old) (state g new) count now keeps text k is v (met ∙ present) h))

  pub leaves_none : {S : Type 0} (g : Ghosts S) (old : Held S) (k : K) (there : Bool) (value : Option V) → there ≡ false → value ≡ None → Changes g old old (holds_row t k there) (after t k value)
  leaves_none g old k there value absent is now last a b met stands inside =
      let none : get (t.of now) k ≡ None = is_none _ (met ∙ absent) in
      let same : after t k value now ≡ now = ap (λ o. after t k o now) is ∙ ap (λ m. t.with m now) (remove_none R l.total l.exact (t.of now) k none) ∙ l.same now in
      (subst (λ c. HasContents form g old c last a b) (sym same) stands, inside)

  -- ---- all rows

  abbrev seen : Trees → Row → Output
  seen trees r = out t.table.tree [] (map (col 1) (range_with_len 1 (width t))) (by_keys t) trees [] r

  pub shows_all : ((trees : Trees) (r : Row) → (seen trees r).1 ≡ columns_of (width t) r) → ((trees : Trees) (r : Row) → (seen trees r).0 ≡ keys_of (by_keys t) (columns_of (width t) r))
      → ((c : Content) → IsFormed c → IsAscending (IsBefore (by_keys t)) ((part t).rows c)) → (text : List ℕ) → IsText text (selection t) → reads_listing our_schema text ≡ false → ShowsTable (part t) text
  shows_all lists sees rise text is unlisted =
      table_shown (part t) text (map (λ (c : Column). c.name) t.table.columns) (by_keys t) (command_is _ _ is.0) is.1 unlisted l.plain_tree lists sees rise (λ c trees kept. (l.here c trees kept).rows)
