-- What a query for all rows of `meta` shows of the tables of an earlier version.
use Rattle.bsp_store_base.proofs.Std.{[], ◌∙◌, ◌∷◌, ◌≡◌, ap, arith, Err, false, inl, inr, IsPermutation, IsPermutation-trans, length, List, map, Ok, range_with_len, refl, Result, subst, sym, ℕ}
use Rattle.bsp_store_base.specs.Sqlite.{col, CommitsShowing, Compiled, CompileError, everything, Ghosts, HasCleanDisk, Held, Null, Query, reads_listing, Row, Select, Shown, state, State, Survives, Trees, understood}
use Rattle.sqlite.proofs.Callers.{IsPlain, command_of, never_commits, one_permutation, reads_as}
use Rattle.bsp_book.specs.Rows.{Rows}
use Rattle.bsp_store_base.proofs.Base.{columns_of, Content, IsQuery, Meta, meta_part, meta_row, meta_rows, meta_table, our_schema, ShowsTable, simple, Spares, table_shown, unchanged_by, width_of}
use Rattle.bsp_store_rows.proofs.MetaTable.{all_is, all_text, names}
use Rattle.bsp_store_rows.proofs.Orders.{meta_rise}
use Rattle.bsp_store_load.specs.Contents.{IsContentOf}
use Rattle.bsp_store_open.specs.Filled.{KeepsOldRows, with_number}
use Rattle.bsp_store_open.specs.Old.{old_number, old_schema}
use Rattle.bsp_store_open.specs.declared.old_versions.OldVersion.{OldVersion}
use Rattle.bsp_store_open.specs.declared.old_versions.OldVersion.TheVariants.{First, Second}
use Rattle.bsp_store_open.specs.declared.fault.OpenFault.{OpenFault}
use Rattle.bsp_store_open.specs.Migrating.{AreMetaOf, HasNoOldBook, HasNumber, IsNumbered}
use Rattle.bsp_store_open.specs.Opening.{Reports}

-- ---- the text

-- it means the same under the schema of each earlier version
old_is : (version : OldVersion)
    → (command_of (understood (old_schema version) all_text) ≡ Select (record { lets = []; body = simple meta_table.tree [] (map (col 1) (range_with_len 1 4)) [] }) names)
    × IsPlain (understood (old_schema version) all_text) × (reads_listing (old_schema version) all_text ≡ false)
unfolding understood everything
old_is First = (refl, (refl, refl), refl)
old_is Second = (refl, (refl, refl), refl)

command_is : (r : Result Compiled CompileError) (query : Query) (columns : List (List ℕ)) → IsQuery r query columns → command_of r ≡ Select (record { lets = []; body = query }) columns
command_is (Ok c) query columns is = is
command_is (Err e) query columns is = absurd is

shows_meta : ShowsTable meta_part all_text
shows_meta = table_shown meta_part all_text names [] all_is.0 all_is.1 all_is.2 (λ db. refl) (λ trees r. refl) (λ trees r. refl) meta_rise (λ content trees kept. kept.0.rows)

meta_of : (version : OldVersion) (old new : State) → old.now.schema ≡ old_schema version → (rows : List Row) → Shown all_text [] old new rows → AreMetaOf old.now.trees rows
meta_of version old new has rows shown =
    let same = old_is version in
    let shows = shows_meta in
    let is = same.0 ∙ sym all_is.0 ∙ command_is (understood our_schema all_text) shows.query shows.names shows.is in
    (shows.all old.now.trees rows ((reads_as all_text [] old new (old_schema version) has _ is same.1 same.2 rows shown).answer Null)).in_any_order

-- ---- the number

-- rows of `meta` that are those of a book of an earlier version have its number
pub has_number : (version : OldVersion) (trees : Trees) (rows : Rows) (c : Content) → IsContentOf rows c → KeepsOldRows version c trees → (found : List Row) → AreMetaOf trees found → HasNumber (old_number version) found
has_number version trees rows c content keeps found are =
    let m : Meta = record { day = rows.published.day; closed = length rows.published.closed } in
    let row : Row = with_number (old_number version) (meta_row m) in
    let is : map (with_number (old_number version)) (meta_rows c.meta) ≡ row ∷ [] = ap (λ (d : Content). map (with_number (old_number version)) (meta_rows d.meta)) content.same in
    let one : IsPermutation (row ∷ []) found = IsPermutation-trans _ _ _ (subst (λ l. IsPermutation l (map (columns_of (width_of meta_part.tree)) (trees meta_part.tree))) is keeps.0.rows) are in
    record { row = row; more = []; first = one_permutation row found one; version = refl }

-- ---- the call

module _ {S : Type 0} (g : Ghosts S) (old new : Held S) (kept : Survives (state g old) (state g new) (CommitsShowing all_text [] (state g old))) (version : OldVersion) (has : old.schema ≡ old_schema version) where
  plain : IsPlain (understood old.schema all_text)
  plain = subst (λ s. IsPlain (understood s all_text)) (sym has) (old_is version).1

  pub meta_spares : Spares g old new
  meta_spares = record {
    earlier = λ clean. omega (arith, kept.clean);
    leaves = λ clean db may. elim (kept.crash clean db may) [ inl before ↦ before | inr made ↦ absurd (never_commits all_text [] (state g old) db plain made) ];
  }

  module _ (rows : List Row) (shown : HasCleanDisk (state g new) → Shown all_text [] (state g old) (state g new) rows) where
    all_meta : HasCleanDisk (state g new) → AreMetaOf (state g old).now.trees rows
    all_meta clean = meta_of version (state g old) (state g new) has rows (shown clean)

    pub numbered : HasNumber (old_number version) rows → IsNumbered g version old new
    numbered is =
        let same = λ (clean : HasCleanDisk (state g new)). unchanged_by all_text [] (state g old) (state g new) rows plain (shown clean) in
        record {
          read = record { earlier = λ clean. omega (arith, kept.clean); same = λ clean. (same clean).0.now_is; is_open = λ clean. (same clean).0.is_open };
          was_open = λ clean. (same clean).0.was_open;
          number = λ clean. record { row = is.row; more = is.more; shown = subst (AreMetaOf (state g old).now.trees) is.first (all_meta clean); number = is.version };
        }

    pub not_numbered : (fault : OpenFault) → ¬ HasNumber (old_number version) rows → Reports fault rows → HasNoOldBook g version fault old new
    not_numbered fault none reports clean = record {
      none = λ book c sound content formed of keeps. none (has_number version (state g old).now.trees book c content keeps rows (all_meta clean));
      meta = rows;
      all = all_meta clean;
      reports = reports;
    }
