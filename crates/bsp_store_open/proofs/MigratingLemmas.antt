-- A whole migration, from its steps: the ends of the transaction, the tables that were filled and read, and the commit.
use Rattle.std.proofs.Common.{◌≡◌, ◌∙◌, ℕ, [], codes, inl, inr, Ok, Option, Some, None, sym, ap, arith, subst, ◌∷◌, IsTrue, pos, true, refl}
use Rattle.bsp_store_base.specs.Sqlite.{column, Command, Commit, CommitsBy, Database, Does, Executes, Ghosts, HasCleanDisk, Held, Int, IsDatabase, MayCommit, mode_of, Returning, Row, state, State, Survives, Tally, text_of, timed, Trees}
use Rattle.sqlite.proofs.Callers.{command_of}
use Rattle.bsp_store_base.proofs.Base.{AreTreesOf, begin_commits_nothing, begins, commits, Content, count, ends_any, form, KeepsRows, KeepsSound, our_schema, Spares}
use Rattle.bsp_store_open.specs.Migrating.{HasBegun, HasEnded, MayEnd, IsFilledWith, KeepsNoOld, KeepsOnlyOld, HasNoOldBook, IsMigrated, IsNumbered, IsOld, KeepsOldBook, LeavesMigration}
use Rattle.bsp_store_base.proofs.Entries.{Rows, Sound}
use Rattle.bsp_store_load.specs.Contents.{IsContentOf, content_now}
use Rattle.bsp_store_load.specs.MemoryRowsTables.{rows_of}
use Rattle.bsp_store_load.specs.Tables.{Tables}
use Rattle.bsp_store_load.proofs.FormedContent.{formed_content}
use Rattle.bsp_store_open.specs.Filled.{Fills, HasOldNumber, IsTied, AreInOldOrder, IsBegun, KeepsOldRows}
use Rattle.bsp_store_open.specs.declared.old_versions.OldVersion.{OldVersion}
use Rattle.bsp_store_open.specs.Loaded.{IsAllLoaded, KeepsNone}
use Rattle.bsp_store_open.specs.Opening.{Finds, AreOrdered, IsOfOther, KeepsAtRest, Reports, is_known}
use Rattle.bsp_store_open.proofs.OpeningLemmas.{keeps_all}
use Rattle.std.proofs.lemmas.Bool.{true≢false}
use Rattle.bsp_book.specs.Listed.{Holds as ListHolds}
use Rattle.bsp_book.specs.declared.list.ListBook.{ListBook}
use Rattle.bsp_store_load.specs.Formed.{AreFormed, IsBook}
use Rattle.bsp_store_load.proofs.Held.{trees_of}
use Rattle.bsp_store_open.specs.Old.{old_number}
use Rattle.bsp_store_open.specs.declared.old_versions.OldVersion.TheVariants.{First, Second}
use Rattle.bsp_store_open.specs.declared.fault.OpenFault.{OpenFault}
use Rattle.bsp_store_open.specs.declared.fault.OpenFault.TheVariants.{Damaged}

-- COMMIT commits what the transaction sees, or nothing
commit_commits : (s : State) (db : Trees) → CommitsBy (codes "COMMIT") [] s db → db ≡ s.now.trees
unfolding CommitsBy
commit_commits s db (c, it, may) = go may
  where
    known : c.command ≡ Commit
    known = ap command_of (sym it.is) ∙ (ends_any s.now.schema).1.0

    does : (k : Command) (o : Option Returning) (out : Tally × Database) → k ≡ Commit → Does s.step_limit (mode_of s) (timed [] c.formats it.now) s.now (text_of (codes "COMMIT") c) o k (Ok out) → ⊥
    does k None out is h = let no = rw is at h in absurd (cc)
    does k (Some what) out is h = let no = rw is at h in absurd (cc)

    go : MayCommit s c.returning c.command (text_of (codes "COMMIT") c) (timed [] c.formats it.now) db → db ≡ s.now.trees
    go (inl commit) = commit.1
    go (inr (outside, tally, after, made, sound, same, frozen)) = absurd (does c.command c.returning (tally, after) known made)

module _ {S : Type 0} (g : Ghosts S) (old new : Held S) where
  pub begin_spares : Survives (state g old) (state g new) (CommitsBy (codes "BEGIN") [] (state g old)) → Spares g old new
  begin_spares kept = record {
    earlier = λ clean. omega (arith, kept.clean);
    leaves = λ clean db may. elim (kept.crash clean db may) [ inl before ↦ before | inr made ↦ absurd (begin_commits_nothing (state g old) db made) ];
  }

  pub has_begun : (count : ℕ) → Survives (state g old) (state g new) (CommitsBy (codes "BEGIN") [] (state g old)) → (HasCleanDisk (state g new) → Executes (codes "BEGIN") [] (state g old) (state g new) (Ok count)) → HasBegun g old new
  has_begun count kept ran = record { earlier = λ clean. omega (arith, kept.clean); shown = λ clean. begins (state g old) (state g new) count (ran clean) }

  pub may_end : Survives (state g old) (state g new) (CommitsBy (codes "COMMIT") [] (state g old)) → MayEnd g old new
  may_end kept = record {
    earlier = λ clean. omega (arith, kept.clean);
    leaves = λ clean db may. elim (kept.crash clean db may) [ inl before ↦ inl before | inr made ↦ inr (commit_commits (state g old) db made) ];
  }

  pub has_ended : (count : ℕ) → Survives (state g old) (state g new) (CommitsBy (codes "COMMIT") [] (state g old)) → (HasCleanDisk (state g new) → Executes (codes "COMMIT") [] (state g old) (state g new) (Ok count)) → HasEnded g old new
  has_ended count kept ran = record { earlier = λ clean. omega (arith, kept.clean); shown = λ clean. commits (state g old) (state g new) count (ran clean) }

-- ---- the transaction

-- the content of rows has the same items and tallies in each of its tables
tied : (rows : Rows) (c : Content) → IsContentOf rows c → IsTied c
tied rows c content = record {
  items = ap (λ (d : Content). d.item_taxes) content.same ∙ sym (ap (λ (d : Content). d.items) content.same);
  tallies = ap (λ (d : Content). d.tally_taxes) content.same;
}

module _ {S : Type 0} (g : Ghosts S) (version : OldVersion) (old mid new : Held S) (begun : Spares g old mid) (read : Spares g mid new) (fills : HasCleanDisk (state g mid) → Fills version (state g old) (state g mid)) where
  pub filled_with : (number : HasCleanDisk (state g old) → HasOldNumber version (state g old).now.trees) (tables : Tables) → Finds g mid new (λ trees. IsAllLoaded trees tables) → IsFilledWith g version old new (content_now tables)
  filled_with number tables finds =
      let c : Content = content_now tables in
      let at = λ (clean : HasCleanDisk (state g new)). fills (read.earlier clean) in
      let keeps = λ (clean : HasCleanDisk (state g new)). keeps_all c (state g mid).now.trees (at clean).filled.ordered (finds.found clean).rows in
      record {
        earlier = λ clean. begun.earlier (read.earlier clean);
        listed = λ clean. subst IsDatabase (sym (finds.read.same clean)) (at clean).sound;
        schema = λ clean. ap (λ (d : Database). d.schema) (finds.read.same clean) ∙ (at clean).schema;
        keeps = λ clean. subst (λ (d : Database). KeepsRows form c d.trees) (sym (finds.read.same clean)) (keeps clean);
        of = λ clean. (at clean).filled.untaxed c (keeps clean);
        kept = λ clean. (at clean).filled.back c (keeps clean) (number (begun.earlier (read.earlier clean)));
      }

  -- rows that the old tables kept were filled, and what was read is all that the filled tables keep
  pub only_old : (tables : Tables) → Finds g mid new (λ trees. IsAllLoaded trees tables) → HasCleanDisk (state g new) → KeepsOnlyOld version (rows_of tables) (state g old).now.trees
  only_old tables finds clean other sound formed kept =
      let c = kept.0 in
      let keeps = (fills (read.earlier clean)).filled.forward c (tied other c kept.1) kept.2 kept.3 in
      sym ((finds.found clean).only other c sound kept.1 (formed_content other c formed kept.1) keeps)

  pub no_old : (HasCleanDisk (state g new) → (state g mid).now.schema ≡ our_schema → KeepsNone (state g mid).now.trees) → HasCleanDisk (state g new) → KeepsNoOld version (state g old).now.trees
  no_old none clean rows c sound content formed of keeps =
      let at = fills (read.earlier clean) in
      none clean at.schema rows c sound content formed (at.filled.forward c (tied rows c content) of keeps)

module _ {S : Type 0} (g : Ghosts S) where
  -- what leaves to a stop no more than there was
  pub spared : (version : OldVersion) (old new : Held S) → Spares g old new → LeavesMigration g version old new
  spared version old new spares = record { earlier = spares.earlier; leaves = λ clean db may. inl (spares.leaves clean db may) }

-- the number of an earlier version is known
old_known : (version : OldVersion) → is_known (pos (old_number version)) ≡ true
old_known First = refl
old_known Second = refl

-- so it is not another one
not_other : (version : OldVersion) (trees : Trees) (number : HasOldNumber version trees) → IsOfOther (number.row ∷ number.more) → ⊥
not_other version trees number other =
    let rows_are : number.row ∷ number.more ≡ other.row ∷ other.more = other.first in
    let same : number.row ≡ other.row = cc rows_are in
    let value : Int other.found ≡ count (old_number version) = sym other.has ∙ ap (λ (r : Row). column r 1) (sym same) ∙ number.number in
    let found : other.found ≡ pos (old_number version) = cc value in
    true≢false (sym (ap is_known found ∙ old_known version) ∙ other.other)

module _ {S : Type 0} (g : Ghosts S) (version : OldVersion) (zero one two : Held S) (old : IsOld g version zero) (numbered : IsNumbered g version zero one) (asked : Spares g zero one) (begun : HasBegun g one two) (began : Spares g one two) where
  same : HasCleanDisk (state g two) → (state g two).now ≡ (state g zero).now
  same clean = (begun.shown clean).now_is ∙ numbered.read.same (begun.earlier clean)

  still : HasCleanDisk (state g two) → HasCleanDisk (state g zero)
  still clean = asked.earlier (began.earlier clean)

  was_open : HasCleanDisk (state g two) → IsTrue (state g zero).is_open
  was_open clean = numbered.was_open (begun.earlier clean)

  -- the transaction is open over the tables of the version
  pub is_begun : IsBegun g version two
  is_begun clean =
      let in_order : AreInOldOrder version (state g zero).now.trees = subst (λ s. AreOrdered (record { schema = s; trees = (state g zero).now.trees })) old.schema (old.ordered (still clean)) in
      record {
        schema = ap (λ (d : Database). d.schema) (same clean) ∙ old.schema;
        inside = (begun.shown clean).mode;
        is_open = (begun.shown clean).is_open;
        sound = subst IsDatabase (sym (same clean)) (old.live (was_open clean)).0;
        ordered = subst (λ (d : Database). AreInOldOrder version d.trees) (sym (same clean)) in_order;
      }

  pub has_number : HasCleanDisk (state g two) → HasOldNumber version (state g two).now.trees
  has_number clean = subst (λ (d : Database). HasOldNumber version d.trees) (sym (same clean)) (numbered.number (begun.earlier clean))

  -- the rows are not those of a sound book
  pub damaged : (three : Held S) → Spares g two three → (fault : OpenFault) → (fault ≡ Damaged) × (HasCleanDisk (state g three) → KeepsNoOld version (state g two).now.trees) → HasNoOldBook g version fault zero three
  damaged three spares fault none clean =
      let before = spares.earlier clean in
      let number = numbered.number (begun.earlier before) in
      record {
        none = subst (λ (d : Database). KeepsNoOld version d.trees) (same before) (none.1 clean);
        meta = number.row ∷ number.more;
        all = number.shown;
        reports = subst (λ f. Reports f (number.row ∷ number.more)) (sym none.0) (not_other version (state g zero).now.trees number);
      }

  module _ (three four : Held S) (c : Content) (filled : IsFilledWith g version two three c) (filling : Spares g two three) (rows : Rows) (content : IsContentOf rows c) (sound : Sound rows) (formed : AreFormed rows) where
    kept_before : HasCleanDisk (state g three) → KeepsOldBook version rows (state g zero).now.trees
    kept_before clean = (c, content, filled.of clean, subst (λ (d : Database). KeepsOldRows version c d.trees) (same (filled.earlier clean)) (filled.kept clean))

    lists_ours : HasCleanDisk (state g three) → IsDatabase (record { schema = our_schema; trees = (state g three).now.trees })
    lists_ours clean = subst (λ s. IsDatabase (record { schema = s; trees = (state g three).now.trees })) (filled.schema clean) (filled.listed clean)

    made_book : HasCleanDisk (state g three) → IsBook rows (state g three).now.trees
    made_book clean = record { formed = formed; keeps = (c, content, filled.keeps clean); sound = lists_ours clean }

    only_before : (HasCleanDisk (state g three) → KeepsOnlyOld version rows (state g two).now.trees) → HasCleanDisk (state g three) → KeepsOnlyOld version rows (state g zero).now.trees
    only_before only clean = subst (λ (d : Database). KeepsOnlyOld version rows d.trees) (same (filled.earlier clean)) (only clean)

    -- a stop leaves what there was, or the whole of the new book
    pub stopped : (HasCleanDisk (state g three) → KeepsOnlyOld version rows (state g two).now.trees) → MayEnd g three four → LeavesMigration g version zero four
    stopped only end = record {
      earlier = λ clean. still (filling.earlier (end.earlier clean));
      leaves = λ clean db may. elim (end.leaves clean db may) [
        | inl before ↦ inl (asked.leaves (began.earlier (filling.earlier (end.earlier clean))) db (began.leaves (filling.earlier (end.earlier clean)) db (filling.leaves (end.earlier clean) db before)))
        | inr made ↦ inr (rows, sound, kept_before (end.earlier clean), only_before only (end.earlier clean), subst (IsBook rows) (sym made) (made_book (end.earlier clean)))
      ];
    }

    module _ (ended : HasEnded g three four) (only : HasCleanDisk (state g three) → KeepsOnlyOld version rows (state g two).now.trees) (settled : (db : Trees) → IsTrue (state g four).is_open → (state g four).may_leave db → db ≡ (state g four).committed.trees) where
      keeps_now : HasCleanDisk (state g four) → KeepsSound form c (state g three).now
      keeps_now clean = (record { schema = filled.schema (ended.earlier clean); kept = filled.keeps (ended.earlier clean) }, filled.listed (ended.earlier clean))

      at_rest : KeepsAtRest g four rows
      at_rest = (
        c,
        content,
        (
          record {
            held = λ clean is. subst (KeepsSound form c) (sym (ended.shown clean).now_is) (keeps_now clean);
            kept = λ clean is. subst (KeepsSound form c) (sym (ended.shown clean).committed_is) (keeps_now clean);
            leaves = λ clean db may. inl (subst (AreTreesOf form c) (sym (settled db (ended.shown clean).is_open may ∙ ap (λ (d : Database). d.trees) (ended.shown clean).committed_is)) (trees_of form c (state g three).now (keeps_now clean)));
          },
          λ clean. (ended.shown clean).mode,
        ),
      )

      pub migrated : (list : ListBook) → ListHolds list rows None → IsMigrated g version zero four list rows
      migrated list holds = record {
        listed = holds;
        sound = sound;
        formed = formed;
        kept = at_rest;
        earlier = λ clean. still (filling.earlier (ended.earlier clean));
        found = λ clean. kept_before (ended.earlier clean);
        only = λ clean. only_before only (ended.earlier clean);
      }
