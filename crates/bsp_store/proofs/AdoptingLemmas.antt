-- From a book in memory that was read to the book that is opened.
use Rattle.bsp_store_base.proofs.Std.{◌≡◌, arith, Err, IfErr, IfOk, inl, inr, MatchResult, None, Ok, Result, subst, sym}
use Rattle.bsp_store_base.proofs.Sqlite.{Ghosts, HasCleanDisk, Held, IsQuiet, state, Survives, Trees}
use Rattle.bsp_store_base.proofs.Entries.{no_rows, Rows, Sound}
use Rattle.bsp_book.specs.Listed.{Holds as ListHolds}
use Rattle.bsp_book.specs.declared.list.ListBook.{ListBook}
use Rattle.bsp_store_open.specs.Contents.{KeepsBook}
use Rattle.bsp_store_open.specs.Formed.{AreFormed, IsBook}
use Rattle.bsp_store_open.specs.Opening.{IsRead, KeepsAtRest, KeepsOnly, LeavesCommitted, LeavesEmptyBook}
use Rattle.bsp_store_open.proofs.OpeningLemmas.{still_clean}
use Rattle.bsp_store_save.specs.Making.{IsNewBook}
use Rattle.bsp_store_save.proofs.MakingLemmas.{new_trees}
use Rattle.bsp_store.specs.Meanings.{Holds, SqlBook}
use Rattle.bsp_store_open.specs.Migrating.{IsMigrated, KeepsOldBook, KeepsOnlyOld, LeavesMigration}
use Rattle.bsp_store_open.specs.declared.old_versions.OldVersion.{OldVersion}
use Rattle.bsp_store.specs.declared.book.State.TheVariants.{Works}
use Rattle.bsp_store.specs.Adopting.{IsFoundIn, IsMigratedIn, IsReadIn, LeavesMigrated}

-- a book in memory that was read, and the connection over its tables
module _ {S : Type 0} (g : Ghosts S) (new : Held S) (list : ListBook) (rows : Rows) (listed : ListHolds list rows None) (formed : AreFormed rows) (kept : KeepsAtRest g new rows) (book : SqlBook S)
    (made : (book.list ≡ list) × (book.conn ≡ new) × (book.state ≡ Works)) where
  holds_those : Holds g book rows None
  holds_those = record {
    works = made.2;
    listed = subst (λ l. ListHolds l rows None) (sym made.0) listed;
    formed = formed;
    was_formed = formed;
    kept = subst (λ h. KeepsAtRest g h rows) (sym made.1) kept;
  }

  read_those : (keeps only : Rows → Trees → Type 0) (old : Held S) → Sound rows → (HasCleanDisk (state g new) → HasCleanDisk (state g old)) → (HasCleanDisk (state g new) → keeps rows (state g old).now.trees)
      → (HasCleanDisk (state g new) → only rows (state g old).now.trees) → IsReadIn g keeps only old book
  read_those keeps only old sound earlier found alone =
      let late : HasCleanDisk (state g book.conn) → HasCleanDisk (state g new) = λ clean. subst (λ h. HasCleanDisk (state g h)) made.1 clean in
      record { rows = rows; sound = sound; holds = holds_those; earlier = λ clean. earlier (late clean); found = λ clean. found (late clean); only = λ clean. alone (late clean) }

module _ {S : Type 0} (g : Ghosts S) (old new : Held S) (list : ListBook) (rows : Rows) (book : SqlBook S) (made : (book.list ≡ list) × (book.conn ≡ new) × (book.state ≡ Works)) where
  pub book_read : IsRead g old new list rows → Holds g book rows None
  book_read read = holds_those g new list rows read.listed read.formed read.kept book made

  pub book_found : IsRead g old new list rows → IsFoundIn g old book
  book_found read = read_those g new list rows read.listed read.formed read.kept book made KeepsBook KeepsOnly old read.sound read.earlier read.found read.only

  -- the same of tables of an earlier version, which were brought to this one
  pub book_migrated : (version : OldVersion) → IsMigrated g version old new list rows → IsMigratedIn g version old book
  book_migrated version read = read_those g new list rows read.listed read.formed read.kept book made (KeepsOldBook version) (KeepsOnlyOld version) old read.sound read.earlier read.found read.only

-- a migration that was given up
pub migration_given_up : {S : Type 0} (g : Ghosts S) (version : OldVersion) (old new : Held S) → LeavesMigration g version old new → (left : S) → IsQuiet g.view g.faults g.recovers g.is_shielded new.store left
    → LeavesMigrated g version old left
migration_given_up g version old new stop left quiet = record {
  earlier = λ clean. stop.earlier (still_clean g new left quiet clean);
  leaves = λ clean db may. stop.leaves (still_clean g new left quiet clean) db (quiet.outcomes db may);
}

-- ---- a book that is made in a store without tables

module _ {S : Type 0} (g : Ghosts S) (old new : Held S) (stop : Survives (state g old) (state g new) (IsBook no_rows)) where
  -- the tables were made, and the store was then given up
  pub made_left : {X E : Type 0} → (HasCleanDisk (state g new) → IsNewBook (state g new).committed) → (r : Result X (E × S)) → IfErr r (λ e. LeavesCommitted g new e.1) → IfErr r (λ e. LeavesEmptyBook g old e.1)
  made_left made (Ok x) left = tt
  made_left made (Err e) left = record {
    earlier = λ clean. omega (arith, stop.clean, left.earlier clean);
    leaves = λ clean db may. elim (left.leaves clean db may) [
      | inl is ↦ inr (subst (IsBook no_rows) (sym is) (new_trees _ (made (left.earlier clean))))
      | inr was ↦ stop.crash (left.earlier clean) db was
    ];
  }

  -- they were not made
  pub making_given_up : (left : S) → IsQuiet g.view g.faults g.recovers g.is_shielded new.store left → LeavesEmptyBook g old left
  making_given_up left quiet = record {
    earlier = λ clean. omega (arith, stop.clean, still_clean g new left quiet clean);
    leaves = λ clean db may. stop.crash (still_clean g new left quiet clean) db (quiet.outcomes db may);
  }

-- ---- without the store that comes with a fault

pub ok_without : {X F S : Type 0} (r : Result X (F × S)) (out : Result X F) → MatchResult r (λ x. out ≡ Ok x) (λ e. out ≡ Err e.0) → (P Q : X → Type 0) → IfOk r P → ((x : X) → P x → Q x) → IfOk out Q
ok_without (Ok x) out is P Q it so = subst (λ o. IfOk o Q) (sym is) (so x it)
ok_without (Err e) out is P Q it so = subst (λ o. IfOk o Q) (sym is) tt

pub err_without : {X F S : Type 0} (r : Result X (F × S)) (out : Result X F) → MatchResult r (λ x. out ≡ Ok x) (λ e. out ≡ Err e.0) → (P Q : F × S → Type 0) (R : F → Type 0) → IfErr r P → IfErr r Q → ((e : F × S) → P e → Q e → R e.0) → IfErr out R
err_without (Ok x) out is P Q R one two so = subst (λ o. IfErr o R) (sym is) tt
err_without (Err e) out is P Q R one two so = subst (λ o. IfErr o R) (sym is) (so e one two)
