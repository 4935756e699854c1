-- A whole opening, from what a store that was opened again was made of.
use Rattle.std.proofs.Common.{◌≡◌, false, true, Result, Ok, Err, IfOk, inl, inr, refl, sym, subst, ◌∙◌}
use Rattle.std.specs.Prelude.{IfErr, None}
use Rattle.bsp_store_base.proofs.Sqlite.{Ghosts, HasCleanDisk, Held, IsClean, state, Trees}
use Rattle.bsp_store_base.proofs.Entries.{no_rows, no_rows_sound}
use Rattle.bsp_store_open.specs.Contents.{KeepsBook}
use Rattle.bsp_store_open.specs.Faults.{is_refusal}
use Rattle.bsp_store_open.specs.Opening.{IsOrdered, KeepsOnly, LeavesCommitted, LeavesEmptyBook, Reopens, SparesStore}
use Rattle.bsp_store_open.specs.Schema.{no_schema}
use Rattle.bsp_store_open.specs.declared.fault.OpenFault.{OpenFault}
use Rattle.bsp_store_open.proofs.OpeningLemmas.{IsSettled, left_committed, was_committed}
use Rattle.bsp_store_open.specs.Migrating.{IsMigrationOf, KeepsOldBook, KeepsOnlyOld, ShowsNoOldBook}
use Rattle.bsp_store_open.specs.Old.{old_schema}
use Rattle.bsp_store_open.specs.declared.old_versions.OldVersion.{OldVersion}
use Rattle.bsp_store_open.proofs.VersionLemmas.{old_not_bare, old_not_ours, one_old}
use Rattle.bsp_store.specs.Adopting.{IsFoundIn, IsMadeOf, IsMigratedIn, LeavesMigrated, LeavesWhole, ShowsNone}
use Rattle.bsp_store.specs.Meanings.{Holds, SqlBook}

module _ {S : Type 0} (g : Ghosts S) where
  pub whole_left : (h : Held S) (left : S) → LeavesCommitted g h left → LeavesWhole g h left
  whole_left h left it = record { earlier = it.earlier; leaves = λ clean db may. inl (it.leaves clean db may) }

  module _ (before now : Held S) (again : Reopens g before now) (settled : IsSettled g now) where
    -- a store without tables
    pub bare_made : now.schema ≡ no_schema → (r : Result (SqlBook S) (OpenFault × S)) → IfOk r (λ book. Holds g book no_rows None)
        → IfOk r (λ book. HasCleanDisk (state g book.conn) → HasCleanDisk (state g now)) → IfErr r (λ e. is_refusal e.0 ≡ false) → IfErr r (λ e. LeavesEmptyBook g now e.1) → IsMadeOf g before r
    bare_made bare (Ok book) holds earlier none left = record {
      adopts = record { rows = no_rows; sound = no_rows_sound; holds = holds; those = inr (inl ((now, again, bare), earlier, refl)) };
      refused = tt;
      left = tt;
    }
    bare_made bare (Err e) holds earlier none left = record {
      adopts = tt;
      refused = λ refused. absurd (cc (sym none ∙ refused));
      left = record {
        earlier = λ clean. again.earlier (left.earlier clean);
        leaves = λ clean db may. elim (left.leaves clean db may) [
          | inl was ↦ inl (inl (was_committed g before now again settled (left.earlier clean) db was))
          | inr made ↦ inr (inl ((now, again, bare), left.earlier clean, made))
        ];
      };
    }

    -- a store with the tables of an earlier version
    module _ (version : OldVersion) (has : now.schema ≡ old_schema version) where
      shows_none : (fault : OpenFault) → ShowsNoOldBook version fault (state g now).now.trees → ShowsNone g fault now
      shows_none fault none = record {
        some = λ bare. absurd (old_not_bare version (sym bare ∙ has));
        ours = λ ours. absurd (old_not_ours version (sym has ∙ ours));
        older = λ other is. subst (λ v. ShowsNoOldBook v fault (state g now).now.trees) (one_old version other (sym has ∙ is)) none;
        others = λ other young. absurd (young version has);
      }

      pub migrated_made : (r : Result (SqlBook S) (OpenFault × S)) → IfOk r (IsMigratedIn g version now) → IfErr r (λ e. is_refusal e.0 ≡ true → IsClean (g.view e.1) → ShowsNoOldBook version e.0 (state g now).now.trees)
          → IfErr r (λ e. LeavesMigrated g version now e.1) → IsMadeOf g before r
      migrated_made (Ok book) it none left = record {
        adopts = record {
          rows = it.rows;
          sound = it.sound;
          holds = it.holds;
          those = inr (inr (
            version,
            (now, again, has),
            it.earlier,
            λ clean. let same = again.trees (it.earlier clean) in (subst (KeepsOldBook version it.rows) same (it.found clean), subst (KeepsOnlyOld version it.rows) same (it.only clean)),
          ));
        };
        refused = tt;
        left = tt;
      }
      migrated_made (Err e) it none left = record {
        adopts = tt;
        refused = λ refused clean. (now, left.earlier clean, again, shows_none e.0 (none refused clean));
        left = record {
          earlier = λ clean. again.earlier (left.earlier clean);
          leaves = λ clean db may. elim (left.leaves clean db may) [
            | inl was ↦ inl (inl (was_committed g before now again settled (left.earlier clean) db was))
            | inr made ↦ inr (inr (version, (now, again, has), left.earlier clean, subst (λ (old : Trees). IsMigrationOf version old db) (again.trees (left.earlier clean)) made))
          ];
        };
      }

    -- a store with other tables
    pub kept_made : (now.schema ≡ no_schema → ⊥) → ((version : OldVersion) → now.schema ≡ old_schema version → ⊥) → (r : Result (SqlBook S) (OpenFault × S)) → IfOk r (λ book. IsOrdered g now → IsFoundIn g now book)
        → IfErr r (λ e. is_refusal e.0 ≡ true → IsClean (g.view e.1) → (now.schema ≡ no_schema → ⊥) → ((version : OldVersion) → now.schema ≡ old_schema version → ⊥) → ShowsNone g e.0 now)
        → IfErr r (λ e. SparesStore g now e.1) → IsMadeOf g before r
    kept_made some young (Ok book) found none left =
        let it = found again.ordered in
        record {
          adopts = record { rows = it.rows; sound = it.sound; holds = it.holds; those = inl (λ clean. let same = again.trees (it.earlier clean) in (subst (KeepsBook it.rows) same (it.found clean), subst (KeepsOnly it.rows) same (it.only clean))) };
          refused = tt;
          left = tt;
        }
    kept_made some young (Err e) found none left = record {
      adopts = tt;
      refused = λ refused clean. (now, left.earlier clean, again, none refused clean some young);
      left = whole_left before e.1 (left_committed g before now again e.1 settled left);
    }
