-- An opening finds what a stop left.
use Rattle.bsp_store_base.proofs.Std.{◌∙◌, ◌≡◌, Bool, Err, false, IfErr, IfOk, inl, inr, None, Ok, refl, Result, subst, sym, true}
use Rattle.bsp_store_base.proofs.Sqlite.{catalog_tree, Ghosts, HasCleanDisk, Held, IsClean, Lists, state, Trees}
use Rattle.sqlite_catalog.proofs.ReadLemmas.{lists_once}
use Rattle.bsp_store_base.proofs.Entries.{Rows, Sound}
use Rattle.bsp_store_open.specs.Faults.{is_refusal}
use Rattle.bsp_store_open.specs.Formed.{IsBook}
use Rattle.bsp_store_open.specs.Opening.{Reopens}
use Rattle.bsp_store_base.proofs.Base.{form, KeepsRows, our_schema}
use Rattle.bsp_store_open.specs.declared.fault.OpenFault.{OpenFault}
use Rattle.bsp_store_open.proofs.FormedContent.{formed_content}
use Rattle.bsp_store_open.specs.Migrating.{IsOldBook, KeepsNoOld}
use Rattle.bsp_store_open.specs.declared.old_versions.OldVersion.{OldVersion}
use Rattle.bsp_store_open.proofs.OldBookLemmas.{keeps_some, migrated_book, not_this_book, old_ours, only_rows}
use Rattle.bsp_store_open.proofs.VersionLemmas.{bare_not_ours, old_not_bare, old_not_ours}
use Rattle.bsp_store.specs.Adopting.{Adopts, IsNewBookOf, LeavesWhole, ShowsNone, WasBare, WasNoBook}
use Rattle.bsp_store.specs.Meanings.{Holds, SqlBook}
use Rattle.bsp_store.specs.Stops.{FindsBook, FindsRows, IsAnyBook, LeavesRows, OpeningsAreFound, StopsAreFound}

not_true : (b : Bool) → (b ≡ true → ⊥) → b ≡ false
not_true true other = absurd (other refl)
not_true false _ = refl

module _ {S : Type 0} (g : Ghosts S) (before : Held S) (rows : Rows) (sound : Sound rows) where
  -- ---- a book of this version

  module _ (book : IsBook rows (state g before).committed.trees) where
    -- opened again, the store shows its tables
    ours : (now : Held S) → HasCleanDisk (state g now) → Reopens g before now → now.schema ≡ our_schema
    ours now clean again =
        let opens = again.opens clean in
        let live = (opens.1 opens.0.is_open).0 in
        lists_once ((state g before).committed.trees catalog_tree) now.schema our_schema (subst (λ (t : Trees). Lists (t catalog_tree) now.schema) (again.trees clean) live.lists) book.sound.lists

    -- so it shows a book
    this_shows : (fault : OpenFault) (now : Held S) → HasCleanDisk (state g now) → Reopens g before now → ShowsNone g fault now → ⊥
    this_shows fault now clean again shows =
        let c = book.keeps in
        (shows.ours (ours now clean again)).none rows c.0 sound c.1 (formed_content rows c.0 book.formed c.1) (subst (KeepsRows form c.0) (sym (again.trees clean)) c.2)

    -- and it is not bare
    this_has_tables : (bare : WasBare g before) → HasCleanDisk (state g bare.0) → ⊥
    this_has_tables bare clean = bare_not_ours (sym bare.2 ∙ ours bare.0 clean bare.1)

    -- its rows are those of the book that is adopted
    this_adopted : (adopted : SqlBook S) (adopts : Adopts g before adopted) → HasCleanDisk (state g adopted.conn) → rows ≡ adopts.rows
    this_adopted adopted adopts clean = elim adopts.those [
      | inl kept ↦ (kept clean).1 rows sound book.formed book.keeps
      | inr other ↦ elim other [
        | inl bare ↦ absurd (this_has_tables bare.0 (bare.1 clean))
        | inr old ↦ absurd (old_not_ours old.0 (sym old.1.2 ∙ ours old.1.0 (old.2 clean) old.1.1))
      ]
    ]

  -- ---- a book of an earlier version

  module _ (version : OldVersion) (book : IsOldBook version rows (state g before).committed.trees) where
    old_shows : (fault : OpenFault) (now : Held S) → HasCleanDisk (state g now) → Reopens g before now → ShowsNone g fault now → ⊥
    old_shows fault now clean again shows =
        keeps_some version rows (state g before).committed.trees sound book
        (subst (KeepsNoOld version) (again.trees clean) (shows.older version (old_ours g version rows before now book clean again)).none)

    old_has_tables : (bare : WasBare g before) → HasCleanDisk (state g bare.0) → ⊥
    old_has_tables bare clean = old_not_bare version (sym bare.2 ∙ old_ours g version rows before bare.0 book clean bare.1)

    old_adopted : (adopted : SqlBook S) (adopts : Adopts g before adopted) → HasCleanDisk (state g adopted.conn) → rows ≡ adopts.rows
    old_adopted adopted adopts clean = elim adopts.those [
      | inl kept ↦ absurd (not_this_book version rows adopts.rows (state g before).committed.trees book.keeps (kept clean).0)
      | inr other ↦ elim other [
        | inl bare ↦ absurd (old_has_tables bare.0 (bare.1 clean))
        | inr old ↦ only_rows version old.0 rows adopts.rows (state g before).committed.trees sound book (old.3 clean).0 (old.3 clean).1
      ]
    ]

  -- ---- a book of whichever version

  any_shows : IsAnyBook rows (state g before).committed.trees → (fault : OpenFault) (now : Held S) → HasCleanDisk (state g now) → Reopens g before now → ShowsNone g fault now → ⊥
  any_shows (inl book) = this_shows book
  any_shows (inr old) = old_shows old.0 old.1

  any_has_tables : IsAnyBook rows (state g before).committed.trees → (bare : WasBare g before) → HasCleanDisk (state g bare.0) → ⊥
  any_has_tables (inl book) = this_has_tables book
  any_has_tables (inr old) = old_has_tables old.0 old.1

  any_adopted : IsAnyBook rows (state g before).committed.trees → (adopted : SqlBook S) (adopts : Adopts g before adopted) → HasCleanDisk (state g adopted.conn) → rows ≡ adopts.rows
  any_adopted (inl book) = this_adopted book
  any_adopted (inr old) = old_adopted old.0 old.1

  module _ (book : IsAnyBook rows (state g before).committed.trees) where
    -- it is refused neither for another version nor as damaged
    not_refused : (fault : OpenFault) (left : S) → (is_refusal fault ≡ true → WasNoBook g fault before left) → IsClean (g.view left) → is_refusal fault ≡ false
    not_refused fault left none clean = not_true (is_refusal fault) (λ refused. let was = none refused clean in any_shows book fault was.0 was.1 was.2 was.3)

    -- and its rows are found
    these : (adopted : SqlBook S) → Adopts g before adopted → HasCleanDisk (state g adopted.conn) → Holds g adopted rows None
    these adopted adopts clean = subst (λ (r : Rows). Holds g adopted r None) (sym (any_adopted book adopted adopts clean)) adopts.holds

    pub finds_rows : (r : Result (SqlBook S) (OpenFault × S)) → IfOk r (Adopts g before) → IfErr r (λ e. is_refusal e.0 ≡ true → WasNoBook g e.0 before e.1) → FindsRows g rows r
    finds_rows (Ok adopted) adopts none = record { found = these adopted adopts; opened = tt }
    finds_rows (Err e) adopts none = record { found = tt; opened = not_refused e.0 e.1 none }

  -- ---- an opening that failed

  module _ (db : Trees) where
    -- what it was to make has the rows
    made_rows : IsAnyBook rows (state g before).committed.trees → IsNewBookOf g before db → IsAnyBook rows db
    made_rows book (inl bare) = absurd (any_has_tables book bare.0 bare.1)
    made_rows (inl book) (inr old) = absurd (not_this_book old.0 old.3.0 rows (state g before).committed.trees old.3.2 book.keeps)
    made_rows (inr it) (inr old) = inl (migrated_book it.0 old.0 rows (state g before).committed.trees db sound it.1 old.3)

    -- so what a stop leaves has them
    pub left_rows : (left : S) → IsAnyBook rows (state g before).committed.trees → LeavesRows g before rows → LeavesWhole g before left → IsClean (g.view left) → g.recovers left db → IsAnyBook rows db
    left_rows left book stop whole clean may = elim (whole.leaves clean db may) [
      | inl was ↦ elim was [
        | inl same ↦ subst (IsAnyBook rows) (sym same) book
        | inr could ↦ stop (whole.earlier clean) db could
      ]
      | inr made ↦ made_rows book made
    ]

module _ {S : Type 0} (g : Ghosts S) (before : Held S) where
  pub finds_book : (r : Result (SqlBook S) (OpenFault × S)) → IfOk r (Adopts g before) → IfErr r (λ e. is_refusal e.0 ≡ true → WasNoBook g e.0 before e.1) → FindsBook g before r
  finds_book r adopts none rows sound book = finds_rows g before rows sound book r adopts none

pub stops_found : {S : Type 0} (g : Ghosts S) → StopsAreFound g
stops_found g before now a b result leaves sound_a sound_b clean may finds = elim (leaves clean _ may) [
  | inl is ↦ inl (finds a sound_a (inl is))
  | inr is ↦ inr (finds b sound_b (inl is))
]

pub openings_found : {S : Type 0} (g : Ghosts S) → OpeningsAreFound g
openings_found g before now left rows result sound book stop whole clean may finds =
    let kept = left_rows g before rows sound (state g now).committed.trees left book stop whole clean may in
    (kept, finds rows sound kept)
