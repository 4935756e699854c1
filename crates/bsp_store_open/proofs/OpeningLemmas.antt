-- From the rows that an opening read to what the tables keep.
use Rattle.bsp_store_base.proofs.Std.{[], ◌∙◌, ◌∷◌, ◌≡◌, ◌⊎◌, AllByRecursion, ap, arith, Err, false≢true, IfErr, IfOk, inl, inr, IsErrAnd, IsPermutation, IsPermutation-sym, IsTrue, length, List, map, MatchResult, None, Ok, OnOk, pos, refl, Result, subst, sym, true, true≢false, ℕ}
use Rattle.bsp_store_base.proofs.Sqlite.{column, Database, Ghosts, HasCleanDisk, Held, Int, is_int, IsClean, IsQuiet, IsTable, Row, rowid, state, Trees}
use Rattle.sqlite.specs.declared.error.Error.{Error as StoreError}
use Rattle.bsp_store_base.proofs.Entries.{Rows, Sound}
use Rattle.bsp_store_load.specs.MemoryRowsTables.{rows_of}
use Rattle.bsp_store_load.specs.Tables.{Tables}
use Rattle.bsp_book.specs.Listed.{Holds as ListHolds}
use Rattle.bsp_book.specs.declared.list.ListBook.{ListBook}
use Rattle.bsp_store_base.proofs.Base.{AreAllOf, AreInOrder, AreTreesOf, columns_of, Content, count, form, IsInOrder, Keeps, KeepsRows, KeepsSound, KeepsTable, Meta, meta_part, meta_row, meta_rows, our_schema, Part, Spares, version, width_of}
use Rattle.bsp_store_load.specs.Contents.{IsContentOf, content_now}
use Rattle.bsp_store_load.specs.Formed.{AreFormed}
use Rattle.bsp_store_load.specs.Loading.{HasRows}
use Rattle.bsp_store_load.specs.Stored.{AreCommitted}
use Rattle.bsp_store_open.specs.Faults.{IsFaultOf, is_refusal}
use Rattle.bsp_store_open.specs.declared.fault.OpenFault.{OpenFault}
use Rattle.bsp_store_open.specs.declared.fault.OpenFault.TheVariants.{Damaged, NoRoom}
use Rattle.bsp_store_open.specs.Loaded.{IsAllLoaded}
use Rattle.bsp_store_open.specs.Opening.{Finds, IsAtRest, IsOfOther, IsOfVersion, IsOrdered, IsRead, IsReading, IsTableRead, LeavesCommitted, Misses, Reopens, Reports, ShowsNoBook, SparesStore, is_known}
use Rattle.bsp_store_load.proofs.FormedContent.{formed_content}
use Rattle.bsp_store_load.proofs.Held.{trees_of}
use Rattle.bsp_store_load.proofs.TallyLemmas.{content_is}

-- ---- one query after another

-- what an error means that is passed on
pub passed_on : {X E : Type 0} (P : E → Type 0) (r : Result X E) (e : E) → IsErrAnd r (λ f. f ≡ e) → P e → IfErr r P
passed_on P (Ok x) e is p = tt
passed_on P (Err f) e is p = subst P (sym is) p

-- an error of the store is no refusal
pub no_refusal : {X : Type 0} (Q : OpenFault → Type 0) (r : Result X OpenFault) (error : StoreError) → IsErrAnd r (λ f. IsFaultOf error f) → IfErr r (λ f. is_refusal f ≡ true → Q f)
no_refusal Q (Ok x) error is = tt
no_refusal Q (Err f) error is = λ refused. absurd (false≢true (sym is.refuses ∙ refused))

pub on_ok : {X E : Type 0} (P Q : Type 0) (r : Result X E) → OnOk r P → (P → Q) → OnOk r Q
on_ok P Q (Ok x) it so = so it
on_ok P Q (Err e) it so = tt

pub if_err : {X E : Type 0} (P Q : E → Type 0) (r : Result X E) → IfErr r P → ((e : E) → P e → Q e) → IfErr r Q
if_err P Q (Ok x) it so = tt
if_err P Q (Err e) it so = so e it

-- a value was given, and what is known of it is enough
pub if_read : {X E : Type 0} (P Q : X → Type 0) (r : Result X E) → IfOk r P → ((x : X) → P x → Q x) → IfOk r Q
if_read P Q (Ok x) it so = so x it
if_read P Q (Err e) it so = tt

module _ {S : Type 0} (g : Ghosts S) where
  -- what does nothing leaves what there was
  pub spares_itself : (h : Held S) → Spares g h h
  spares_itself h = record { earlier = λ clean. clean; leaves = λ clean db may. may }

  pub spares_both : (a b c : Held S) → Spares g a b → Spares g b c → Spares g a c
  spares_both a b c first second = record {
    earlier = λ clean. first.earlier (second.earlier clean);
    leaves = λ clean db may. first.leaves (second.earlier clean) db (second.leaves clean db may);
  }

  -- the tables are as they were when something was found of them
  pub missed_after : (a b c : Held S) (F P : Trees → Type 0) → Finds g a b F → Spares g b c → Misses g b c P → Misses g a c (λ trees. F trees × P trees)
  missed_after a b c F P finds spares misses clean ours =
      let was_clean = spares.earlier clean in
      let same = finds.read.same was_clean in
      (finds.found was_clean, subst (λ (db : Database). P db.trees) same (misses clean (ap (λ (db : Database). db.schema) same ∙ ours)))

  -- what is found of the same tables one after the other
  pub both : (a b c : Held S) (F G : Trees → Type 0) → Finds g a b F → Finds g b c G → Finds g a c (λ trees. F trees × G trees)
  both a b c F G first second = record {
    ours = first.ours;
    read = record {
      earlier = λ clean. first.read.earlier (second.read.earlier clean);
      same = λ clean. second.read.same clean ∙ first.read.same (second.read.earlier clean);
      is_open = second.read.is_open;
    };
    found = λ clean. (first.found (second.read.earlier clean), subst (λ (db : Database). G db.trees) (first.read.same (second.read.earlier clean)) (second.found clean));
  }

  pub weaker : (a b : Held S) (F G : Trees → Type 0) → ((trees : Trees) → F trees → G trees) → Finds g a b F → Finds g a b G
  weaker a b F G so finds = record { ours = finds.ours; read = finds.read; found = λ clean. so _ (finds.found clean) }

-- ---- one call after another

module _ {S X : Type 0} {g : Ghosts S} {a b : Held S} where
  -- a call for one table is such a call
  pub of_table : {r : Result X OpenFault} {H : X → Type 0} {F : X → Trees → Type 0} → IsTableRead g a b r H F → IsReading g a b r H F (λ _ _. ⊥)
  of_table {r = Ok x} it = record { holds = it.holds; found = it.found; refused = tt; spares = it.spares }
  of_table {r = Err e} it = record { holds = tt; found = tt; refused = λ refused clean ours. absurd ((it.refused refused).1 ours); spares = it.spares }

  module _ {H : X → Type 0} {F : X → Trees → Type 0} where
    -- tables are refused that are not a book's
    pub no_tables : {e : OpenFault} {r : Result X OpenFault} → IsErrAnd r (λ f. f ≡ e) → (e ≡ Damaged) × ¬ (a.schema ≡ our_schema) → Spares g a b → IsTableRead g a b r H F
    no_tables {r = Ok x} is none spares = absurd is
    no_tables {r = Err f} is none spares = record { holds = tt; found = tt; refused = λ refused. (is ∙ none.0, none.1); spares = spares }

    -- an error of the store is no refusal
    pub fails : {r : Result X OpenFault} (error : StoreError) → IsErrAnd r (λ f. IsFaultOf error f) → Spares g a b → IsTableRead g a b r H F
    fails {r = Ok x} error is spares = absurd is
    fails {r = Err f} error is spares = record { holds = tt; found = tt; refused = λ refused. absurd (false≢true (sym is.refuses ∙ refused)); spares = spares }

module _ {S X Y : Type 0} {g : Ghosts S} {a b : Held S} {H : Y → Type 0} {K : X → Type 0} {F : Y → Trees → Type 0} {G : X → Trees → Type 0} {M N : OpenFault → Trees → Type 0} where
  -- where a call is refused, so is the call that it is part of
  pub stops : {e : OpenFault} {r : Result X OpenFault} → IsErrAnd r (λ f. f ≡ e) → IsReading g a b (Err e) H F M → ((fault : OpenFault) (trees : Trees) → M fault trees → N fault trees) → IsReading g a b r K G N
  stops {r = Ok x} is it missed = absurd is
  stops {e = e} {r = Err f} is it missed = record {
    holds = tt;
    found = tt;
    refused = subst (λ fault. is_refusal fault ≡ true → Misses g a b (N fault)) (sym is) (λ refused clean ours. missed e _ (it.refused refused clean ours));
    spares = it.spares;
  }

  -- a value is given for what was found
  pub gives : {y : Y} {x : X} → IsReading g a b (Ok y) H F M → (H y → K x) → ((trees : Trees) → F y trees → G x trees) → IsReading g a b (Ok x) K G N
  gives {y = y} {x = x} it holds found = record { holds = holds it.holds; found = weaker g a b (F y) (G x) found it.found; refused = tt; spares = it.spares }

  -- or the tables are refused for it
  pub denies : {y : Y} {r : Result X OpenFault} (e : OpenFault) → IsErrAnd r (λ f. f ≡ e) → IsReading g a b (Ok y) H F M → (is_refusal e ≡ true → (trees : Trees) → F y trees → N e trees) → IsReading g a b r K G N
  denies {r = Ok x} e is it missed = absurd is
  denies {r = Err f} e is it missed = record {
    holds = tt;
    found = tt;
    refused = subst (λ fault. is_refusal fault ≡ true → Misses g a b (N fault)) (sym is) (λ refused clean ours. missed refused _ (it.found.found clean));
    spares = it.spares;
  }

  -- what two calls find, one after the other
  pub after : {c : Held S} {y : Y} {r : Result X OpenFault} → IsReading g a b (Ok y) H F M → IsReading g b c r K G N → IsReading g a c r (λ x. H y × K x) (λ x trees. F y trees × G x trees) (λ fault trees. F y trees × N fault trees)
  after {c = c} {y = y} {r = Ok x} first second =
      record { holds = (first.holds, second.holds); found = both g a b c (F y) (G x) first.found second.found; refused = tt; spares = spares_both g a b c first.spares second.spares }
  after {c = c} {y = y} {r = Err e} first second =
      record { holds = tt; found = tt; refused = λ refused. missed_after g a b c (F y) (N e) first.found second.spares (second.refused refused); spares = spares_both g a b c first.spares second.spares }

-- what a call says is enough for the call that it is part of
pub wider : {S X : Type 0} {g : Ghosts S} {a b : Held S} {H K : X → Type 0} {F G : X → Trees → Type 0} {M N : OpenFault → Trees → Type 0} {r : Result X OpenFault} → IsReading g a b r H F M
    → ((x : X) → H x → K x) → ((x : X) (trees : Trees) → F x trees → G x trees) → ((fault : OpenFault) (trees : Trees) → M fault trees → N fault trees) → IsReading g a b r K G N
wider {r = Ok x} it holds found missed = gives it (holds x) (found x)
wider {r = Err e} it holds found missed = stops refl it missed

-- a value is given unless a call found a fault
pub given : {S X Y : Type 0} {g : Ghosts S} {a b : Held S} {H : Y → Type 0} {K : X → Type 0} {F : Y → Trees → Type 0} {G : X → Trees → Type 0} {M N : OpenFault → Trees → Type 0} (test : Result Y OpenFault) (r : Result X OpenFault) (x : X)
    → MatchResult test (λ _. r ≡ Ok x) (λ fault. r ≡ Err fault) → IsReading g a b test H F M → ((y : Y) → H y → K x) → ((y : Y) (trees : Trees) → F y trees → G x trees)
    → ((fault : OpenFault) (trees : Trees) → M fault trees → N fault trees) → IsReading g a b r K G N
given (Ok y) r x is it holds found missed = rw is (gives it (holds y) (found y))
given (Err e) r x is it holds found missed = rw is (stops refl it missed)

-- rows that are refused, though there is memory, are not sound
pub unsound_if_refused : (fault : OpenFault) (P : Type 0) → (fault ≡ NoRoom) ⊎ ((fault ≡ Damaged) × P) → is_refusal fault ≡ true → (fault ≡ Damaged) × P
unsound_if_refused fault P (inl room) refused = absurd (false≢true (sym (ap is_refusal room) ∙ refused))
unsound_if_refused fault P (inr unsound) refused = unsound

-- a book's first row of `meta` has the version of its tables
pub other_version : (trees : Trees) (fault : OpenFault) (read : List Row) → AreAllOf meta_part trees read → (IsOfVersion read → ⊥) → Reports fault read → ShowsNoBook fault trees
other_version trees fault read all other reports = record {
  none = λ rows c sound content formed keeps.
      let m : Meta = record { day = rows.published.day; closed = length rows.published.closed } in
      let is : read ≡ meta_row m ∷ [] = all.in_order c formed keeps ∙ ap (λ (d : Content). meta_rows d.meta) content.same in
      other (record { row = meta_row m; more = []; first = is; version = refl });
  meta = read;
  all = all.in_any_order;
  reports = reports;
}

-- rows of `meta` with the version of this crate have no other one
pub not_other : (rows : List Row) → IsOfVersion rows → IsOfOther rows → ⊥
not_other rows is other =
    let rows_are : is.row ∷ is.more ≡ other.row ∷ other.more = sym is.first ∙ other.first in
    let same : is.row ≡ other.row = cc rows_are in
    let value : Int other.found ≡ count version = sym other.has ∙ ap (λ (r : Row). column r 1) (sym same) ∙ is.version in
    let found : other.found ≡ pos version = cc value in
    true≢false (ap is_known (sym found) ∙ other.other)

-- ---- the tables keep the rows

keeps_table : (width : ℕ) (content tree : List Row) → IsTable tree × AllByRecursion (λ r. IsTrue (is_int (rowid r))) tree → IsPermutation (map (columns_of width) tree) content → KeepsTable width content tree
keeps_table width content tree order all = record { table = order.0; keyed = order.1; rows = IsPermutation-sym _ _ all }

keeps_each : (c : Content) (trees : Trees) (parts : List (Part Content)) → AllByRecursion (λ (p : Part Content). IsInOrder trees p.tree) parts → AllByRecursion (λ (p : Part Content). HasRows p c trees) parts
    → AllByRecursion (λ (p : Part Content). KeepsTable (width_of p.tree) (p.rows c) (trees p.tree)) parts
keeps_each c trees [] order rows = tt
keeps_each c trees (p ∷ parts) order rows = (keeps_table (width_of p.tree) (p.rows c) (trees p.tree) order.0 rows.0, keeps_each c trees parts order.1 rows.1)

pub keeps_all : (c : Content) (trees : Trees) → AreInOrder trees → AllByRecursion (λ (p : Part Content). HasRows p c trees) form.parts → KeepsRows form c trees
keeps_all c trees order rows = keeps_each c trees form.parts order rows

-- the tables have the rows of tables in memory, which become a book
module _ {S : Type 0} (g : Ghosts S) (old new : Held S) (order : IsOrdered g old) (tables : Tables) (kept : AreCommitted tables) (finds : Finds g old new (λ trees. IsAllLoaded trees tables)) where
  keeps_old : HasCleanDisk (state g new) → KeepsRows form (content_now tables) (state g old).now.trees
  keeps_old clean = keeps_all (content_now tables) (state g old).now.trees (order (finds.read.earlier clean) finds.ours) (finds.found clean).rows

  keeps_new : HasCleanDisk (state g new) → Keeps form (content_now tables) (state g new).now
  keeps_new clean = subst (Keeps form (content_now tables)) (sym (finds.read.same clean)) (record { schema = finds.ours; kept = keeps_old clean })

  -- no transaction is open, so the tables that are seen are committed, and a stop leaves them
  pub tables_read : (list : ListBook) (rows : Rows) → ListHolds list (rows_of tables) None → rows_of tables ≡ rows → Sound rows → AreFormed (rows_of tables) → IsAtRest g new
      → ((db : Trees) → IsTrue (state g new).is_open → (state g new).may_leave db → db ≡ (state g new).committed.trees) → IsRead g old new list rows
  tables_read list rows holds is sound formed rest leaves =
      let c = content_now tables in
      let content : IsContentOf rows c = subst (λ r. IsContentOf r c) is (content_is (rows_of tables) _ kept.derived.totals) in
      let committed : HasCleanDisk (state g new) → IsTrue (state g new).is_open → KeepsSound form c (state g new).committed = λ clean is. (subst (Keeps form c) (rest.settled is) (keeps_new clean), (rest.live is).1) in
      record {
        listed = subst (λ r. ListHolds list r None) is holds;
        sound = sound;
        formed = subst AreFormed is formed;
        kept = (
          c,
          content,
          (
            record {
              held = λ clean is. (keeps_new clean, (rest.live is).0);
              kept = committed;
              leaves = λ clean db may. let is = finds.read.is_open clean in inl (subst (AreTreesOf form c) (sym (leaves db is may)) (trees_of form c (state g new).committed (committed clean is)));
            },
            λ clean. rest.outside,
          ),
        );
        earlier = finds.read.earlier;
        found = λ clean. (c, content, keeps_old clean);
        only = λ clean other its formed_too kept_too. sym ((finds.found clean).only other kept_too.0 its kept_too.1 (formed_content other kept_too.0 formed_too kept_too.1) kept_too.2) ∙ is;
      }

-- ---- an opening that is refused

module _ {S : Type 0} (g : Ghosts S) where
  -- a store that is clean when a connection is given up was clean before
  pub still_clean : (h : Held S) (left : S) → IsQuiet g.view g.faults g.recovers g.is_shielded h.store left → IsClean (g.view left) → HasCleanDisk (state g h)
  still_clean h left quiet clean = omega (arith, quiet.clean, clean)

  -- a connection that asked, and was given up
  pub given_up : (old new : Held S) (left : S) → Spares g old new → IsQuiet g.view g.faults g.recovers g.is_shielded new.store left → SparesStore g old left
  given_up old new left spares quiet = record {
    earlier = λ clean. spares.earlier (still_clean new left quiet clean);
    leaves = λ clean db may. spares.leaves (still_clean new left quiet clean) db (quiet.outcomes db may);
  }

  -- while a store is open a stop leaves what was committed
  abbrev pub IsSettled : Held S → Type 0
  IsSettled h = (db : Trees) → IsTrue (state g h).is_open → (state g h).may_leave db → db ≡ (state g h).committed.trees

  module _ (before now : Held S) (again : Reopens g before now) where
    pub was_committed : IsSettled now → HasCleanDisk (state g now) → (db : Trees) → (state g now).may_leave db → db ≡ (state g before).committed.trees
    was_committed settled clean db may =
        let opens = (again.opens clean).0 in
        settled db opens.is_open may ∙ ap (λ (d : Database). d.trees) (sym opens.clean) ∙ again.trees clean

    -- what a store that was opened again leaves is what was committed
    pub left_committed : (left : S) → IsSettled now → SparesStore g now left → LeavesCommitted g before left
    left_committed left settled spares = record {
      earlier = λ clean. again.earlier (spares.earlier clean);
      leaves = λ clean db may. inl (was_committed settled (spares.earlier clean) db (spares.leaves clean db may));
    }
