-- From what a call ensures to what the tables keep, whatever the tables are.
use Rattle.bsp_store_base.proofs.Std.{[], ◌∙◌, ◌≡◌, ◌≢◌, ◌⊎◌, ap, arith, both_ways, codes, cond, Err, false, inl, inr, IsTrue, List, None, Ok, OnErr, OnOk, Result, subst, sym, ℕ}
use Rattle.bsp_store_base.specs.Sqlite.{Command, Commit, CommitsBy, Database, Error, Executes, Ghosts, HasCleanDisk, Held, IsDatabase, IsRolledBack, IsUnchanged, Release, Rollback, Row, Runs, ShowsRows, State, Survives, Trees, Writes, state, timed, understood}
use Rattle.bsp_store_base.proofs.Sqlite.{command_of, IsPlain, runs_as, Shown, statement_of}
use Rattle.sqlite.proofs.InsideLemmas.{fails_whole, unchanged_keeps}
use Rattle.bsp_store_base.specs.Kept.{AreTreesOf, Form, Keeps, KeepsSound, HasContents, HasCommitted, IsInside, IsOutside}
use Rattle.bsp_store_base.proofs.Ends.{ends_any}
use Rattle.bsp_store_base.proofs.Ending.{quiet, begins, commits, undoes, begin_commits_nothing, commits_now}

pub unchanged_by : (sql : List ℕ) (params : Row) (old new : State) (rows : List Row) → IsPlain (understood old.now.schema sql) → Shown sql params old new rows → IsUnchanged old new
unfolding Shown
unchanged_by sql params old new rows plain (c, it, shows) = (subst (ShowsRows old new sql c (timed params c.formats it.now) rows) (subst IsPlain it.is plain).0 shows).3

module _ {C : Type 0} (form : Form C) where
  -- the trees of a database that keeps a content
  pub trees_of : (c : C) (db : Database) → KeepsSound form c db → AreTreesOf form c db.trees
  trees_of c db keeps = (keeps.0.kept, subst (λ s. IsDatabase (record { schema = s; trees = db.trees })) keeps.0.schema keeps.1)

  module _ {S : Type 0} (g : Ghosts S) (old new : Held S) where
    earlier : {P : Trees → Type 0} → Survives (state g old) (state g new) P → HasCleanDisk (state g new) → HasCleanDisk (state g old)
    earlier kept clean = omega (arith, kept.clean)

    -- a stop leaves one of two contents
    abbrev Leaves : Held S → C → C → Type 0
    Leaves h a b = HasCleanDisk (state g h) → (db : Trees) → (state g h).may_leave db → AreTreesOf form a db ⊎ AreTreesOf form b db

    module _ {P : Trees → Type 0} (kept : Survives (state g old) (state g new) P) where
      -- the same as before, where nothing was committed
      still_leaves : ((clean : HasCleanDisk (state g new)) (db : Trees) → P db → ⊥) → (a b : C) → Leaves old a b → Leaves new a b
      still_leaves none a b leaves clean db may = elim (kept.crash clean db may) [ inl before ↦ leaves (earlier kept clean) db before | inr made ↦ absurd (none clean db made) ]

      -- the last commit stays what it was, where a statement was refused or rolled back
      stays : (HasCleanDisk (state g new) → IsUnchanged (state g old) (state g new) ⊎ IsRolledBack (state g old) (state g new)) → (last a b : C)
          → (HasCleanDisk (state g old) → IsTrue (state g old).is_open → KeepsSound form last (state g old).committed) → Leaves new a b → HasCommitted form g new last a b
      stays out last a b was leaves = record {
        kept = λ clean now_open.
            let same = unchanged_keeps _ _ (out clean) in
            subst (KeepsSound form last) (sym (same.committed now_open)) (was (earlier kept clean) (same.was_open now_open));
        leaves = leaves;
        steady = λ clean within. elim (out clean) [ inl same ↦ same.0.is_open | inr back ↦ absurd (both_ways _ back.autocommit within) ];
      }

    -- ---- writing inside a transaction

    -- a write, where it is known what it makes of the tables of a content that meets a condition
    pub writes : (sql : List ℕ) (params : Row) (command : Command) (known : command_of (understood form.schema sql) ≡ command) (plain : IsPlain (understood form.schema sql)) (no_commit : command ≢ Commit) (no_release : (name : List ℕ) → command ≢ Release name)
        (silent : (o n : State) (count : ℕ) → Runs o n None command (statement_of sql (understood form.schema sql)) params count → Writes o n None command (statement_of sql (understood form.schema sql)) params count)
        (r : Result ℕ Error) → Survives (state g old) (state g new) (CommitsBy sql params (state g old)) → (HasCleanDisk (state g new) → Executes sql params (state g old) (state g new) r)
        → (P : C → Type 0) (after : C → C) (made : (now : C) (count : ℕ) → P now → Keeps form now (state g old).now → Executes sql params (state g old) (state g new) (Ok count) → Keeps form (after now) (state g new).now)
        → OnOk r ((now last a b : C) → P now → HasContents form g old now last a b → IsInside form g old → HasContents form g new (after now) last a b × IsInside form g new)
        × OnErr r ((now last a b : C) → HasContents form g old now last a b → IsInside form g old → HasCommitted form g new last a b)
    writes sql params command known plain no_commit no_release silent r kept ran P after made = go r ran
      where
        left : (now last a b : C) → HasContents form g old now last a b → IsInside form g old → Leaves new a b
        left now last a b stands inside = still_leaves kept (λ clean db.
            let was = inside (earlier kept clean) in
            quiet sql params (state g old) db command (ap (λ s. command_of (understood s sql)) (stands.held (earlier kept clean) was.1).0.schema ∙ known) no_commit no_release was.0) a b stands.leaves

        go : (r : Result ℕ Error) → (HasCleanDisk (state g new) → Executes sql params (state g old) (state g new) r)
            → OnOk r ((now last a b : C) → P now → HasContents form g old now last a b → IsInside form g old → HasContents form g new (after now) last a b × IsInside form g new)
            × OnErr r ((now last a b : C) → HasContents form g old now last a b → IsInside form g old → HasCommitted form g new last a b)
        go (Err e) ran = (tt, λ now last a b stands inside. stays kept (λ clean. fails_whole _ _ false sql params e (ran clean)) last a b stands.kept (left now last a b stands inside))
        go (Ok n) ran = (
          λ now last a b may stands inside.
              let was = λ (clean : HasCleanDisk (state g new)). inside (earlier kept clean) in
              let held = λ (clean : HasCleanDisk (state g new)). stands.held (earlier kept clean) (was clean).1 in
              let w = λ (clean : HasCleanDisk (state g new)). silent (state g old) (state g new) n (runs_as sql params (state g old) (state g new) form.schema (held clean).0.schema command known plain n (ran clean)) in (
                record {
                  held = λ clean is. (made now n may (held clean).0 (ran clean), (w clean).sound);
                  kept = λ clean is. subst (KeepsSound form last) (sym ((w clean).shown.committed_is ∙ ap (λ b. cond b (state g old).committed (state g new).now) (was clean).0)) (stands.kept (earlier kept clean) (w clean).shown.was_open);
                  leaves = left now last a b stands inside;
                },
                λ clean. ((w clean).shown.mode ∙ (was clean).0, (w clean).shown.is_open),
              ),
          tt,
        )

    -- ---- the ends of a transaction

    pub begins_on : (r : Result ℕ Error) → Survives (state g old) (state g new) (CommitsBy (codes "BEGIN") [] (state g old)) → (HasCleanDisk (state g new) → Executes (codes "BEGIN") [] (state g old) (state g new) r)
        → OnOk r ((now a b : C) → HasContents form g old now now a b → HasContents form g new now now a b × IsInside form g new)
        × OnErr r ((now a b : C) → HasContents form g old now now a b → IsOutside form g old → HasCommitted form g new now a b)
    begins_on (Err e) kept ran =
        (tt, λ now a b stands outside. stays kept (λ clean. fails_whole _ _ false _ _ e (ran clean)) now a b stands.kept (still_leaves kept (λ clean db. begin_commits_nothing _ db) a b stands.leaves))
    begins_on (Ok n) kept ran = (
      λ now a b stands.
          let shown = λ (clean : HasCleanDisk (state g new)). begins _ _ n (ran clean) in (
            record {
              held = λ clean is. subst (KeepsSound form now) (sym (shown clean).now_is) (stands.held (earlier kept clean) (shown clean).was_open);
              kept = λ clean is. subst (KeepsSound form now) (sym (shown clean).committed_is) (stands.kept (earlier kept clean) (shown clean).was_open);
              leaves = still_leaves kept (λ clean db. begin_commits_nothing _ db) a b stands.leaves;
            },
            λ clean. ((shown clean).mode, (shown clean).is_open),
          ),
      tt,
    )

    pub commits_on : (settled : (db : Trees) → IsTrue (state g new).is_open → (state g new).may_leave db → db ≡ (state g new).committed.trees) (r : Result ℕ Error)
        → Survives (state g old) (state g new) (CommitsBy (codes "COMMIT") [] (state g old)) → (HasCleanDisk (state g new) → Executes (codes "COMMIT") [] (state g old) (state g new) r)
        → OnOk r ((now last a b : C) → HasContents form g old now last a b → HasContents form g new now now now now × IsOutside form g new)
        × OnErr r ((now last : C) → HasContents form g old now last last last → IsInside form g old → HasCommitted form g new last last now)
    commits_on settled (Err e) kept ran = (
      tt,
      λ now last stands inside. stays kept (λ clean. fails_whole _ _ false _ _ e (ran clean)) last last now stands.kept (λ clean db may. elim (kept.crash clean db may) [
        | inl before ↦ elim (stands.leaves (earlier kept clean) db before) [ inl it ↦ inl it | inr it ↦ inl it ]
        | inr made ↦ let was = inside (earlier kept clean) in inr (subst (AreTreesOf form now) (sym (commits_now _ _ _ db was.0 made)) (trees_of now _ (stands.held (earlier kept clean) was.1)))
      ]),
    )
    commits_on settled (Ok n) kept ran = (
      λ now last a b stands.
          let shown = λ (clean : HasCleanDisk (state g new)). commits _ _ n (ran clean) in
          let was = λ (clean : HasCleanDisk (state g new)). stands.held (earlier kept clean) (shown clean).was_open in (
            record {
              held = λ clean is. subst (KeepsSound form now) (sym (shown clean).now_is) (was clean);
              kept = λ clean is. subst (KeepsSound form now) (sym (shown clean).committed_is) (was clean);
              leaves = λ clean db may. inl (subst (AreTreesOf form now) (sym (settled db (shown clean).is_open may ∙ ap (λ (d : Database). d.trees) (shown clean).committed_is)) (trees_of now _ (was clean)));
            },
            λ clean. (shown clean).mode,
          ),
      tt,
    )

    -- whatever went before, it is undone
    pub undoes_on : (r : Result ℕ Error) → Survives (state g old) (state g new) (CommitsBy (codes "ROLLBACK") [] (state g old)) → (HasCleanDisk (state g new) → Executes (codes "ROLLBACK") [] (state g old) (state g new) r)
        → IsTrue old.in_transaction → (last a b : C) → HasCommitted form g old last a b → HasContents form g new last last a b × IsOutside form g new
    undoes_on r kept ran inside last a b fallen =
        let back = λ (clean : HasCleanDisk (state g new)). undoes _ _ r inside (ran clean) in (
          record {
            held = λ clean is. subst (KeepsSound form last) (sym ((back clean).undone is).0) (fallen.kept (earlier kept clean) ((back clean).was_open is));
            kept = λ clean is. subst (KeepsSound form last) (sym ((back clean).undone is).1) (fallen.kept (earlier kept clean) ((back clean).was_open is));
            leaves = still_leaves kept (λ clean db. quiet (codes "ROLLBACK") [] (state g old) db Rollback (ends_any _).1.1 (λ is. cc) (λ name is. cc) inside) a b fallen.leaves;
          },
          λ clean. (back clean).autocommit,
        )

  -- outside a transaction nothing is to be undone
  pub nothing_to_undo : {S : Type 0} (g : Ghosts S) (h : Held S) → h.in_transaction ≡ false → (IsTrue (state g h).is_open → (state g h).now ≡ (state g h).committed) → (last a b : C) → HasCommitted form g h last a b
      → HasContents form g h last last a b × IsOutside form g h
  nothing_to_undo g h outside settled last a b fallen =
      (record { held = λ clean is. subst (KeepsSound form last) (sym (settled is)) (fallen.kept clean is); kept = fallen.kept; leaves = fallen.leaves }, λ clean. outside)

  -- while the store is open a stop leaves the last commit
  pub stops_settled : {S : Type 0} (g : Ghosts S) (h : Held S) → ((db : Trees) → IsTrue (state g h).is_open → (state g h).may_leave db → db ≡ (state g h).committed.trees) → IsInside form g h
      → (now last a b : C) → HasContents form g h now last a b → HasContents form g h now last last last
  stops_settled g h settled inside now last a b stands = record {
    held = stands.held;
    kept = stands.kept;
    leaves = λ clean db may. inl (subst (AreTreesOf form last) (sym (settled db (inside clean).1 may)) (trees_of last _ (stands.kept clean (inside clean).1)));
  }

  pub fallen_from : {S : Type 0} (g : Ghosts S) (h : Held S) → IsInside form g h → (now last a b : C) → HasContents form g h now last a b → HasCommitted form g h last a b
  fallen_from g h inside now last a b stands = record { kept = stands.kept; leaves = stands.leaves; steady = λ clean within. (inside clean).1 }

  pub begins_settled : {S : Type 0} (g : Ghosts S) (old new : Held S) → ((db : Trees) → IsTrue (state g new).is_open → (state g new).may_leave db → db ≡ (state g new).committed.trees) → (r : Result ℕ Error)
      → Survives (state g old) (state g new) (CommitsBy (codes "BEGIN") [] (state g old)) → (HasCleanDisk (state g new) → Executes (codes "BEGIN") [] (state g old) (state g new) r)
      → OnOk r ((now a b : C) → HasContents form g old now now a b → HasContents form g new now now now now × IsInside form g new)
  begins_settled g old new settled (Err e) kept ran = tt
  begins_settled g old new settled (Ok n) kept ran = λ now a b stands.
      let it = (begins_on g old new (Ok n) kept ran).0 now a b stands in (stops_settled g new settled it.1 now now a b it.0, it.1)

  pub weaken : {S : Type 0} (g : Ghosts S) (h : Held S) (now last b : C) → HasContents form g h now last last last → HasContents form g h now last last b
  weaken g h now last b stands = record { held = stands.held; kept = stands.kept; leaves = λ clean db may. elim (stands.leaves clean db may) [ inl it ↦ inl it | inr it ↦ inl it ] }
