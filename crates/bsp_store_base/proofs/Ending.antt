-- BEGIN, COMMIT and ROLLBACK, and what a stop may leave of each statement.
use Rattle.std.proofs.Common.{◌≡◌, ◌≢◌, inl, inr, ℕ, List, [], codes, true, false, Option, Some, None, Ok, Err, Result, IsTrue, refl, sym, ap, ◌∙◌, subst, true≢false, length, nat_le}
use Rattle.std.proofs.lemmas.Bool.{both_ways, leb-true}
use Rattle.bsp_store_base.specs.Sqlite.{Begin, Command, Commit, CompileError, Compiled, Database, Does, Error, Executes, IsMisplaced, IsRolledBack, MayCommit, Release, Returning, Rollback, Row, RunsCommand, Schema, Shows, State, Tally, Trees, mode_of, shows_rows, text_of, timed}
use Rattle.bsp_store_base.proofs.Sqlite.{command_of, CommitsBy, everything, ExecutesIn, IsNotRun, runs_as, understood}
use Rattle.sqlite.specs.Calls.{IsWrite}
use Rattle.bsp_store_base.proofs.Ends.{ends_any, plain_any}

pub begins : (old new : State) (count : ℕ) → Executes (codes "BEGIN") [] old new (Ok count) → Shows old new old.now old.committed true
begins old new count h = (runs_as (codes "BEGIN") [] old new old.now.schema refl Begin (ends_any _).0 (plain_any _).0 count h).1

pub commits : (old new : State) (count : ℕ) → Executes (codes "COMMIT") [] old new (Ok count) → Shows old new old.now old.now false
commits old new count h = (runs_as (codes "COMMIT") [] old new old.now.schema refl Commit (ends_any _).1.0 (plain_any _).1.0 count h).1

-- the text is one statement with no parameter
abbrev IsProper : ℕ → Result Compiled CompileError → Type 0
IsProper n (Ok c) = (nat_le n c.tail ≡ true) × (length c.names ≡ 0) × (c.formats ≡ []) × (c.returning ≡ None) × (c.command ≡ Rollback)
IsProper n (Err e) = ⊥

rollback_proper : (schema : Schema) → IsProper (length (codes "ROLLBACK")) (understood schema (codes "ROLLBACK"))
unfolding understood everything
rollback_proper schema = (refl, refl, refl, refl, refl)

-- it is undone, whatever the answer
pub undoes : (old new : State) (r : Result ℕ Error) → IsTrue old.in_transaction → Executes (codes "ROLLBACK") [] old new r → IsRolledBack old new
unfolding ExecutesIn IsNotRun
undoes old new (Ok count) inside h = (runs_as (codes "ROLLBACK") [] old new old.now.schema refl Rollback (ends_any _).1.1 (plain_any _).1.1 count h).1
undoes old new (Err e) inside h = failed h
  where
    proper : (r : Result Compiled CompileError) → understood old.now.schema (codes "ROLLBACK") ≡ r → IsProper (length (codes "ROLLBACK")) r
    proper r is = subst (IsProper (length (codes "ROLLBACK"))) is (rollback_proper old.now.schema)

    misplaced : (k : Command) → k ≡ Rollback → IsMisplaced old k e → ⊥
    misplaced k is (inl (why, inl (begin, at))) = absurd (let other = sym is ∙ begin in cc)
    misplaced k is (inl (why, inr (end, outside))) = both_ways _ outside inside
    misplaced k is (inr (why, name, inl release, un)) = absurd (let other = sym is ∙ release in cc)
    misplaced k is (inr (why, name, inr back, un)) = absurd (let other = sym is ∙ back in cc)

    commanded : (c : Compiled) (params : Row) → c.command ≡ Rollback → c.returning ≡ None → RunsCommand old new (codes "ROLLBACK") c params (Err e) → IsRolledBack old new
    commanded c params is none (inl (inl bad, same)) = absurd (misplaced c.command is bad)
    commanded c params is none (inl (inr (inl write, does), same)) = absurd (subst IsWrite is write)
    commanded c params is none (inl (inr (inr some, does), same)) = absurd (let no = rw none at some in true≢false (sym no))
    commanded c params is none (inr fails) = fails.3

    failed : Executes (codes "ROLLBACK") [] old new (Err e) → IsRolledBack old new
    failed (inl (inl (inl bad, same))) = absurd (proper (Err bad.0) bad.1)
    failed (inl (inl (inr (c, is, inl long), same))) = absurd (long.0 (leb-true _ _ (proper (Ok c) is).0))
    failed (inl (inl (inr (c, is, inr (inl many)), same))) = absurd (many.0 (sym (proper (Ok c) is).1))
    failed (inl (inl (inr (c, is, inr (inr late)), same))) = absurd (late.0 (proper (Ok c) is).2)
    failed (inl (inr fails)) = fails.3
    failed (inr (c, it, ran)) =
        let p = proper (Ok c) it.is in
        let silent : shows_rows false c ≡ false = rw (p.4, p.3) refl in
        commanded c _ p.4 p.3 (rw silent at ran)

-- inside a transaction a statement that does not end it commits nothing
pub quiet : (sql : List ℕ) (params : Row) (s : State) (db : Trees) (command : Command) → command_of (understood s.now.schema sql) ≡ command → command ≢ Commit
    → ((name : List ℕ) → command ≢ Release name) → IsTrue s.in_transaction → CommitsBy sql params s db → ⊥
unfolding CommitsBy
quiet sql params s db command is no_commit no_release inside (c, it, may) = go may
  where
    known : c.command ≡ command
    known = ap command_of (sym it.is) ∙ is

    go : MayCommit s c.returning c.command (text_of sql c) (timed params c.formats it.now) db → ⊥
    go (inl (inl commit, same)) = no_commit (sym known ∙ commit)
    go (inl (inr (name, at, release, newest, more), same)) = no_release name (sym known ∙ release)
    go (inr may) = both_ways _ may.0 inside

pub commits_now : (sql : List ℕ) (params : Row) (s : State) (db : Trees) → IsTrue s.in_transaction → CommitsBy sql params s db → db ≡ s.now.trees
unfolding CommitsBy
commits_now sql params s db inside (c, it, inl may) = may.1
commits_now sql params s db inside (c, it, inr may) = absurd (both_ways _ may.0 inside)

-- BEGIN commits nothing
pub begin_commits_nothing : (s : State) (db : Trees) → CommitsBy (codes "BEGIN") [] s db → ⊥
unfolding CommitsBy
begin_commits_nothing s db (c, it, may) = go may
  where
    known : c.command ≡ Begin
    known = ap command_of (sym it.is) ∙ (ends_any s.now.schema).0

    does : (k : Command) (o : Option Returning) (out : Tally × Database) → k ≡ Begin → Does s.step_limit (mode_of s) (timed [] c.formats it.now) s.now (text_of (codes "BEGIN") c) o k (Ok out) → ⊥
    does k None out is h = let no = rw is at h in absurd (cc)
    does k (Some what) out is h = let no = rw is at h in absurd (cc)

    go : MayCommit s c.returning c.command (text_of (codes "BEGIN") c) (timed [] c.formats it.now) db → ⊥
    go (inl (inl commit, same)) = absurd (let other = sym known ∙ commit in cc)
    go (inl (inr (name, at, release, newest, more), same)) = absurd (let other = sym known ∙ release in cc)
    go (inr (outside, tally, after, made, sound, same, frozen)) = does c.command c.returning (tally, after) known made
