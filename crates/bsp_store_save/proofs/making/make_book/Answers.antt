use Rattle.std.proofs.Common.{◌≡◌, sym, subst, arith, rules}
use Rattle.bsp_store_base.proofs.Sqlite.{HasCleanDisk, state, Survives, survives_begin, survives_then}
use Rattle.bsp_rows.specs.Rows.{no_rows}
use Rattle.bsp_store_load.specs.Formed.{IsBook}
use Rattle.bsp_store_save.specs.Making.{IsNewBook}
use Rattle.bsp_store_save.proofs.MakingLemmas.{new_trees}
use Rattle.bsp_store_save.proofs.making.make_book.Goals as goal

pub returns-clause-made : goal.returns-clause-made
returns-clause-made g c clean =
    let begun = c.transaction-tx.ensures.begun in
    let last = c.make_rows.new.tx.conn.now in
    let end = c.commit.new.self.0 in
    let same : end ≡ c.conn-2-1.given.0 = search rules in
    let late : HasCleanDisk (state g.S.Store end) = search rules in
    let made : IsNewBook (state g.S.Store last).now = c.in_ok-make_rows.ensures.made (omega (arith, c.commit.ensures.survives.clean)) (rw begun c.requires.bare) in
    subst (λ h. IsNewBook (state g.S.Store h).committed) same (subst IsNewBook (sym (c.in_ok-commit.ensures.ok late).1.committed_is) made)

pub returns-clause-stop : goal.returns-clause-stop
returns-clause-stop g c =
    let old = c.args.conn.now in
    let begun = c.transaction-tx.ensures.begun in
    let last = c.make_rows.new.tx.conn.now in
    let end = c.commit.new.self.0 in
    let made = λ (clean : HasCleanDisk (state g.S.Store last)). let it : IsNewBook (state g.S.Store last).now = c.in_ok-make_rows.ensures.made clean (rw begun c.requires.bare) in it in
    let whole = survives_then (state g.S.Store old) (state g.S.Store last) (state g.S.Store end) _ _ (IsBook no_rows) (λ _ db none. absurd none)
    (λ clean db is. subst (IsBook no_rows) (sym is) (new_trees _ (made (omega (arith, c.commit.ensures.survives.clean)))))
    (survives_begin g.S.Store old (state g.S.Store last) _ (rw begun at c.make_rows.ensures.survives)) c.commit.ensures.survives in
    let same : end ≡ c.conn-2-1.given.0 = search rules in
    subst (λ h. Survives (state g.S.Store old) (state g.S.Store h) (IsBook no_rows)) same whole

pub returns-in_err-commit-clause-stop : goal.returns-in_err-commit-clause-stop
returns-in_err-commit-clause-stop g c =
    let old = c.args.conn.now in
    let begun = c.transaction-tx.ensures.begun in
    let last = c.make_rows.new.tx.conn.now in
    let end = c.commit.new.self.0 in
    let made = λ (clean : HasCleanDisk (state g.S.Store last)). let it : IsNewBook (state g.S.Store last).now = c.in_ok-make_rows.ensures.made clean (rw begun c.requires.bare) in it in
    let whole = survives_then (state g.S.Store old) (state g.S.Store last) (state g.S.Store end) _ _ (IsBook no_rows) (λ _ db none. absurd none)
    (λ clean db is. subst (IsBook no_rows) (sym is) (new_trees _ (made (omega (arith, c.commit.ensures.survives.clean)))))
    (survives_begin g.S.Store old (state g.S.Store last) _ (rw begun at c.make_rows.ensures.survives)) c.commit.ensures.survives in
    let same : end ≡ c.conn-2-1.given.0 = search rules in
    subst (λ h. Survives (state g.S.Store old) (state g.S.Store h) (IsBook no_rows)) same whole
