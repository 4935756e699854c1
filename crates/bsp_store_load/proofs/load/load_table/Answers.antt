use Rattle.std.proofs.Common.{◌≡◌, rules, [], refl, sym, subst, Some, ◌∙◌}
use Rattle.bsp_store_base.proofs.Sqlite.{CommitsShowing, Ghosts, HasCleanDisk, Held, state, Survives, survives_then}
use Rattle.bsp_store_base.specs.Kept.{Spares}
use Rattle.bsp_store_load.specs.Loading.{IsLoaded}
use Rattle.bsp_store_load.proofs.Showing.{all_put, begun, commits_nothing, row_left, row_put, spares_of}
use Rattle.bsp_store_load.proofs.load.load_table.Goals as goal

-- what was left is what two steps that commit nothing made
spared : {S : Type 0} (g : Ghosts S) (old mid new left : Held S) → new ≡ left → Survives (state g old) (state g mid) (λ _. ⊥) → Survives (state g mid) (state g new) (λ _. ⊥) → Spares g old left
spared g old mid new left is first second = subst (Spares g old) is (spares_of g old new (survives_then _ _ _ _ _ _ (λ _ db none. absurd none) (λ _ db none. absurd none) first second))

pub returns-in_err-rows-clause-spares : goal.returns-in_err-rows-clause-spares
returns-in_err-rows-clause-spares g c = λ ours.
    let old = c.args.conn.now in
    let new = c.query-2.follows.lender-at-none in
    let held = c.query-2.follows.holds-at-none in
    let kept : Survives (state g.S.Store old) (state g.S.Store new) (CommitsShowing c.query.result.now [] (state g.S.Store old)) = search rules in
    spares_of g.S.Store old new (commits_nothing g.S.Store old new c.query.result.now c.query.ensures.plain ours kept)

pub rows-init : goal.rows-init
rows-init g c = record {
  name = refl;
  derived = λ is. is;
  survives = λ ours. commits_nothing g.S.Store c.args.conn.now c.in_ok-rows.rows.conn.now c.query.result.now c.query.ensures.plain ours c.in_ok-rows.ensures.survives;
  so_far = λ ours clean. begun g.T.StoredTable.part g.T.StoredTable.row_of g.T.StoredTable.with_entry (g.T.StoredTable.fits c.args.table.now) g.T.StoredTable.lacks g.T.StoredTable.rows_in g.S.Store
      c.query.result.now c.query.ensures c.args.conn.now c.in_ok-rows.rows.conn.now (g.T.StoredTable.whole c.args.memory.now) ours (c.in_ok-rows.ensures.begun clean);
}

pub returns-in_default-clause-loaded : goal.returns-in_default-clause-loaded
returns-in_default-clause-loaded g c = λ ours clean.
    let moved = c.next.follows.holds-at-none in
    let next = c.next.follows.lender-at-none.conn.now in
    let late : HasCleanDisk (state g.S.Store next) = search rules in
    let so_far = c.rows.invariant.so_far ours ((spares_of g.S.Store c.rows.rows.conn.now next moved.survives).earlier late) in
    all_put g.T.StoredTable.part g.T.StoredTable.row_of g.T.StoredTable.with_entry (g.T.StoredTable.fits c.args.table.now) g.T.StoredTable.lacks g.T.StoredTable.rows_in g.S.Store c.args.conn.now c.rows.rows.conn.now next ours
    (g.T.StoredTable.whole c.args.memory.now) (g.T.StoredTable.whole c.rows.memory) so_far (rw c.in_ok-row.was at (moved.same late)) (rw (c.in_ok-row.was, c.in_default.is) at (moved.ok late))

pub returns-then-not-branch-clause-loaded : goal.returns-then-not-branch-clause-loaded
returns-then-not-branch-clause-loaded g c = λ ours clean.
    let moved = c.next.follows.holds-at-none in
    let next = c.next.follows.lender-at-none.conn.now in
    let late : HasCleanDisk (state g.S.Store next) = search rules in
    let so_far = c.rows.invariant.so_far ours ((spares_of g.S.Store c.rows.rows.conn.now next moved.survives).earlier late) in
    subst (λ r. IsLoaded g.T.StoredTable.part g.T.StoredTable.row_of g.T.StoredTable.with_entry (g.T.StoredTable.fits c.args.table.now) g.T.StoredTable.lacks g.T.StoredTable.rows_in (state g.S.Store c.args.conn.now).now.trees (g.T.StoredTable.whole c.args.memory.now) (g.T.StoredTable.whole c.put_row.new.memory) (Some r)) (sym c.in_ok-copy.ensures)
    (row_left g.T.StoredTable.part g.T.StoredTable.row_of g.T.StoredTable.with_entry (g.T.StoredTable.fits c.args.table.now) g.T.StoredTable.lacks g.T.StoredTable.rows_in g.S.Store c.args.conn.now c.rows.rows.conn.now next ours
    (g.T.StoredTable.whole c.args.memory.now) (g.T.StoredTable.whole c.rows.memory) so_far (rw c.in_ok-row.was at (moved.same late)) c.in-Some.row.now (rw (c.in_ok-row.was, c.in-Some.is) at (moved.ok late))
    (g.T.StoredTable.whole c.put_row.new.memory) c.in_ok-put_row.field-0 (λ e may is. c.in_ok-put_row.ensures.entry e may.0 may.1 is) c.if-not-branch.true (c.in_ok-put_row.ensures.kept c.if-not-branch.true))

pub rows-preserved : goal.rows-preserved
rows-preserved g c =
    let moved = c.next.follows.holds-at-none in
    let next = c.next.follows.lender-at-none.conn.now in
    record {
      name = moved.same_reference ∙ c.rows.invariant.name;
      derived = λ is. c.in_ok-put_row.ensures.derived (c.rows.invariant.derived is);
      survives = λ ours. survives_then _ _ _ _ _ _ (λ _ db none. absurd none) (λ _ db none. absurd none) (c.rows.invariant.survives ours) moved.survives;
      so_far = λ ours clean.
          let so_far = c.rows.invariant.so_far ours ((spares_of g.S.Store c.rows.rows.conn.now next moved.survives).earlier clean) in
          let put = c.in_ok-put_row.ensures.row c.if-not-branch.false in
          row_put g.T.StoredTable.part g.T.StoredTable.row_of g.T.StoredTable.with_entry (g.T.StoredTable.fits c.args.table.now) g.T.StoredTable.lacks g.T.StoredTable.rows_in g.S.Store c.args.conn.now c.rows.rows.conn.now next ours
          (g.T.StoredTable.whole c.args.memory.now) (g.T.StoredTable.whole c.rows.memory) so_far (rw c.in_ok-row.was at (moved.same clean)) c.in-Some.row.now (rw (c.in_ok-row.was, c.in-Some.is) at (moved.ok clean))
          (g.T.StoredTable.whole c.put_row.new.memory) c.in_ok-put_row.field-0 (λ e may is. c.in_ok-put_row.ensures.entry e may.0 may.1 is) put.0 put.2 put.1 put.3 g.T.StoredTable.adds;
    }

pub returns-in_err-row-clause-spares : goal.returns-in_err-row-clause-spares
returns-in_err-row-clause-spares g c = λ ours. spared g.S.Store c.args.conn.now c.rows.rows.conn.now c.next.follows.lender-at-none.conn.now _ (search rules) (c.rows.invariant.survives ours) c.next.follows.holds-at-none.survives

pub returns-in_default-clause-spares : goal.returns-in_default-clause-spares
returns-in_default-clause-spares g c = λ ours. spared g.S.Store c.args.conn.now c.rows.rows.conn.now c.next.follows.lender-at-none.conn.now _ (search rules) (c.rows.invariant.survives ours) c.next.follows.holds-at-none.survives

pub returns-in_err-put_row-clause-spares : goal.returns-in_err-put_row-clause-spares
returns-in_err-put_row-clause-spares g c = λ ours. spared g.S.Store c.args.conn.now c.rows.rows.conn.now c.next.follows.lender-at-none.conn.now _ (search rules) (c.rows.invariant.survives ours) c.next.follows.holds-at-none.survives

pub returns-in_err-copy-clause-spares : goal.returns-in_err-copy-clause-spares
returns-in_err-copy-clause-spares g c = λ ours. spared g.S.Store c.args.conn.now c.rows.rows.conn.now c.next.follows.lender-at-none.conn.now _ (search rules) (c.rows.invariant.survives ours) c.next.follows.holds-at-none.survives

pub returns-then-not-branch-clause-spares : goal.returns-then-not-branch-clause-spares
returns-then-not-branch-clause-spares g c = λ ours. spared g.S.Store c.args.conn.now c.rows.rows.conn.now c.next.follows.lender-at-none.conn.now _ (search rules) (c.rows.invariant.survives ours) c.next.follows.holds-at-none.survives
