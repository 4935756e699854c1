use Rattle.std.proofs.Common.{◌≡◌, ℕ, ◌-◌, List, take, drop, length, sym, ap, ◌∙◌, subst, arith, length-drop}
use Rattle.std.proofs.lemmas.List.{drop-drop, take_all}
use Rattle.std.proofs.lemmas.Result.{err_from_is_err_and}
use Rattle.bsp_hot.specs.declared.rows.Row.{Row}
use Rattle.bsp_hot.specs.OfficesSoFar.{heading_of, HaveRoom, HaveOffices}
use Rattle.bsp_hot.proofs.offices.push_offices.Goals as goal

-- the slice of the rows that are left
rest_of : (rows : List Row) (t : ℕ) → take (length rows - t) (drop t rows) ≡ drop t rows
rest_of rows t = take_all (length rows - t) (drop t rows) (omega (arith, length-drop t rows))

pub returns-in_err-written-clause-adds : goal.returns-in_err-written-clause-adds
returns-in_err-written-clause-adds c =
    let old = c.args.out.now in
    let rows = c.args.rows.now in
    let before = c.loop-written.written in
    let Have : List Row → Type 0 = λ rest. HaveOffices (heading_of c.args.out.now.form c.args.file.now) old rows c.loop-written.out rest before in
    let have = subst Have (sym (rest_of rows before.transactions)) c.loop-written.invariant.have in
    let p = err_from_is_err_and c.from_residual.result c.from_residual.ensures.1 in
    rw (p.1, p.2) (c.in_err-written.ensures old.form old rows have)

pub loop-written-smaller : goal.loop-written-smaller
loop-written-smaller c =
    let old = c.args.out.now in
    let rows = c.args.rows.now in
    let before = c.loop-written.written in
    let Have : List Row → Type 0 = λ rest. HaveOffices (heading_of c.args.out.now.form c.args.file.now) old rows c.loop-written.out rest before in
    let have = subst Have (sym (rest_of rows before.transactions)) c.loop-written.invariant.have in
    let next = c.in_ok-written.ensures old.form old rows have in
    omega (arith, next.2, c.loop-written-test.true)

pub loop-written-preserved : goal.loop-written-preserved
loop-written-preserved c =
    let old = c.args.out.now in
    let rows = c.args.rows.now in
    let before = c.loop-written.written in
    let after = c.in_ok-written.written in
    let Before : List Row → Type 0 = λ rest. HaveOffices (heading_of c.args.out.now.form c.args.file.now) old rows c.loop-written.out rest before in
    let have = subst Before (sym (rest_of rows before.transactions)) c.loop-written.invariant.have in
    let next = c.in_ok-written.ensures old.form old rows have in
    let k : ℕ = after.transactions - before.transactions in
    let left : drop k (take (length rows - before.transactions) (drop before.transactions rows)) ≡ drop after.transactions rows = ap (drop k) (rest_of rows before.transactions) ∙ drop-drop k before.transactions rows ∙ ap (λ i. drop i rows) (omega (arith, next.2)) in
    let Have : List Row → Type 0 = λ rest. HaveOffices (heading_of c.args.out.now.form c.args.file.now) old rows c.push_next.new.out rest after in
    let Room : List Row → Type 0 = λ rest. HaveRoom after rest in
    record {
      output = next.0.adds.bound;
      have = subst Have left next.0;
      room = subst Room left next.1;
    }
