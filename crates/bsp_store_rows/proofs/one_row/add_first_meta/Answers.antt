use Rattle.bsp_store_base.proofs.Std.{ap, length, rules, sym, take, ◌∙◌, ◌≡◌, IsTrue, true_from_ne_false}
use Rattle.sqlite.specs.Held.{state}
use Rattle.bsp_store_base.specs.Sqlite.{bound}
use Rattle.bsp_store_base.specs.Columns.{Meta, meta_row}
use Rattle.bsp_store_rows.proofs.MetaTable.{adds, adds_sound}
use Rattle.bsp_store_rows.proofs.one_row.add_first_meta.Goals as goal

pub returns-clause-added : goal.returns-clause-added
returns-clause-added g c = λ clean now none keeps.
    let inside : IsTrue c.args.tx.now.conn.now.in_transaction = true_from_ne_false _ (λ outside. absurd (let no = (c.in_ok-execute.ensures.ended outside).0 in cc)) in
    let old = state g.S.Store c.args.tx.now.conn.now in
    let new = state g.S.Store c.execute.new.self.conn.now in
    let first : Meta = record { day = c.args.day; closed = 0 } in
    let four : length c.cells-cells.result ≡ 4 = search rules in
    let is : bound (take 4 c.values_of.result) ≡ meta_row first = ap (λ n. bound (take n c.values_of.result)) (sym four) ∙ c.values_of.ensures.values ∙ c.cells-cells.ensures.written in (
      adds old new first c.in_ok-execute.field-0 now none keeps (rw is at (c.in_ok-execute.ensures.runs clean inside).0),
      adds_sound old new first c.in_ok-execute.field-0 keeps.schema (rw is at (c.in_ok-execute.ensures.runs clean inside).0),
    )
