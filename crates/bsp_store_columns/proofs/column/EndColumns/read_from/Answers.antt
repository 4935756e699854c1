use Rattle.std.proofs.Common.{◌-◌, ◌∙◌, ◌≡◌, ap, arith, length, sym}
use Rattle.std.proofs.lemmas.List.{length-drop}
use Rattle.bsp_store_columns.proofs.column.EndColumns.read_from.Goals as goal

pub returns-then-from-column_count-clause-back : goal.returns-then-from-column_count-clause-back
returns-then-from-column_count-clause-back c = λ x formed is.
    let none : length c.args.row.now - c.args.from ≡ 0 = sym (length-drop c.args.from c.args.row.now) ∙ ap length is in
    absurd (omega (arith, none, c.column_count.ensures, c.if-from-column_count.true))
