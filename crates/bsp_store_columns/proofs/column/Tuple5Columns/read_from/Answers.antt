use Rattle.std.proofs.Common.{◌∙◌, Some, sym}
use Rattle.std.proofs.lemmas.Option.{none-some, same_Some}
use Rattle.bsp_store_columns.proofs.column.Tuple5Columns.read_from.Goals as goal

pub returns-in_err-first-clause-back : goal.returns-in_err-first-clause-back
returns-in_err-first-clause-back g c = λ x formed is. absurd (none-some _ (sym c.in_err-first.was ∙ c.read_from.ensures.back (x.0, (x.1, (x.2, (x.3, x.4)))) (formed.0, (formed.1, (formed.2, (formed.3, formed.4)))) is))

pub returns-clause-back : goal.returns-clause-back
returns-clause-back g c = λ x formed is.
    let same = same_Some (c.in_ok-first.first, (c.in_ok-first.second, (c.in_ok-first.third, (c.in_ok-first.fourth, c.in_ok-first.others)))) (x.0, (x.1, (x.2, (x.3, x.4))))
    (sym c.in_ok-first.was ∙ c.read_from.ensures.back (x.0, (x.1, (x.2, (x.3, x.4)))) (formed.0, (formed.1, (formed.2, (formed.3, formed.4)))) is) in
    λ i. Some ((same i).0, (same i).1.0, (same i).1.1.0, (same i).1.1.1.0, (same i).1.1.1.1)
