use Rattle.bsp_store_open.proofs.opening.empty_list.Goals as goal

pub returns-clause-read : goal.returns-clause-read
returns-clause-read g c = λ order. let none = rw c.tables.ensures at c.in_ok-expect_none.ensures in rw none at (c.in_ok-list.ensures.read order)
