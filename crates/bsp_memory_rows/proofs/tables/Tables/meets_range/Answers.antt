use Rattle.bsp_memory_rows.proofs.tables.Tables.meets_range.Goals as goal

pub returns : goal.returns
returns c = λ derived apart. c.meets.ensures derived.of_ranges apart
