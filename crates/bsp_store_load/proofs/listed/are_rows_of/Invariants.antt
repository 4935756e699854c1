use Rattle.std.specs.List.{filter}
use Rattle.bsp_store_load.proofs.Remaining.{AreLeft}
use Rattle.bsp_store_load.proofs.listed.are_rows_of.Given as goal

abbrev pub invariant-loop-key : goal.invariant-loop-key
invariant-loop-key g l =
    AreLeft g.T.RowOf.row_of g.T.RowOf.has_row l.rows (filter (λ e. g.H.Rule.holds l.rule e.0 e.1) l.entries.entries) l.rest (filter (λ e. g.H.Rule.holds l.rule e.0 e.1) l.key-iterator)
