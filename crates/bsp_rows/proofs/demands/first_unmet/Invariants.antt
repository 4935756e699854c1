use Rattle.std.specs.List.{AllByRecursion, Contains}
use Rattle.bsp_rows.proofs.demands.first_unmet.Given as goal

-- what is left are entries, and where it meets the demand, all entries do
abbrev pub invariant-loop-key : goal.invariant-loop-key
invariant-loop-key g l =
    (AllByRecursion (λ e. g.D.Demand.asks l.demand e.0 e.1) l.key-iterator → AllByRecursion (λ e. g.D.Demand.asks l.demand e.0 e.1) l.entries.entries)
    × AllByRecursion (Contains l.entries.entries) l.key-iterator
