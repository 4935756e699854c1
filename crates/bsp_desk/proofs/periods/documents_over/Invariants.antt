use Rattle.std.proofs.Common.{◌≡◌, ℕ, ◌<◌, ◌≤◌, ◌*◌, ◌^◌, get_or, length, take}
use Rattle.std.specs.List.{sum_by}
use Rattle.bsp_statement.specs.Tallies.{tally_postings}
use Rattle.bsp_statement.specs.declared.tally.Tally.{Tally}
use Rattle.bsp_desk.proofs.periods.documents_over.Given as goal

abbrev pub invariant-loop-tally : goal.invariant-loop-tally
invariant-loop-tally l = record {
  small : l.documents ≤ l.tally-index * 2 ^ 32;
  sum : length l.tallies ≤ 1000 → l.documents ≡ sum_by (λ p. p.documents) (tally_postings l.period (take l.tally-index l.tallies));
  codes : (k : ℕ) (d : Tally) → k < l.tally-index → (get_or l.tallies k d).airline < 10 ^ 3;
}
