-- What is shown of a period.
use Rattle.std.specs.Prelude.{ℕ, Bool, List}
use Rattle.std.specs.List.{sum_by}
use Rattle.bsp_messages.specs.declared.answer.PeriodShown.{PeriodShown}
use Rattle.bsp_statement.specs.Nets.{net_of_postings}
use Rattle.bsp_statement.specs.declared.posting.Posting.{Posting}

-- what postings add up to
abbrev pub shown_over : Bool → ℕ → List Posting → PeriodShown
shown_over closed period rows = record {
  closed = closed;
  documents = sum_by (λ p. p.documents) rows;
  net = net_of_postings rows;
  period = period;
}
