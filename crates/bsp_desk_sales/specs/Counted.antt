-- How many transactions count against the documents limit.
use Rattle.std.specs.Prelude.{ℕ, Option, Some, None}
use Rattle.bsp_rows.specs.Published.{target_of}
use Rattle.bsp_rows.specs.Transaction.{Transaction}
use Rattle.bsp_rows.specs.Rows.{Rows}
use Rattle.bsp_rows.specs.Tallies.{tally_of}

-- those that the agent has in this period for the transaction's airline; none without a period
abbrev pub count_in_period : ℕ → Transaction → Option ℕ → Rows → ℕ
count_in_period agent t None rows = 0
count_in_period agent t (Some period) rows = (tally_of (record { agent = agent; airline = t.document.airline; period = period }) rows).accepted

-- those of the agent and the transaction's airline in its target period; none without a target
abbrev pub count_at : ℕ → Transaction → Rows → ℕ
count_at agent t rows = count_in_period agent t (target_of rows.published t.issued) rows
