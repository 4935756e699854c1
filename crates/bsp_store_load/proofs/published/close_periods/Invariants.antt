use Rattle.std.proofs.Common.{◌≡◌, ℕ, List, map}
use Rattle.bsp_rows.specs.Period.{Period}
use Rattle.bsp_memory_rows.specs.Tables.{rows_of}
use Rattle.bsp_store_base.proofs.Base.{IsPeriod, period_row}
use Rattle.bsp_store_load.specs.Loading.{MayAll}
use Rattle.bsp_store_load.specs.Stored.{ChangesPlan, MayClose, closing}
use Rattle.bsp_store_load.proofs.PutLemmas.{Goes}
use Rattle.bsp_store_load.proofs.published.close_periods.Given as goal

abbrev pub invariant-loop-row : goal.invariant-loop-row
invariant-loop-row l = record {
  changes : ChangesPlan l.fn.tables l.tables;
  entries : (es : List (ℕ × Period)) → MayAll closing (MayClose IsPeriod) es (rows_of l.fn.tables) → l.rows ≡ map period_row es
      → Goes period_row closing (MayClose IsPeriod) es l.row-index (rows_of l.fn.tables) (rows_of l.tables);
}
