use Rattle.std.proofs.Common.{◌≡◌, ◌≤◌, drop, length, replicate, take, ℕ}
use Rattle.sqlite_value.specs.declared.value.ValueRef.TheVariants.{Null}
use Rattle.sqlite.specs.Values.{bound}
use Rattle.bsp_store_columns.specs.Cells.{widest, written}
use Rattle.bsp_store_columns.proofs.cells.values_of.Given as goal

abbrev pub invariant-loop-at : goal.invariant-loop-at
invariant-loop-at l = record {
  wide : length l.values ≡ widest;
  so_far : bound (take l.at l.values) ≡ written (take l.at l.cells);
  rest : (k : ℕ) → l.at ≤ k → drop k l.values ≡ drop k (replicate widest Null);
}
