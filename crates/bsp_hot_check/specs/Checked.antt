-- The totals of a text.
use Rattle.std.specs.Prelude.{◌≡◌, ℕ, List}
use Rattle.bsp_hot_check.specs.declared.model.HotTotals.{HotTotals}
use Rattle.bsp_hot_check.specs.Hot.{File, Hot, totals_of_file}

-- the lines are those of some file with these totals
pub record HasTotals (lines : List (List ℕ)) (totals : HotTotals) : Type 0 where
  pub file : File
  pub stands : Hot lines file
  pub totals_are : totals ≡ totals_of_file file
