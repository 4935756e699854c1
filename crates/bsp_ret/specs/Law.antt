-- What the fault table has to do with the files.
use Rattle.std.specs.Prelude.{◌≡◌, ℕ, List, None}
use Rattle.bsp_ret.specs.Table.{first_fault}
use Rattle.bsp_ret.specs.Ret.{File, Ret}

-- no record is at fault exactly where some file stands in Ret with the lines, and no two files do
pub record FaultOrFile (lines : List (List ℕ)) : Type 0 where
  pub file : first_fault lines ≡ None → (file : File) × Ret lines file
  pub none : (file : File) → Ret lines file → first_fault lines ≡ None
  pub one : (file other : File) → Ret lines file → Ret lines other → file ≡ other
