use Rattle.std.proofs.Common.{◌≡◌, ◌∷◌, List, ℕ, true, length}
use Rattle.std.specs.List.{list_all}
use Rattle.bsp_fields.specs.Lines.{lines}
use Rattle.bsp_fields.specs.Columns.{is_wide}
use Rattle.bsp_ret.specs.Groups.{records_of, sale_alone, with_records}
use Rattle.bsp_ret.proofs.records.Records.of.Given as goal

abbrev pub invariant-loop-rest : goal.invariant-loop-rest
invariant-loop-rest l = record {
  put : (sale : List ℕ) (more : List (List ℕ)) → lines l.fn.text ≡ sale ∷ more → with_records (records_of l.records) (lines l.rest) ≡ with_records (sale_alone sale) more;
  wide : list_all is_wide (lines l.rest) ≡ true;
}

abbrev pub decreases-loop-rest : goal.decreases-loop-rest
decreases-loop-rest l = length l.rest
