-- The test of taxes, place by place.
use Rattle.std.proofs.Common.{ℕ, Bool, true, false, List, Option, is_none}
use Rattle.std.specs.List.{list_all}
use Rattle.bsp_ret_records.specs.declared.transactions.Tax.{Tax}
use Rattle.bsp_ret_writer.specs.GroupValues.{are_taxes}

-- the test of the places that are left, where an unused one was met or not
abbrev pub rest_fits : Bool → ℕ → List (Option Tax) → Bool
rest_fits true lowest taxes = list_all is_none taxes
rest_fits false lowest taxes = are_taxes lowest taxes
