-- What six places of taxes read as, whatever another program wrote there.
use Rattle.std.specs.Prelude.{[], ◌==◌, ◌∷◌, drop, if◌then◌else◌, List, None, Option, option_and_then, option_map, slice_index, Some, suc, take, zero, ℕ}
use Rattle.std.specs.Result.{result_ok}
use Rattle.bsp_ret_writer.specs.Taxes.{code_part, amount_part}
use Rattle.bsp_rows.specs.Tax.{Tax}
use Rattle.bsp_rows.specs.Zoned.{zoned_reading}

-- a tax place, unused where it begins with a space
abbrev pub tax_in : List ℕ → Option (Option Tax)
tax_in place = if slice_index place 0 == 32 then Some None else option_map (λ amount. Some (record { code = code_part place; amount = amount })) (result_ok (zoned_reading 11 (amount_part place)))

-- that many tax places
abbrev pub taxes_in : ℕ → List ℕ → Option (List (Option Tax))
taxes_in zero text = Some []
taxes_in (suc n) text = option_and_then (λ tax. option_map (λ taxes. tax ∷ taxes) (taxes_in n (drop 13 text))) (tax_in (take 13 text))
