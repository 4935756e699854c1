use Rattle.std.proofs.Common.{◌∙◌, ◌≡◌, ◌≢◌, ap, List, refl, Some, sym, ℕ, ℤ}
use Rattle.std.proofs.lemmas.Bool.{ne_eqb}
use Rattle.std.specs.Prelude.{slice_index}
use Rattle.std.specs.Result.{result_ok}
use Rattle.bsp_fields.specs.Zoned.{zoned_reading}
use Rattle.bsp_ret_writer.specs.Taxes.{code_part, amount_part}
use Rattle.bsp_store_columns.specs.TaxPlaces.{tax_in}
use Rattle.bsp_store_columns.proofs.tax_places.read_tax.Goals as goal

-- a place that is used, with its code and its amount
used : (place code : List ℕ) (amount : ℤ) → slice_index place 0 ≢ 32 → code ≡ code_part place → Some amount ≡ result_ok (zoned_reading 11 (amount_part place)) → Some (Some (record { code = code; amount = amount })) ≡ tax_in place
used place code amount is_used is read = rw (ne_eqb _ _ is_used, ← read, is) refl

pub returns : goal.returns
returns c = used c.args.place.now c.code_of.result c.in_ok-amount.amount c.if-place-eq32.false c.code_of.ensures (sym c.in_ok-amount.was ∙ c.ok.ensures.value ∙ ap result_ok c.read_amount.ensures)
