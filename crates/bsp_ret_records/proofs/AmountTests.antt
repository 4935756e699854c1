-- Lemmas on the test of record 5.
use Rattle.std.proofs.Common.{◌≡◌, Bool, true, false, ◌&&◌, List, ℕ, refl, ◌∙◌}
use Rattle.std.specs.List.{list_all}
use Rattle.bsp_fields.specs.Columns.{columns, is_space}
use Rattle.bsp_fields.specs.Fields.{is_amount, spells_at_most}
use Rattle.bsp_fields.proofs.TaxPlaces.{rest_fits, rest_fits-first}
use Rattle.bsp_ret_records.specs.Records.{fare, rate, commission, amounts_fit}

-- a test of two, of which the second was asked where the first passed
pub asked : (value a x y : Bool) → a ≡ true → a ≡ x → value ≡ y → value ≡ (x && y)
asked value a x y passed is rest = rw (← is, passed) rest

-- a test of two, of which the second was spared where the first failed
pub spared : (value a x y : Bool) → a ≡ false → a ≡ x → value ≡ a → value ≡ (x && y)
spared value a x y stopped is same = rw (← is, stopped) (same ∙ stopped)

-- the fields of record 5 in their order
pub amounts_fit-parts : (line : List ℕ) (first second third : Bool) → first ≡ (is_amount (fare line) && rest_fits line 0 0) → second ≡ (first && spells_at_most 10000 (rate line)) → third ≡ (second && is_amount (commission line)) → amounts_fit line ≡ (third && list_all is_space (columns 113 136 line))
unfolding amounts_fit
amounts_fit-parts line first second third first_is second_is third_is =
    rw (third_is, second_is, first_is, rest_fits-first line) refl
