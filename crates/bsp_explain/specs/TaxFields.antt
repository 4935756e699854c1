-- The fields of six tax places side by side, 13 columns each.
use Rattle.std.specs.Prelude.{ℕ, zero, suc, ◌+◌, ◌*◌, Bool, false, List, [], ◌∷◌, ◌++◌, if◌then◌else◌}
use Rattle.std.specs.List.{list_all}
use Rattle.bsp_fields.specs.Columns.{columns, is_space}
use Rattle.bsp_fields.specs.Taxes.{tax_code}
use Rattle.bsp_explain.specs.declared.form.Form.TheVariants as form
use Rattle.bsp_explain.specs.declared.name.Name.TheVariants as name
use Rattle.bsp_explain.specs.declared.field.Field.{Field}
use Rattle.bsp_explain.specs.Fields.{field}

-- the first column of the place of this index, from 0 to 5, where the first place begins there
abbrev pub place_first : ℕ → ℕ → ℕ
place_first start index = start + 13 * index

abbrev pub place_at : ℕ → List ℕ → ℕ → List ℕ
place_at start line index = columns (place_first start index) (place_first start index + 12) line

-- the place before is unused
abbrev pub is_after_unused : ℕ → List ℕ → ℕ → Bool
is_after_unused start line zero = false
is_after_unused start line (suc index) = list_all is_space (place_at start line index)

-- the tax code of the place before, as a number
abbrev pub code_before : ℕ → List ℕ → ℕ → ℕ
code_before start line zero = 0
code_before start line (suc index) = tax_code (place_at start line index)

abbrev pub used_place_fields : ℕ → ℕ → ℕ → List Field
used_place_fields first number before =
    field first (first + 1) form.LettersOrDigits (name.TaxCode number)
    ∷ field first (first + 1) (form.Above before) (name.TaxPlace number)
    ∷ field (first + 2) (first + 12) form.Amount (name.TaxAmount number)
    ∷ []

abbrev pub unused_place_fields : ℕ → ℕ → List Field
unused_place_fields first number = field first (first + 12) form.Unused (name.TaxPlace number) ∷ []

-- a place of spaces is judged no further; others have to be unused after an unused one, and taxes with codes that rise elsewhere
unfoldable pub place_fields : ℕ → List ℕ → ℕ → List Field
place_fields start line index =
    if list_all is_space (place_at start line index) then []
    else (if is_after_unused start line index then unused_place_fields (place_first start index) (index + 1)
    else used_place_fields (place_first start index) (index + 1) (code_before start line index))

abbrev pub places_from : ℕ → List ℕ → ℕ → ℕ → List Field
places_from start line index zero = []
places_from start line index (suc left) = place_fields start line index ++ places_from start line (suc index) left

unfoldable pub tax_fields : ℕ → List ℕ → List Field
tax_fields start line = places_from start line 0 6
