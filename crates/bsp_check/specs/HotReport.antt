-- The report of `hotcheck` on a HOT file.
use Rattle.std.specs.Prelude.{◌≡◌, ℕ, Bool, true, false, List, [], ◌++◌, codes, ◌⊎◌}
use Rattle.std.specs.Fmt.{decimal}
use Rattle.bsp_fields.specs.Money.{money_text}
use Rattle.bsp_ret.specs.Lines.{lines}
use Rattle.bsp_hot_check.specs.declared.model.HotTotals.{HotTotals}
use Rattle.bsp_hot_check.specs.Hot.{IsFirstFault}
use Rattle.bsp_hot_check.specs.Checked.{HasTotals}
use Rattle.bsp_check.specs.HotLines.{list_text}

-- the line of a file with these totals
abbrev pub totals_text : HotTotals → List ℕ
totals_text totals =
    codes "OK records " ++ (decimal totals.records ++ (codes " documents " ++ (decimal totals.documents ++ (codes " net " ++ (money_text totals.net ++ codes "\n")))))

-- the line of the first record at fault
abbrev pub fault_text : ℕ → List ℕ
fault_text at = codes "H04 record " ++ (decimal at ++ codes "\n")

-- the list of a file with these lines, where it is asked for
abbrev pub list_before : Bool → List (List ℕ) → List ℕ
list_before true lines = list_text lines
list_before false lines = []

-- the text is the report on a file that the bytes are, with its list before it or not
pub record IsTotalsReport (listed : Bool) (bytes text : List ℕ) : Type 0 where
  pub totals : HotTotals
  pub stands : HasTotals (lines bytes) totals
  pub text_is : text ≡ list_before listed (lines bytes) ++ totals_text totals

-- the text is the report on the first record of the bytes at fault
pub record IsFaultReport (bytes text : List ℕ) : Type 0 where
  pub at : ℕ
  pub is_first : IsFirstFault (lines bytes) at
  pub text_is : text ≡ fault_text at

-- the report on these bytes, with its exit status: of a file with a fault there is no list
abbrev pub IsHotReport : Bool → List ℕ → ℕ → List ℕ → Type 0
IsHotReport listed bytes status text = ((status ≡ 0) × IsTotalsReport listed bytes text) ⊎ ((status ≡ 1) × IsFaultReport bytes text)
