-- The report of `check` on a RET file.
use Rattle.std.specs.Prelude.{◌≡◌, ℕ, suc, ℤ, List, [], ◌∷◌, ◌++◌, length, codes, Some, ◌⊎◌}
use Rattle.std.specs.List.{concat}
use Rattle.std.specs.Fmt.{decimal}
use Rattle.bsp_fields.specs.Decimal.{fixed_digits}
use Rattle.bsp_fields.specs.Days.{day_text}
use Rattle.bsp_fields.specs.Money.{money_text}
use Rattle.bsp_ret.specs.ReportedDocument.{ReportedDocument}
use Rattle.bsp_ret.specs.Sale.{Sale}
use Rattle.bsp_ret.specs.PaidSale.{PaidSale}
use Rattle.bsp_ret.specs.Sales.{HaveSales}
use Rattle.bsp_ret.specs.declared.model.RetFault.{RetFault}
use Rattle.bsp_ret.specs.RetRecordsTexts.{code_text}
use Rattle.bsp_ret.specs.Texts.{fault_text}
use Rattle.bsp_ret.specs.Lines.{lines}
use Rattle.bsp_ret.specs.Table.{total_paid, first_fault}
use Rattle.bsp_ret.specs.Ret.{File, Ret, flatten, file_lines}

unfoldable pub document_text : ReportedDocument → List ℕ
document_text d = concat (fixed_digits 3 d.airline ∷ codes "-" ∷ d.number ∷ codes "-" ∷ fixed_digits 1 d.check_digit ∷ [])

unfoldable pub sale_text : Sale → List ℕ
sale_text s = concat (code_text s.code ∷ codes " " ∷ s.agent ∷ codes " " ∷ document_text s.document ∷ codes " " ∷ day_text s.issued ∷ [])

-- the line of transaction n
unfoldable pub transaction_text : ℕ → PaidSale → List ℕ
transaction_text n p = concat (fixed_digits 6 n ∷ codes " " ∷ sale_text p.sale ∷ codes " " ∷ money_text p.paid ∷ codes "\n" ∷ [])

-- the lines of transactions, from number n on
abbrev pub transactions_text : ℕ → List PaidSale → List ℕ
transactions_text n [] = []
transactions_text n (p ∷ sales) = transaction_text n p ++ transactions_text (suc n) sales

abbrev pub total_text : ℕ → ℕ → ℤ → List ℕ
total_text records transactions sum =
    codes "records " ++ (decimal records ++ (codes " transactions " ++ (decimal transactions ++ (codes " sum " ++ (money_text sum ++ codes "\n")))))

-- the report on a file whose groups have these records 2
abbrev pub file_report : File → List PaidSale → List ℕ
file_report file sales =
    transactions_text 1 sales ++ total_text (length (file_lines file)) (length file.groups) (total_paid (flatten file.groups))

abbrev pub fault_report : RetFault → List ℕ
fault_report fault = fault_text fault.code ++ codes " record " ++ decimal fault.at ++ codes "\n"

-- the text is the report on a file that the bytes are
pub record IsFileReport (bytes text : List ℕ) : Type 0 where
  pub file : File
  pub stands : Ret (lines bytes) file
  pub sales : List PaidSale
  pub have : HaveSales 1 file.groups sales
  pub text_is : text ≡ file_report file sales

-- the text is the report on the first fault of the bytes
pub record IsFaultReport (bytes text : List ℕ) : Type 0 where
  pub fault : RetFault
  pub is_first : first_fault (lines bytes) ≡ Some fault
  pub text_is : text ≡ fault_report fault

-- the report on these bytes, with its exit status
abbrev pub IsRetReport : List ℕ → ℕ → List ℕ → Type 0
IsRetReport bytes status text = ((status ≡ 0) × IsFileReport bytes text) ⊎ ((status ≡ 1) × IsFaultReport bytes text)
