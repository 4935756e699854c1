-- The lines that are written for a transaction's values.
use Rattle.std.specs.Prelude.{◌≡◌, ℕ, suc, ℤ, List, [], ◌∷◌, ◌++◌, Option, Some, None, Ok, map, replicate, codes}
use Rattle.std.specs.List.{concat}
use Rattle.std.specs.Option.{option_map}
use Rattle.bsp_fields.specs.Decimal.{fixed_digits}
use Rattle.bsp_fields.specs.Zoned.{spelling, zoned_reading}
use Rattle.bsp_fields.specs.Days.{record_text}
use Rattle.bsp_ret_records.specs.Texts.{code_text}
use Rattle.bsp_ret_records.specs.declared.transactions.ReportedDocument.{ReportedDocument}
use Rattle.bsp_ret_records.specs.declared.transactions.Tax.{Tax}
use Rattle.bsp_ret_records.specs.declared.transactions.Amounts.{Amounts}
use Rattle.bsp_ret_records.specs.declared.transactions.CardPayment.{CardPayment}
use Rattle.bsp_ret_records.specs.declared.transactions.Transaction.{Transaction}
use Rattle.bsp_fields.specs.Lines.{lines}
use Rattle.bsp_ret_records.specs.Records.{record_count, transaction_count, total}
use Rattle.bsp_ret.specs.Ret.{Group, File, file_lines, lines_of, flatten, Ret}
use Rattle.bsp_ret_writer.specs.GroupValues.{related_of, second_of}
use Rattle.bsp_ret.specs.Content.{HasContent}

abbrev pub spaces : ℕ → List ℕ
spaces count = replicate count 32

-- airline, document and check digit
abbrev pub document_fields : ReportedDocument → List (List ℕ)
document_fields d = fixed_digits 3 d.airline ∷ d.number ∷ fixed_digits 1 d.check_digit ∷ []

-- a tax place
abbrev pub tax_text : Option Tax → List ℕ
tax_text None = spaces 13
tax_text (Some tax) = tax.code ++ spelling 11 tax.amount

-- ---- the records of transaction n

unfoldable pub sale_line : ℕ → Transaction → List ℕ
sale_line n t =
    concat
    (codes "2" ∷ fixed_digits 6 n ∷ code_text t.code ∷ t.agent
    ∷ (document_fields t.document ++ (record_text t.issued ∷ t.passenger ∷ spaces 48 ∷ [])))

unfoldable pub related_line : ℕ → ReportedDocument → List ℕ
related_line n d = concat (codes "3" ∷ fixed_digits 6 n ∷ (document_fields d ++ (spaces 115 ∷ [])))

unfoldable pub amounts_line : ℕ → Amounts → List ℕ
amounts_line n a =
    concat
    (codes "5" ∷ fixed_digits 6 n ∷ spelling 11 a.fare
    ∷ (map tax_text a.taxes ++ (fixed_digits 5 a.rate ∷ spelling 11 a.commission ∷ spaces 24 ∷ [])))

-- a record 8: its form, its amount and the card's vendor or spaces
unfoldable pub form_line : ℕ → List ℕ → ℤ → List ℕ → List ℕ
form_line n form amount vendor =
    concat (codes "8" ∷ fixed_digits 6 n ∷ form ∷ spelling 11 amount ∷ vendor ∷ spaces 114 ∷ [])

abbrev pub cash_line : ℕ → ℤ → List ℕ
cash_line n amount = form_line n (codes "CA") amount (spaces 2)

abbrev pub credit_line : ℕ → CardPayment → List ℕ
credit_line n p = form_line n (codes "CC") p.amount p.vendor

abbrev pub exchange_line : ℕ → ℤ → List ℕ
exchange_line n amount = form_line n (codes "EX") amount (spaces 2)

abbrev pub group_of : ℕ → Transaction → Group
group_of n t = record {
  sale = sale_line n t;
  related = option_map (related_line n) (related_of t);
  second = option_map (related_line n) (second_of t);
  amounts = option_map (amounts_line n) t.amounts;
  cash = option_map (cash_line n) t.cash;
  credit = option_map (credit_line n) t.credit;
  exchange = option_map (exchange_line n) t.exchange;
}

-- the lines that are written for transaction n
abbrev pub group_lines : ℕ → Transaction → List (List ℕ)
group_lines n t = lines_of (group_of n t)

-- lines, each with LF behind it
abbrev pub text_of : List (List ℕ) → List ℕ
text_of lines = concat (map (λ line. line ++ 10 ∷ []) lines)

-- the groups that are written for transactions, from number n on
abbrev pub written_groups : ℕ → List Transaction → List (List (List ℕ))
written_groups n [] = []
written_groups n (t ∷ ts) = group_lines n t ∷ written_groups (suc n) ts

-- a trailer of this line's counts, with this sum
unfoldable pub trailer_line : List ℕ → ℤ → List ℕ
trailer_line line sum = concat (codes "Z" ∷ record_count line ∷ transaction_count line ∷ spelling 15 sum ∷ spaces 106 ∷ [])

-- the file that is written: the header as it stands, the transactions and the sum in their one spelling
abbrev pub written_file : File → List Transaction → ℤ → File
written_file file transactions sum = record {
  header = file.header;
  groups = written_groups 1 transactions;
  trailer = trailer_line file.trailer sum;
}

-- the groups have these values, from number n on
abbrev pub HaveContents : ℕ → List (List (List ℕ)) → List Transaction → Type 0
HaveContents n [] [] = Unit {0}
HaveContents n (group ∷ groups) (t ∷ ts) = HasContent n group t × HaveContents (suc n) groups ts
HaveContents n [] (t ∷ ts) = ⊥
HaveContents n (group ∷ groups) [] = ⊥

-- values that both the groups and what is written for them have, and that text behind the old one
pub record AreWritten (old : List ℕ) (groups : List (List (List ℕ))) (text : List ℕ) : Type 0 where
  pub transactions : List Transaction
  pub contents : HaveContents 1 groups transactions
  pub same_contents : HaveContents 1 (written_groups 1 transactions) transactions
  pub text_is : text ≡ old ++ text_of (flatten (written_groups 1 transactions))

-- a sum that the trailer has and what is written for it, too
pub record IsWrittenTrailer (trailer : List ℕ) (sum : ℤ) : Type 0 where
  pub sum_is : zoned_reading 15 (total trailer) ≡ Ok sum
  pub same_sum : zoned_reading 15 (spelling 15 sum) ≡ Ok sum

-- the text is the file's in the one spelling of each amount and of the sum, and stands in Ret with a file of the same values
pub record IsWritten (file : File) (text : List ℕ) : Type 0 where
  pub transactions : List Transaction
  pub sum : ℤ
  pub contents : HaveContents 1 file.groups transactions
  pub sum_is : zoned_reading 15 (total file.trailer) ≡ Ok sum
  pub text_is : text ≡ text_of (file_lines (written_file file transactions sum))
  pub stands : Ret (lines text) (written_file file transactions sum)
  pub same_contents : HaveContents 1 (written_groups 1 transactions) transactions
  pub same_sum : zoned_reading 15 (total (trailer_line file.trailer sum)) ≡ Ok sum
