-- The list of a HOT file: the lines that its records have.
use Rattle.std.specs.Prelude.{ℕ, ◌+◌, List, [], ◌∷◌, ◌++◌, codes, map, Option, Some, None}
use Rattle.std.specs.List.{concat}
use Rattle.std.specs.Fmt.{decimal}
use Rattle.bsp_fields.specs.Decimal.{fixed_digits}
use Rattle.bsp_fields.specs.Money.{money_text}
use Rattle.bsp_fields.specs.Columns.{columns}
use Rattle.bsp_hot_records.specs.declared.form.FileForm.{FileForm}
use Rattle.bsp_hot_records.specs.declared.form.FileForm.TheVariants.{One}
use Rattle.bsp_hot_records.specs.declared.totals.Sums.{Sums}
use Rattle.bsp_hot_records.specs.declared.totals.Totals.{Totals}
use Rattle.bsp_hot_records.specs.declared.model.Document.{Document}
use Rattle.bsp_hot_records.specs.declared.model.Heading.{Heading}
use Rattle.bsp_hot_records.specs.declared.model.Part.{Part}
use Rattle.bsp_hot_records.specs.declared.model.Record.{Record}
use Rattle.bsp_hot_records.specs.declared.model.Record.TheVariants as record_is
use Rattle.bsp_hot_records.specs.Records.{code_text}
use Rattle.bsp_hot_records.specs.Reading.{judged_at}
use Rattle.bsp_hot_records.specs.Sums.{one_document, add, sum_of, with_net}
use Rattle.bsp_hot_check.specs.Standings.{judged_sums}

-- ---- the amounts of a document

-- what a record says where it is a part of a document
abbrev pub part_said : Option Record → Option Part
part_said (Some (record_is.PartOf y)) = Some y.part
part_said _ = None

abbrev pub part_before : Option Part → List Part → List Part
part_before None more = []
part_before (Some y) more = y ∷ more

-- the parts of a document that lines begin with, from record number n on
unfoldable pub parts_in : FileForm → ℕ → List (List ℕ) → List Part
parts_in form n [] = []
parts_in form n (line ∷ lines) = part_before (part_said (judged_at form n line)) (parts_in form (n + 1) lines)

-- a document, of the lines that follow its BKS24: what it adds to the totals of its agent
abbrev pub document_sums : FileForm → ℕ → List (List ℕ) → Sums
document_sums form n lines = add one_document (sum_of (map judged_sums (parts_in form n lines)))

-- ---- lines

unfoldable pub payments_text : Sums → List ℕ
payments_text s = codes " CA " ++ (money_text s.cash ++ (codes " CC " ++ money_text s.credit))

unfoldable pub charges_text : Sums → List ℕ
charges_text s = codes " commission " ++ (money_text s.commission ++ (codes " tax " ++ money_text s.tax))

-- cash, credit, commission, tax on commission and net
unfoldable pub amounts_text : Totals → List ℕ
amounts_text t = payments_text t.sums ++ (charges_text t.sums ++ (codes " net " ++ (money_text t.net ++ codes "\n")))

unfoldable pub listed_totals_text : Totals → List ℕ
listed_totals_text t = codes " documents " ++ (decimal t.sums.documents ++ amounts_text t)

-- the agent, the code and the number of a document
unfoldable pub document_key : Document → List ℕ
document_key d = concat (fixed_digits 8 d.agent ∷ codes " " ∷ code_text d.code ∷ codes " " ∷ fixed_digits 10 d.number ∷ [])

-- the day of issue of BKS24, of the years 2000 to 2099
unfoldable pub issued_text : List ℕ → List ℕ
issued_text line = concat (codes " 20" ∷ columns 22 23 line ∷ codes "-" ∷ columns 24 25 line ∷ codes "-" ∷ columns 26 27 line ∷ [])

abbrev pub listed_document_text : Document → List ℕ → Totals → List ℕ
listed_document_text d line t = document_key d ++ (issued_text line ++ amounts_text t)

unfoldable pub heading_text : Heading → List ℕ
heading_text h = concat (codes "airline " ∷ fixed_digits 3 h.airline ∷ codes " period " ∷ fixed_digits 5 h.period ∷ codes "\n" ∷ [])

-- the line of a record, where it has one; a document has the amounts of the records that follow it
abbrev pub listed : Record → List ℕ → Sums → List ℕ
listed (record_is.FileHeader h) line sums = heading_text h
listed (record_is.Document d) line sums = listed_document_text d line (with_net sums)
listed (record_is.OfficeTotals t) line sums = fixed_digits 8 t.agent ++ listed_totals_text t.totals
listed (record_is.FileTotals t) line sums = codes "total" ++ listed_totals_text t.totals
listed _ line sums = []

-- ---- the list

-- the form of the file after a record, before which it was this
abbrev pub form_after : FileForm → Record → FileForm
form_after form (record_is.FileHeader h) = h.form
form_after form _ = form

-- nothing where a line is no record
abbrev pub listed_or : Option Record → (Record → List ℕ) → List ℕ
listed_or None more = []
listed_or (Some r) more = more r

-- lines of a file of this form, from record number n on, up to the first that is no record
unfoldable pub list_from : FileForm → ℕ → List (List ℕ) → List ℕ
list_from form n [] = []
list_from form n (line ∷ lines) =
    listed_or (judged_at form n line) (λ r. listed r line (document_sums form (n + 1) lines) ++ list_from (form_after form r) (n + 1) lines)

-- the list of a file with these lines
abbrev pub list_text : List (List ℕ) → List ℕ
list_text lines = list_from One 1 lines
