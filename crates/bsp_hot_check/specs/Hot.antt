-- HOT files: two headers, for each agent its office, and the totals.
use Rattle.std.specs.Prelude.{◌≡◌, ◌<◌, ◌≤◌, ℕ, ℤ, pos, ◌+◌, ◌-◌, ◌==◌, nat_lt, Bool, true, ◌&&◌, ◌||◌, List, [], ◌∷◌, ◌++◌, length, take, map, filter, Option, Some, None, ◌⊎◌}
use Rattle.bsp_hot_records.specs.declared.code.DocumentCode.{DocumentCode}
use Rattle.bsp_hot_records.specs.declared.code.DocumentCode.TheVariants.{Tktt, Rfnd, Canx, Adma, Acma}
use Rattle.bsp_hot_records.specs.declared.form.FileForm.{FileForm}
use Rattle.bsp_hot_records.specs.declared.form.FileForm.TheVariants.{One, Two}
use Rattle.bsp_hot_records.specs.declared.totals.Sums.{Sums}
use Rattle.bsp_hot_check.specs.declared.model.HotTotals.{HotTotals}
use Rattle.bsp_hot_records.specs.Records.{Days, Heading, Document, Amounts, Commission, CommissionTax, Related, CardPayment, Part, amounts, commission, commission_tax, related, cash, credit, exchange, Record, file_header, period_header, office_header, transaction_header, document, part, code_totals, office_totals, period_totals, file_totals, is_blank, number_in, AreRecords}
use Rattle.bsp_hot_records.specs.Sums.{no_sums, one_document, add, sum_of, with_net, rank, is_code, all_codes}

-- ---- items

-- the forms CA and CC: either, or both in this order
pub data Forms : Type 0 where
  cash_only : ℤ → Forms
  credit_only : CardPayment → Forms
  cash_and_credit : ℤ → CardPayment → Forms

-- BKS39, and in form 2 the BKS42 behind it
pub data Charges : Type 0 where
  commission_only : Commission → Charges
  commission_and_tax : Commission → CommissionTax → Charges

-- the related documents of an exchange: one, or two
pub data RelatedDocuments : Type 0 where
  one : Related → RelatedDocuments
  two : Related → Related → RelatedDocuments

-- what stands behind BKS24: a TKTT is a sale, or an exchange with its related documents and the form EX; an RFND has a related document and no EX; a memo has amounts and the form CA
pub data Body : Type 0 where
  sale : Amounts → Charges → Forms → Body
  exchanged : Amounts → Charges → RelatedDocuments → Option Forms → ℤ → Body
  refund : Amounts → Charges → Related → Forms → Body
  cancellation : Body
  debit_memo : Amounts → ℤ → Body
  credit_memo : Amounts → ℤ → Body

-- a document under its code, and the records behind BKS24
pub record Item : Type 0 where
  pub code : DocumentCode
  pub document_is : Document
  pub parts : List Part

pub record Office : Type 0 where
  pub agent : ℕ
  pub items : List Item

-- the heading, the days of BCH02, and an office for each agent
pub record File : Type 0 where
  pub heading : Heading
  pub days : Days
  pub offices : List Office

abbrev pub code_of_body : Body → DocumentCode
code_of_body (sale a c forms) = Tktt
code_of_body (exchanged a c r forms ex) = Tktt
code_of_body (refund a c r forms) = Rfnd
code_of_body cancellation = Canx
code_of_body (debit_memo a paid) = Adma
code_of_body (credit_memo a paid) = Acma

abbrev pub charges_parts : Charges → List Part
charges_parts (commission_only c) = commission c ∷ []
charges_parts (commission_and_tax c t) = commission c ∷ commission_tax t ∷ []

abbrev pub forms_parts : Forms → List Part
forms_parts (cash_only paid) = cash paid ∷ []
forms_parts (credit_only card) = credit card ∷ []
forms_parts (cash_and_credit paid card) = cash paid ∷ credit card ∷ []

abbrev pub related_parts : RelatedDocuments → List Part
related_parts (one r) = related r ∷ []
related_parts (two r s) = related r ∷ related s ∷ []

-- the records behind BKS24
abbrev pub parts_of : Body → List Part
parts_of (sale a c forms) = amounts a ∷ (charges_parts c ++ forms_parts forms)
parts_of (exchanged a c r None ex) = amounts a ∷ (charges_parts c ++ (related_parts r ++ exchange ex ∷ []))
parts_of (exchanged a c r (Some forms) ex) =
    amounts a ∷ (charges_parts c ++ (related_parts r ++ (forms_parts forms ++ exchange ex ∷ [])))
parts_of (refund a c r forms) = amounts a ∷ (charges_parts c ++ related r ∷ forms_parts forms)
parts_of cancellation = []
parts_of (debit_memo a paid) = amounts a ∷ cash paid ∷ []
parts_of (credit_memo a paid) = amounts a ∷ cash paid ∷ []

-- the form of a file that has them
abbrev pub form_of_charges : Charges → FileForm
form_of_charges (commission_only c) = One
form_of_charges (commission_and_tax c t) = Two

-- they are the airline's own, and of two the second has the greater number
abbrev pub AreOwn : ℕ → RelatedDocuments → Type 0
AreOwn airline (one r) = r.airline ≡ airline
AreOwn airline (two r s) = (r.airline ≡ airline) × (s.airline ≡ airline) × (number_in r.number < number_in s.number)

-- in a file of this form and airline: a commission has its tax in form 2 alone, a related document is the airline's own, and a memo has no taxes
abbrev pub IsBody : FileForm → ℕ → Body → Type 0
IsBody form airline (sale a c forms) = form_of_charges c ≡ form
IsBody form airline (exchanged a c r forms ex) = (form_of_charges c ≡ form) × AreOwn airline r
IsBody form airline (refund a c r forms) = (form_of_charges c ≡ form) × (r.airline ≡ airline)
IsBody form airline cancellation = Unit {0}
IsBody form airline (debit_memo a paid) = is_blank a.taxes ≡ true
IsBody form airline (credit_memo a paid) = is_blank a.taxes ≡ true

-- the item is a sale, an exchange, a refund, a cancellation or a memo
pub record IsItem (form : FileForm) (airline : ℕ) (it : Item) : Type 0 where
  pub body : Body
  pub code : it.code ≡ code_of_body body
  pub parts : it.parts ≡ parts_of body
  pub sound : IsBody form airline body

-- ---- order

-- a code and a number come before others: by the code, then by the number
abbrev pub is_before : DocumentCode → ℕ → DocumentCode → ℕ → Bool
is_before c m d n = nat_lt (rank c) (rank d) || ((rank c == rank d) && nat_lt m n)

abbrev pub IsAfter : Option Item → Item → Type 0
IsAfter None it = Unit {0}
IsAfter (Some before) it = is_before before.code before.document_is.number it.code it.document_is.number ≡ true

-- items behind another, or the first ones: they rise by code and then by number
abbrev pub AreItems : FileForm → ℕ → Option Item → List Item → Type 0
AreItems form airline before [] = Unit {0}
AreItems form airline before (it ∷ items) = IsAfter before it × IsItem form airline it × AreItems form airline (Some it) items

abbrev pub IsBehind : Option ℕ → ℕ → Type 0
IsBehind None agent = Unit {0}
IsBehind (Some before) agent = before < agent

-- offices behind an agent's, or the first ones: agents rise, and each has an item
abbrev pub AreOffices : FileForm → ℕ → Option ℕ → List Office → Type 0
AreOffices form airline before [] = Unit {0}
AreOffices form airline before (o ∷ offices) =
    IsBehind before o.agent × (0 < length o.items) × AreItems form airline None o.items
    × AreOffices form airline (Some o.agent) offices

-- ---- sums

-- BKS39 adds to the commission, BKS42 to the tax, and BKP84 to cash or credit; EX is in no total
abbrev pub part_sums : Part → Sums
part_sums (amounts a) = no_sums
part_sums (commission c) = record { documents = 0; cash = pos 0; credit = pos 0; commission = c.amount; tax = pos 0 }
part_sums (commission_tax t) = record { documents = 0; cash = pos 0; credit = pos 0; commission = pos 0; tax = t.amount }
part_sums (related r) = no_sums
part_sums (cash paid) = record { documents = 0; cash = paid; credit = pos 0; commission = pos 0; tax = pos 0 }
part_sums (credit card) = record { documents = 0; cash = pos 0; credit = card.amount; commission = pos 0; tax = pos 0 }
part_sums (exchange ex) = no_sums

-- a document with these records behind BKS24
abbrev pub document_sums : List Part → Sums
document_sums parts = add one_document (sum_of (map part_sums parts))

abbrev pub item_sums : Item → Sums
item_sums it = document_sums it.parts

abbrev pub items_sums : List Item → Sums
items_sums items = sum_of (map item_sums items)

-- the items of one code
abbrev pub code_sums : DocumentCode → List Item → Sums
code_sums c items = items_sums (filter (λ it. is_code c it.code) items)

abbrev pub file_sums : List Office → Sums
file_sums offices = sum_of (map (λ o. items_sums o.items) offices)

-- ---- records

-- the item of transaction n
abbrev pub item_records : ℕ → ℕ → ℕ → Item → List Record
item_records airline agent n it =
    transaction_header n airline ∷ document n agent it.code it.document_is ∷ map (part n) it.parts

abbrev pub items_records : ℕ → ℕ → ℕ → List Item → List Record
items_records airline agent n [] = []
items_records airline agent n (it ∷ items) = item_records airline agent n it ++ items_records airline agent (n + 1) items

-- some document of the code stands
abbrev pub has_code : List Item → DocumentCode → Bool
has_code items c = nat_lt 0 (code_sums c items).documents

-- a BOT93 for each of the codes that has an item
abbrev pub codes_records : ℕ → List Item → List DocumentCode → List Record
codes_records agent items some_codes =
    map (λ c. code_totals agent c (with_net (code_sums c items))) (filter (has_code items) some_codes)

abbrev pub closing_records : ℕ → List Item → List Record
closing_records agent items = codes_records agent items all_codes ++ office_totals agent (with_net (items_sums items)) ∷ []

-- an office whose first transaction is n
abbrev pub office_records : Heading → ℕ → Office → List Record
office_records h n o =
    office_header o.agent h.period h.currency
    ∷ (items_records h.airline o.agent n o.items ++ closing_records o.agent o.items)

abbrev pub offices_records : Heading → ℕ → List Office → List Record
offices_records h n [] = []
offices_records h n (o ∷ offices) = office_records h n o ++ offices_records h (n + length o.items) offices

abbrev pub headers : File → List Record
headers f = file_header f.heading ∷ period_header f.heading.period f.days ∷ []

abbrev pub all_but_last : File → List Record
all_but_last f =
    headers f
    ++ (offices_records f.heading 1 f.offices
    ++ period_totals f.heading.period (length f.offices) (with_net (file_sums f.offices)) ∷ [])

-- the records of a file
abbrev pub records_of : File → List Record
records_of f =
    all_but_last f ++ file_totals f.heading.airline (length (all_but_last f) + 1) (with_net (file_sums f.offices)) ∷ []

-- ---- files

abbrev pub IsFile : File → Type 0
IsFile f = AreOffices f.heading.form f.heading.airline None f.offices

-- the lines are the records of the file, in its form
pub record Hot (lines : List (List ℕ)) (file : File) : Type 0 where
  pub records : AreRecords file.heading.form 1 lines (records_of file)
  pub sound : IsFile file

abbrev pub totals_of_file : File → HotTotals
totals_of_file f = record {
  records = length (records_of f);
  documents = (file_sums f.offices).documents;
  net = (with_net (file_sums f.offices)).net;
}

-- the lines are the first records of some file
pub record BeginFile (lines : List (List ℕ)) : Type 0 where
  pub records : List Record
  pub file : File
  pub are : AreRecords file.heading.form 1 lines records
  pub sound : IsFile file
  pub more : List Record
  pub joined : records ++ more ≡ records_of file

-- the record with this number is the first at fault: those before it are the first records of some file, and with it they are not, or it is the one that is missing
pub record IsFirstFault (lines : List (List ℕ)) (at : ℕ) : Type 0 where
  pub counted : 1 ≤ at
  pub before : BeginFile (take (at - 1) lines)
  pub fault : ((at ≤ length lines) × (BeginFile (take at lines) → ⊥)) ⊎ ((at ≡ length lines + 1) × ((file : File) → Hot lines file → ⊥))

-- some record is at fault or some file has the lines, and not both; no two records are the first at fault, and no two files of the lines have other totals
pub record HotOrFault (lines : List (List ℕ)) : Type 0 where
  pub one : ((at : ℕ) × IsFirstFault lines at) ⊎ ((file : File) × Hot lines file)
  pub not_both : (at : ℕ) (file : File) → IsFirstFault lines at → Hot lines file → ⊥
  pub one_fault : (at other : ℕ) → IsFirstFault lines at → IsFirstFault lines other → at ≡ other
  pub same_totals : (file other : File) → Hot lines file → Hot lines other → totals_of_file file ≡ totals_of_file other
