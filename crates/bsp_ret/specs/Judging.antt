-- A file that is judged record by record: what was taken of it, and its transactions.
use Rattle.std.specs.Prelude.{◌≡◌, ◌≤◌, ℕ, ℤ, pos, ◌+◌, ◌*◌, ◌^◌, ◌+ℤ◌, unsigned_abs, Bool, true, false, List, [], ◌∷◌, ◌++◌, length, Option, Some, None, IfSome, is_some, if◌then◌else◌}
use Rattle.bsp_ret_records.specs.declared.transactions.PaidSale.{PaidSale}
use Rattle.bsp_ret_records.specs.Values.{IsSale}
use Rattle.bsp_ret.specs.declared.model.LastRecord.{LastRecord}
use Rattle.bsp_ret.specs.declared.model.LastRecord.TheVariants as last
use Rattle.bsp_ret.specs.declared.model.Record.{Record}
use Rattle.bsp_ret.specs.declared.model.Record.TheVariants as said
use Rattle.bsp_ret.specs.declared.model.Standing.{Standing}
use Rattle.bsp_ret.specs.declared.judging.FileTotals.{FileTotals}
use Rattle.bsp_ret.specs.Table.{standing, total_paid}
use Rattle.bsp_ret.specs.Ret.{Ret, File, flatten, file_lines}
use Rattle.bsp_ret.specs.Reading.{Draft, read_from, read_all}
use Rattle.bsp_ret.specs.Sales.{HaveSales}
use Rattle.bsp_ret.specs.Payments.{forms_up_to}

-- the state of the records, and the last transaction, where it may go on
pub record Judged : Type 0 where
  pub at : Standing
  pub begun : Option PaidSale

-- the first of these lines has the values of the record 2, and all have the sum of its forms
pub record IsSaleOf (group : List (List ℕ)) (p : PaidSale) : Type 0 where
  pub sale : (first : List ℕ) (more : List (List ℕ)) → group ≡ first ∷ more → IsSale first p.sale
  pub paid : p.paid ≡ total_paid group

-- a transaction has begun with these lines, or there are none
abbrev pub HasBegun : List (List ℕ) → Option PaidSale → Type 0
HasBegun [] begun = begun ≡ None
HasBegun (line ∷ more) None = ⊥
HasBegun (line ∷ more) (Some p) = IsSaleOf (line ∷ more) p

abbrev pub AreSalesOf : List (List (List ℕ)) → List PaidSale → Type 0
AreSalesOf [] [] = Unit {0}
AreSalesOf (group ∷ groups) (p ∷ sales) = IsSaleOf group p × AreSalesOf groups sales
AreSalesOf [] (p ∷ sales) = ⊥
AreSalesOf (group ∷ groups) [] = ⊥

-- these lines were taken: none is at fault, and these are the transactions that are complete
pub record AreTaken (ls : List (List ℕ)) (j : Judged) (sales : List PaidSale) : Type 0 where
  pub state : j.at ≡ standing ls
  pub draft : Draft
  pub reads : (more : List (List ℕ)) → read_all (ls ++ more) ≡ read_from j.at draft more
  pub begun : HasBegun draft.latest j.begun
  pub complete : AreSalesOf draft.closed sales
  pub count : j.at.transactions ≡ length sales + (if is_some j.begun then 1 else 0)

-- the lines are a file with these transactions, and with these totals
pub record IsFileOf (ls : List (List ℕ)) (sales : List PaidSale) (totals : FileTotals) : Type 0 where
  pub file : File
  pub ret : Ret ls file
  pub sales_are : HaveSales 1 file.groups sales
  pub records : totals.records ≡ length (file_lines file)
  pub transactions : totals.transactions ≡ length file.groups
  pub sum : totals.sum ≡ total_paid (flatten file.groups)

-- ---- what a record does to the last transaction

-- a record 2 and a trailer complete it
abbrev pub completed : Option PaidSale → Record → Option PaidSale
completed begun (said.Sale code) = begun
completed begun said.Trailer = begun
completed begun _ = None

-- a form of payment adds to it
abbrev pub with_payment : Option PaidSale → ℤ → Option PaidSale
with_payment None amount = None
with_payment (Some p) amount = Some (record p { paid = p.paid +ℤ amount })

-- a record 2 begins one
abbrev pub BeginsWith : List ℕ → Option PaidSale → Type 0
BeginsWith line None = ⊥
BeginsWith line (Some p) = IsSale line p.sale × (p.paid ≡ pos 0)

abbrev pub Continues : Option PaidSale → Record → List ℕ → Option PaidSale → Type 0
Continues begun (said.Header profile) line now = now ≡ None
Continues begun (said.Sale code) line now = BeginsWith line now
Continues begun (said.Related order) line now = now ≡ begun
Continues begun said.Amounts line now = now ≡ begun
Continues begun (said.Form form amount) line now = now ≡ with_payment begun amount
Continues begun said.Trailer line now = now ≡ None

-- ---- what fits the program's numbers

-- a payment adds at most the greatest amount
abbrev pub IsNear : Option PaidSale → Option PaidSale → Type 0
IsNear begun None = Unit {0}
IsNear None (Some q) = unsigned_abs q.paid ≤ 99_999_999_999
IsNear (Some p) (Some q) = unsigned_abs q.paid ≤ unsigned_abs p.paid + 99_999_999_999

-- after this record a transaction may go on
abbrev pub may_go_on : LastRecord → Bool
may_go_on last.Start = false
may_go_on last.Header = false
may_go_on last.Trailer = false
may_go_on _ = true

pub record IsSmall (at : Standing) (begun : Option PaidSale) : Type 0 where
  pub counted : at.transactions ≤ at.records
  pub small : unsigned_abs at.sum ≤ at.records * 10 ^ 11
  pub some : is_some begun ≡ may_go_on at.last
  pub paid : IfSome begun (λ p. unsigned_abs p.paid ≤ forms_up_to at.last * 10 ^ 11)
