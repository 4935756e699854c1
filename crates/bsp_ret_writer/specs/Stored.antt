-- What the types of a transaction say of its values: how long its arrays are, and which values its fields take.
use Rattle.std.specs.Prelude.{◌≡◌, ◌<◌, ◌≤◌, ◌^◌, List, [], ◌∷◌, length, ℤ, Option, IfSome, IsTrue, unsigned_abs}
use Rattle.bsp_fields.specs.CivilDay.{is_day}
use Rattle.bsp_ret_records.specs.declared.transactions.ReportedDocument.{ReportedDocument}
use Rattle.bsp_ret_records.specs.declared.transactions.Tax.{Tax}
use Rattle.bsp_ret_records.specs.declared.transactions.Amounts.{Amounts}
use Rattle.bsp_ret_records.specs.declared.transactions.CardPayment.{CardPayment}
use Rattle.bsp_ret_records.specs.declared.transactions.Transaction.{Transaction}

-- it holds of the value in each place that has one
abbrev pub InEach : {A : Type 0} → (A → Type 0) → List (Option A) → Type 0
InEach holds [] = Unit {0}
InEach holds (place ∷ places) = IfSome place holds × InEach holds places

pub record IsStoredAmount (amount : ℤ) : Type 0 where
  pub size : unsigned_abs amount ≤ 99_999_999_999

pub record IsStoredDocument (d : ReportedDocument) : Type 0 where
  pub airline : d.airline < 10 ^ 3
  pub number : length d.number ≡ 10

pub record IsStoredTax (tax : Tax) : Type 0 where
  pub code : length tax.code ≡ 2
  pub amount : IsStoredAmount tax.amount

pub record IsStoredAmounts (a : Amounts) : Type 0 where
  pub fare : IsStoredAmount a.fare
  pub places : length a.taxes ≡ 6
  pub taxes : InEach IsStoredTax a.taxes
  pub commission : IsStoredAmount a.commission

pub record IsStoredCard (p : CardPayment) : Type 0 where
  pub amount : IsStoredAmount p.amount
  pub vendor : length p.vendor ≡ 2

pub record IsStored (t : Transaction) : Type 0 where
  pub agent : length t.agent ≡ 8
  pub document : IsStoredDocument t.document
  pub issued : IsTrue (is_day t.issued)
  pub passenger : length t.passenger ≡ 49
  pub places : length t.related ≡ 2
  pub related : InEach IsStoredDocument t.related
  pub amounts : IfSome t.amounts IsStoredAmounts
  pub cash : IfSome t.cash IsStoredAmount
  pub credit : IfSome t.credit IsStoredCard
  pub exchange : IfSome t.exchange IsStoredAmount
