-- The values of a group's records.
use Rattle.std.specs.Prelude.{◌≡◌, ℕ, List, [], ◌∷◌, Option, Some, None, Ok}
use Rattle.bsp_fields.specs.Days.{record_reading}
use Rattle.bsp_ret_records.specs.declared.transactions.ReportedDocument.{ReportedDocument}
use Rattle.bsp_ret_records.specs.declared.transactions.Transaction.{Transaction}
use Rattle.bsp_ret_records.specs.Records.{agent, document, issued, passenger, code_of}
use Rattle.bsp_ret_records.specs.Values.{IsDocument, IsRelated, AreAmounts, IsPayment, IsCardPayment}
use Rattle.bsp_ret.specs.Ret.{Group, IsGroup}

-- neither has a value, or both have values that stand in the relation
abbrev pub InBoth : {A B : Type 0} → (A → B → Type 0) → Option A → Option B → Type 0
InBoth holds None None = Unit {0}
InBoth holds (Some x) (Some y) = holds x y
InBoth holds None (Some y) = ⊥
InBoth holds (Some x) None = ⊥

-- a record 3 where the first place has a document, and a second one where the second place has one
abbrev pub HasRelatedValues : Option (List ℕ) → Option (List ℕ) → List (Option ReportedDocument) → Type 0
HasRelatedValues line second [] = ⊥
HasRelatedValues line second (d ∷ []) = ⊥
HasRelatedValues line second (d ∷ e ∷ []) = InBoth IsRelated line d × InBoth IsRelated second e
HasRelatedValues line second (d ∷ e ∷ f ∷ others) = ⊥

-- the values of a group
pub record IsContent (g : Group) (t : Transaction) : Type 0 where
  pub code : code_of g.sale ≡ Some t.code
  pub agent : t.agent ≡ agent g.sale
  pub document : IsDocument (document g.sale) t.document
  pub issued : record_reading (issued g.sale) ≡ Ok t.issued
  pub passenger : t.passenger ≡ passenger g.sale
  pub related : HasRelatedValues g.related g.second t.related
  pub amounts : InBoth AreAmounts g.amounts t.amounts
  pub cash : InBoth IsPayment g.cash t.cash
  pub credit : InBoth IsCardPayment g.credit t.credit
  pub exchange : InBoth IsPayment g.exchange t.exchange

-- the lines are the group of transaction n, with these values
pub record HasContent (n : ℕ) (lines : List (List ℕ)) (t : Transaction) : Type 0 where
  pub is : IsGroup n lines
  pub content : IsContent is.group t
