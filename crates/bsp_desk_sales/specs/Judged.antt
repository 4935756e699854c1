-- The verdicts of a reporter's transactions over rows, and what they make of the rows.
use Rattle.std.specs.Prelude.{◌≡◌, ℕ, List, Option, Some, None, IfSome}
use Rattle.bsp_book.specs.Calls.{Meaning}
use Rattle.bsp_rows.specs.Changes.{after_accepted, ended_by}
use Rattle.bsp_rows.specs.Published.{Published}
use Rattle.bsp_rows.specs.Transaction.{Transaction}
use Rattle.bsp_rows.specs.Writing.{HaveContents}
use Rattle.bsp_rows.specs.Rows.{Rows, item_at, key_of}
use Rattle.bsp_rows.specs.Sound.{Sound}
use Rattle.bsp_rows.specs.Writes.{IsFree}
use Rattle.bsp_rules.specs.Tax.{accepted_item}
use Rattle.bsp_rules.specs.declared.facts.Facts.{Facts}
use Rattle.bsp_rules.specs.declared.rows.Item.{Item}
use Rattle.bsp_rules.specs.declared.verdict.Reporter.{Reporter}
use Rattle.bsp_rules.specs.declared.verdict.Reporter.TheVariants.{Office, Agent}
use Rattle.bsp_rules.specs.declared.verdict.Verdict.{Verdict}
use Rattle.bsp_rules.specs.declared.verdict.Verdict.TheVariants as verdict
use Rattle.bsp_office_spec.specs.Ledger.{ledger_of, own_verdict, own_verdicts}
use Rattle.bsp_office_spec.specs.Step.{Owner, bearer, office_verdict, office_verdicts, reporter, rows_filed, rows_judged}

-- whose rows a transaction is judged over, and joins
abbrev pub owner_of : Reporter → Owner
owner_of Office = bearer
owner_of (Agent agent) = reporter (Some agent)

-- the verdict on a transaction: over the whole rows for the office, over its own ledger for an agent
abbrev pub verdict_of : Reporter → Rows → Transaction → Verdict
verdict_of Office rows t = office_verdict rows t
verdict_of (Agent agent) rows t = own_verdict (Agent agent) (ledger_of agent rows) t

-- the verdicts on transactions in their order, each over the rows after those before it
abbrev pub verdicts_of : Reporter → Rows → List Transaction → List Verdict
verdicts_of Office rows ts = office_verdicts rows ts
verdicts_of (Agent agent) rows ts = own_verdicts agent (ledger_of agent rows) ts

-- the rows after the verdict on a transaction
abbrev pub rows_next : Reporter → Transaction → Rows → Rows
rows_next who t rows = rows_judged (owner_of who) t (verdict_of who rows t) rows

-- what a transaction of an agent becomes where it is accepted, with the tax by its facts and the plan
abbrev pub item_of : ℕ → Transaction → Facts → Published → Verdict → Option Item
item_of agent t f p (verdict.Held period) = None
item_of agent t f p (verdict.Accepted period) = Some (accepted_item agent period t f.related p)
item_of agent t f p (verdict.Refused refusal) = None

-- its key is free, once a CANX has ended what it ends
abbrev pub HasFreeKey : Option Item → Rows → Type 0
HasFreeKey item rows = IfSome item (λ i. IsFree (item_at (key_of i) (ended_by i rows)))

-- the rows with it
abbrev pub rows_with : Option Item → Rows → Rows
rows_with None rows = rows
rows_with (Some i) rows = after_accepted i rows

-- the verdict is the transaction's, and the rows after it are sound
pub record IsJudged (who : Reporter) (t : Transaction) (rows : Rows) (verdict : Verdict) : Type 0 where
  pub is : verdict ≡ verdict_of who rows t
  pub sound : Sound (rows_next who t rows)

-- the verdicts are those of the transactions, and the book contains the rows after them, which are sound
pub record HasJudged {B : Type 0} (m : Meaning B Rows) (new : B) (who : Reporter) (ts : List Transaction) (now last : Rows) (verdicts : List Verdict) : Type 0 where
  pub are : verdicts ≡ verdicts_of who now ts
  pub sound : Sound (rows_filed (owner_of who) ts verdicts now)
  pub holds : m.holds new (rows_filed (owner_of who) ts verdicts now) (Some last)

-- the transactions of these groups are judged
pub record AreJudged {B : Type 0} (m : Meaning B Rows) (old new : B) (who : Reporter) (groups : List (List (List ℕ))) (verdicts : List Verdict) : Type 0 where
  pub transactions : List Transaction
  pub contents : HaveContents 1 groups transactions
  pub judged : m.trusts new → (now last : Rows) → Sound now → m.holds old now (Some last) → HasJudged m new who transactions now last verdicts
