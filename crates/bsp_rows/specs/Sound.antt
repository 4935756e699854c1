-- Sound rows: the rules that an audit demands, table by table.
use Rattle.std.specs.Prelude.{◌≡◌, ℕ, ◌≤◌, ◌==◌, ◌&&◌, ◌||◌, not, Bool, true, false, List, map, count_by, Option, Some, None, IsSome, is_some, option_map, Result, Ok, Err}
use Rattle.std.specs.List.{Contains, list_any}
use Rattle.std.specs.FinMap.{FinMap, get, entries}
use Rattle.std.specs.Ordering.{nat_cmp}
use Rattle.bsp_fields.specs.CivilDay.{CivilDay}
use Rattle.bsp_fields.specs.Decimal.{number_of}
use Rattle.bsp_fields.specs.Codes.{agent_reading, code_reading}
use Rattle.bsp_fields.specs.declared.fault.FieldFault.{FieldFault}
use Rattle.bsp_calendar.specs.Published.{Published, is_closed, period_of}
use Rattle.bsp_calendar.specs.DayOrder.{is_up_to}
use Rattle.bsp_calendar.specs.SoundPlan.{IsSoundPlan}
use Rattle.bsp_calendar.specs.declared.entries.Period.{Period}
use Rattle.bsp_calendar.specs.declared.entries.Terms.{Terms}
use Rattle.bsp_ret_writer.specs.GroupValues.{is_group_values}
use Rattle.bsp_ret_records.specs.declared.transactions.ReportedDocument.{ReportedDocument}
use Rattle.bsp_ret_records.specs.declared.transactions.Transaction.{Transaction}
use Rattle.bsp_rules.specs.declared.facts.RelatedDocument.{RelatedDocument}
use Rattle.bsp_rules.specs.declared.rows.Item.{Item}
use Rattle.bsp_rules.specs.Rows.{is_canx, is_living_relation, is_ticket}
use Rattle.bsp_rules.specs.FactsOf.{counts}
use Rattle.bsp_rules.specs.Verdicts.{is_wrong_place, limit_of}
use Rattle.bsp_rules.specs.Tax.{hundredths_for, tax_on}
use Rattle.bsp_memos.specs.declared.fields.MemoFields.{MemoFields}
use Rattle.bsp_memos.specs.Billing.{is_rightly_billed}
use Rattle.bsp_memos.specs.Memos.{is_memo}
use Rattle.bsp_rows.specs.declared.keys.RangeKey.{RangeKey}
use Rattle.bsp_rows.specs.declared.keys.ItemKey.{ItemKey}
use Rattle.bsp_rows.specs.declared.keys.MemoKey.{MemoKey}
use Rattle.bsp_rows.specs.Rows.{Rows, HasNumberKey, canx_of, item_cmp, key_of, memo_cmp, memo_key, range_cmp}

-- ---- ranges

-- the range of a key has the number
pub record HasNumber (ranges : FinMap range_cmp ℕ) (k : RangeKey) (number : ℕ) : Type 0 where
  pub last : ℕ
  pub there : get ranges k ≡ Some last
  pub from : k.first ≤ number
  pub to : number ≤ last

-- each range has a number, and no number is in two
pub record AreApart (ranges : FinMap range_cmp ℕ) : Type 0 where
  pub numbers : (k : RangeKey) (last : ℕ) → get ranges k ≡ Some last → k.first ≤ last
  pub once : (k l : RangeKey) (number : ℕ) → HasNumber ranges k number → HasNumber ranges l number → k ≡ l

pub record AreSoundRanges (agents : FinMap nat_cmp (List ℕ)) (ranges : FinMap range_cmp ℕ) : Type 0 where
  -- its agent is registered
  pub registered : (k : RangeKey) (last : ℕ) → get ranges k ≡ Some last → IsSome (get agents k.agent)
  pub apart : AreApart ranges

-- ---- items

-- the key of a related document's ticket
abbrev pub ticket_key : ℕ → ReportedDocument → ItemKey
ticket_key agent d = record { agent = agent; number = number_of d.number; is_canx = false }

-- by itself: at its key, of the agent that it bears, its number, those of its related documents and its content in their forms
pub record IsRight (k : ItemKey) (i : Item) : Type 0 where
  pub keyed : key_of i ≡ k
  pub bears : agent_reading i.transaction.agent ≡ Ok i.agent
  pub numbered : HasNumberKey i
  pub checked : list_any is_wrong_place i.transaction.related ≡ false
  pub group : is_group_values i.transaction ≡ true

-- a range of the agent has the number
pub record IsInStock (ranges : FinMap range_cmp ℕ) (agent number : ℕ) : Type 0 where
  pub key : RangeKey
  pub own : key.agent ≡ agent
  pub has : HasNumber ranges key number

-- a date of issue is neither after the business day nor after the last day of the period of the code
pub record IsInTime (published : Published) (issued : CivilDay) (code : ℕ) : Type 0 where
  pub day : is_up_to issued published.day ≡ true
  pub period : Period
  pub there : period_of published code ≡ Some period
  pub end : is_up_to issued period.last ≡ true

-- a related document is of this airline, and its TKTT is the agent's
pub record HasTicket (items : FinMap item_cmp Item) (agent airline : ℕ) (d : ReportedDocument) : Type 0 where
  pub own : d.airline ≡ airline
  pub ticket : Item
  pub there : get items (ticket_key agent d) ≡ Some ticket
  pub is : is_ticket d ticket ≡ true

-- beside the other items
pub record IsTied (items : FinMap item_cmp Item) (k : ItemKey) (i : Item) : Type 0 where
  -- it lives exactly where it is a CANX or no CANX of its number is there
  pub lives : i.lives ≡ (k.is_canx || not (is_some (get items (canx_of k))))
  -- a CANX of its number is of its airline
  pub cancelled : (j : Item) → get items (canx_of k) ≡ Some j → j.transaction.document.airline ≡ i.transaction.document.airline
  pub related : (d : ReportedDocument) → Contains i.transaction.related (Some d) → HasTicket items k.agent i.transaction.document.airline d

-- the item at the key of a TKTT or RFND with this number
abbrev pub numbered_at : FinMap item_cmp Item → ℕ → Result ℕ FieldFault → Option Item
numbered_at items agent (Ok number) = get items (record { agent = agent; number = number; is_canx = false })
numbered_at items agent (Err fault) = None

-- a related document with the agent's ticket of its number; a tax does not ask whether another relates to it
abbrev pub document_at : FinMap item_cmp Item → ℕ → ReportedDocument → RelatedDocument
document_at items agent d = record { document = d; ticket = numbered_at items agent (code_reading 10 d.number); is_related_to = false }

-- the related documents of an agent's transaction, in its places
abbrev pub documents_at : FinMap item_cmp Item → ℕ → Transaction → List (Option RelatedDocument)
documents_at items agent t = map (λ place. option_map (document_at items agent) place) t.related

-- its tax on commission is that of the plan and of its tickets
pub record IsTaxed (published : Published) (items : FinMap item_cmp Item) (k : ItemKey) (i : Item) : Type 0 where
  pub hundredths : i.hundredths ≡ hundredths_for i.transaction (documents_at items k.agent i.transaction) published
  pub tax : i.tax ≡ tax_on i.hundredths i.transaction

pub record IsSoundItem (published : Published) (agents : FinMap nat_cmp (List ℕ)) (ranges : FinMap range_cmp ℕ) (items : FinMap item_cmp Item) (k : ItemKey) (i : Item) : Type 0 where
  pub right : IsRight k i
  pub registered : IsSome (get agents k.agent)
  pub in_stock : IsInStock ranges k.agent k.number
  pub in_time : IsInTime published i.transaction.issued i.period
  pub tied : IsTied items k i
  pub taxed : IsTaxed published items k i

-- all of an agent and an airline in a period, cancelled ones and CANX too
abbrev pub is_counted : ℕ → ℕ → ℕ → ItemKey × Item → Bool
is_counted agent airline period e = (e.0.agent == agent) && counts airline period e.1

pub record AreSoundItems (published : Published) (agents : FinMap nat_cmp (List ℕ)) (ranges : FinMap range_cmp ℕ) (items : FinMap item_cmp Item) : Type 0 where
  pub each : (k : ItemKey) (i : Item) → get items k ≡ Some i → IsSoundItem published agents ranges items k i
  -- at most one living TKTT or RFND of an agent relates to a number
  pub related_once : (k l : ItemKey) (i j : Item) (number : List ℕ) → get items k ≡ Some i → get items l ≡ Some j → k.agent ≡ l.agent → is_living_relation number i ≡ true → is_living_relation number j ≡ true → k ≡ l
  -- and none to a number that a CANX has
  pub related_lives : (k l : ItemKey) (i j : Item) → get items k ≡ Some i → get items l ≡ Some j → k.agent ≡ l.agent → is_canx j ≡ true → is_living_relation j.transaction.document.number i ≡ false
  pub documents : (agent airline period : ℕ) → count_by (is_counted agent airline period) (entries items) ≤ limit_of published.terms

-- ---- memos

-- billed in a closed period alone, and as a close on the business day would bill it
pub record IsSoundBilling (published : Published) (m : MemoFields) (period : ℕ) : Type 0 where
  pub closed : is_closed published period ≡ true
  pub terms : Terms
  pub there : published.terms ≡ Some terms
  pub rightly : is_rightly_billed m published.day terms.review_days ≡ true

pub record IsSoundMemo (published : Published) (agents : FinMap nat_cmp (List ℕ)) (k : MemoKey) (m : MemoFields) : Type 0 where
  pub keyed : memo_key m ≡ k
  pub fit : is_memo m ≡ true
  pub registered : IsSome (get agents m.agent)
  pub issued : is_up_to m.issued published.day ≡ true
  pub billed : (period : ℕ) → m.billed ≡ Some period → IsSoundBilling published m period

-- all of an airline to an agent
abbrev pub is_issued_to : ℕ → ℕ → MemoKey × MemoFields → Bool
is_issued_to agent airline e = (e.1.agent == agent) && (e.0.airline == airline)

pub record AreSoundMemos (published : Published) (agents : FinMap nat_cmp (List ℕ)) (memos : FinMap memo_cmp MemoFields) : Type 0 where
  pub each : (k : MemoKey) (m : MemoFields) → get memos k ≡ Some m → IsSoundMemo published agents k m
  pub limit : (agent airline : ℕ) → count_by (is_issued_to agent airline) (entries memos) ≤ limit_of published.terms

-- ---- all rows

pub record Sound (rows : Rows) : Type 0 where
  pub plan : IsSoundPlan rows.published
  pub ranges : AreSoundRanges rows.agents rows.ranges
  pub items : AreSoundItems rows.published rows.agents rows.ranges rows.items
  pub memos : AreSoundMemos rows.published rows.agents rows.memos
