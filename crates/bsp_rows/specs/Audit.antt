-- Rows in memory, and what an audit demands of them.
use Rattle.std.specs.Prelude.{◌≡◌, ℕ, ◌≤◌, Bool, true, false, ◌&&◌, ◌||◌, not, List, ◌++◌, map, is_some, count_by, Option, MatchOption, Some, None, IsSome, option_map, Ok, slice_index_or}
use Rattle.std.specs.List.{Contains, filter_map}
use Rattle.std.specs.Ordering.{eq_by_cmp, nat_cmp, on, then_cmp}
use Rattle.std.specs.Cmp.Lexicographic.{slice_cmp}
use Rattle.std.specs.declared.cmp.Ordering.{Ordering}
use Rattle.std.specs.BTreeMap.{BTreeMap, values}
use Rattle.std.specs.BTreeMap.Range.{IsLeBy}
use Rattle.std.specs.FinMap.{FinMap, from_entries, get}
use Rattle.bsp_fields.specs.Codes.{code_reading}
use Rattle.bsp_fields.specs.Decimal.{number_of}
use Rattle.bsp_calendar.specs.Published.{Published}
use Rattle.bsp_calendar.specs.declared.entries.Terms.{Terms}
use Rattle.bsp_memos.specs.Billing.{is_rightly_billed}
use Rattle.bsp_maps.specs.declared.spans.Span.{Span}
use Rattle.bsp_ret_records.specs.declared.transactions.ReportedDocument.{ReportedDocument}
use Rattle.bsp_rules.specs.Rows.{is_canx}
use Rattle.bsp_rules.specs.Verdicts.{limit_of}
use Rattle.bsp_rules.specs.declared.rows.Item.{Item}
use Rattle.bsp_memos.specs.declared.fields.MemoFields.{MemoFields}
use Rattle.bsp_rows.specs.declared.keys.RangeKey.{RangeKey}
use Rattle.bsp_rows.specs.declared.keys.ItemKey.{ItemKey}
use Rattle.bsp_rows.specs.declared.keys.MemoKey.{MemoKey}
use Rattle.bsp_rows.specs.declared.limits.RelationKey.{RelationKey}
use Rattle.bsp_rows.specs.declared.limits.PartiesKey.{PartiesKey}
use Rattle.bsp_rows.specs.declared.unsound.Unsound.{Unsound}
use Rattle.bsp_rows.specs.declared.unsound.Unsound.TheVariants.{Range, Item as OfItem, Memo}
use Rattle.bsp_rows.specs.Rows.{Rows, canx_of, item_cmp, memo_cmp, range_cmp}
use Rattle.bsp_rows.specs.Sound.{HasNumber, HasTicket, IsInTime, IsRight, IsSoundMemo, IsTaxed}
use Rattle.bsp_rows.specs.Tallies.{item_tally_key, tally_cmp}

-- a map in memory as a value
abbrev pub as_map : {K X : Type 0} (R : K → K → Ordering) → BTreeMap K X → FinMap R X
as_map R m = from_entries m.entries

-- ---- what each item must meet

-- the last entry up to a key, if there is one
abbrev pub IsLastUpTo : {K X : Type 0} {R : K → K → Ordering} → FinMap R X → K → Option (K × X) → Type 0
IsLastUpTo {K} {R = R} m key found =
    MatchOption found
    ((k : K) → IsLeBy R k key → get m k ≡ None)
    (λ e. (get m e.0 ≡ Some e.1) × IsLeBy R e.0 key × ((k : K) → IsLeBy R k key → IsSome (get m k) → IsLeBy R k e.0))

-- the agent's last range that begins at the number or before has the number
pub record IsInLastRange (ranges : FinMap range_cmp ℕ) (agent number : ℕ) : Type 0 where
  pub key : RangeKey
  pub own : key.agent ≡ agent
  pub has : HasNumber ranges key number
  pub last : (k : RangeKey) → IsSome (get ranges k) → k.agent ≡ agent → k.first ≤ number → k.first ≤ key.first

-- a living TKTT or RFND
abbrev pub is_living_sale : Item → Bool
is_living_sale i = i.lives && not (is_canx i)

-- a related document has ten digits and a ticket, which lives where a living TKTT or RFND relates to it
pub record IsTicketFound (items : FinMap item_cmp Item) (agent airline : ℕ) (lives : Bool) (d : ReportedDocument) : Type 0 where
  pub digits : code_reading 10 d.number ≡ Ok (number_of d.number)
  pub found : HasTicket items agent airline d
  pub unended : lives ≡ true → found.ticket.lives ≡ true

abbrev pub AreTicketsFound : FinMap item_cmp Item → ItemKey → Item → Type 0
AreTicketsFound items k i =
    (d : ReportedDocument) → Contains i.transaction.related (Some d) → IsTicketFound items k.agent i.transaction.document.airline (is_living_sale i) d

-- each item meets a demand
abbrev pub EachItem : FinMap item_cmp Item → (ItemKey → Item → Type 0) → Type 0
EachItem items P = (k : ItemKey) (i : Item) → get items k ≡ Some i → P k i

-- ---- what is counted

-- the numbers of a range of an entry
abbrev pub span_of : RangeKey × ℕ → Span
span_of e = record { first = e.0.first; last = e.1 }

-- by agent, and then by the number as it was reported
abbrev pub relation_cmp : RelationKey → RelationKey → Ordering
relation_cmp = then_cmp (on (λ k. k.agent) nat_cmp) (on (λ k. k.number) (slice_cmp nat_cmp))

abbrev pub relation_by : Bool → ℕ → Option ReportedDocument → Option RelationKey
relation_by false agent place = None
relation_by true agent place = option_map (λ d. record { agent = agent; number = d.number }) place

-- the agent and the number of the ticket to which a living TKTT or RFND relates in a place
abbrev pub relation_in : ℕ → Item → Option RelationKey
relation_in place i = relation_by (is_living_sale i) i.agent (slice_index_or i.transaction.related place None)

-- in the first places of the items, and in the second
abbrev pub relations_of : List Item → List RelationKey
relations_of items = filter_map (relation_in 0) items ++ filter_map (relation_in 1) items

-- by airline, and then by agent
abbrev pub parties_cmp : PartiesKey → PartiesKey → Ordering
parties_cmp = then_cmp (on (λ k. k.airline) nat_cmp) (on (λ k. k.agent) nat_cmp)

abbrev pub parties_of : MemoFields → PartiesKey
parties_of m = record { airline = m.airline; agent = m.agent }

-- no key is in the list more often than the limit
abbrev pub AreWithin : {K : Type 0} → (K → K → Ordering) → ℕ → List K → Type 0
AreWithin {K} R limit keys = (k : K) → count_by (eq_by_cmp R k) keys ≤ limit

-- ---- the rows

abbrev pub rows_of : Published → FinMap nat_cmp (List ℕ) → BTreeMap ℕ (List ℕ) → BTreeMap RangeKey ℕ → BTreeMap ItemKey Item → BTreeMap MemoKey MemoFields → Rows
rows_of plan airlines agents ranges items memos = record {
  published = plan;
  agents = as_map nat_cmp agents;
  airlines = airlines;
  ranges = as_map range_cmp ranges;
  items = as_map item_cmp items;
  memos = as_map memo_cmp memos;
}

-- there are terms, and a close on the business day would bill the memo, were it unbilled
pub record IsRightlyBilled (published : Published) (m : MemoFields) : Type 0 where
  pub terms : Terms
  pub there : published.terms ≡ Some terms
  pub rightly : is_rightly_billed m published.day terms.review_days ≡ true

-- ---- what the audit finds

-- an item by itself and beside the plan, the agents and the ranges
pub record IsRightItem (published : Published) (agents : FinMap nat_cmp (List ℕ)) (ranges : FinMap range_cmp ℕ) (k : ItemKey) (i : Item) : Type 0 where
  pub right : IsRight k i
  pub registered : IsSome (get agents k.agent)
  pub in_stock : IsInLastRange ranges k.agent k.number
  pub in_time : IsInTime published i.transaction.issued i.period

-- an item beside the other items
pub record IsTiedItem (items : FinMap item_cmp Item) (k : ItemKey) (i : Item) : Type 0 where
  pub marked : i.lives ≡ (k.is_canx || not (is_some (get items (canx_of k))))
  pub cancelled : (j : Item) → get items (canx_of k) ≡ Some j → j.transaction.document.airline ≡ i.transaction.document.airline
  pub related : AreTicketsFound items k i

-- all that is asked of an item
pub record IsAuditedItem (published : Published) (agents : FinMap nat_cmp (List ℕ)) (ranges : FinMap range_cmp ℕ) (items : FinMap item_cmp Item) (k : ItemKey) (i : Item) : Type 0 where
  pub right : IsRightItem published agents ranges k i
  pub tied : IsTiedItem items k i
  pub taxed : IsTaxed published items k i

pub record AreItemsAudited (published : Published) (agents : BTreeMap ℕ (List ℕ)) (ranges : BTreeMap RangeKey ℕ) (items : BTreeMap ItemKey Item) : Type 0 where
  pub each : EachItem (as_map item_cmp items) (IsAuditedItem published (as_map nat_cmp agents) (as_map range_cmp ranges) (as_map item_cmp items))
  pub once : AreWithin relation_cmp 1 (relations_of (values items))
  pub documents : AreWithin tally_cmp (limit_of published.terms) (map item_tally_key (values items))

pub record AreMemosAudited (published : Published) (agents : BTreeMap ℕ (List ℕ)) (memos : BTreeMap MemoKey MemoFields) : Type 0 where
  pub each : (k : MemoKey) (m : MemoFields) → get (as_map memo_cmp memos) k ≡ Some m → IsSoundMemo published (as_map nat_cmp agents) k m
  pub limit : AreWithin parties_cmp (limit_of published.terms) (map parties_of (values memos))

-- ---- the row at fault

-- each row meets what is asked of it by itself and beside the rows that it names
pub record IsEachAudited (rows : Rows) : Type 0 where
  pub ranges : (k : RangeKey) (last : ℕ) → get rows.ranges k ≡ Some last → IsSome (get rows.agents k.agent)
  pub items : EachItem rows.items (IsAuditedItem rows.published rows.agents rows.ranges rows.items)
  pub memos : (k : MemoKey) (m : MemoFields) → get rows.memos k ≡ Some m → IsSoundMemo rows.published rows.agents k m

-- there is a row at the key that does not meet this
abbrev pub Breaks : Rows → Unsound → Type 0
Breaks rows (Range k) = (last : ℕ) × (get rows.ranges k ≡ Some last) × ¬ (IsSome (get rows.agents k.agent))
Breaks rows (OfItem k) = (i : Item) × (get rows.items k ≡ Some i) × ¬ (IsAuditedItem rows.published rows.agents rows.ranges rows.items k i)
Breaks rows (Memo k) = (m : MemoFields) × (get rows.memos k ≡ Some m) × ¬ (IsSoundMemo rows.published rows.agents k m)
