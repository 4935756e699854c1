-- What the changes of a desk keep of sound rows.
use Rattle.std.specs.FinMap.{values}
use Rattle.std.specs.List.{filter}
use Rattle.std.specs.Prelude.{◌≡◌, ℕ, ◌<◌, ◌≤◌, ◌==◌, Bool, false, true, ℤ, List, count_by, Some, None, IsSome, Ok, Option}
use Rattle.bsp_fields.specs.CivilDay.{CivilDay}
use Rattle.bsp_calendar.specs.History.{Request}
use Rattle.bsp_calendar.specs.Published.{Published, is_closed, target_of}
use Rattle.bsp_calendar.specs.Requests.{closing}
use Rattle.bsp_calendar.specs.declared.entries.Terms.{Terms}
use Rattle.bsp_ret_records.specs.declared.transactions.Transaction.{Transaction}
use Rattle.bsp_rules.specs.FactsOf.{facts_in}
use Rattle.bsp_rules.specs.Selected.{AreDistinct}
use Rattle.bsp_rules.specs.Verdicts.{limit_of}
use Rattle.bsp_rules.specs.declared.rows.Item.{Item}
use Rattle.bsp_rules.specs.declared.rows.Range.{Range}
use Rattle.bsp_rules.specs.declared.verdict.Reporter.{Reporter}
use Rattle.bsp_memos.specs.Billing.{admits}
use Rattle.bsp_memos.specs.Lives.{after_action}
use Rattle.bsp_memos.specs.Memos.{is_amount, issued_memo}
use Rattle.bsp_memos.specs.Steps.{Action}
use Rattle.bsp_memos.specs.declared.fields.MemoFields.{MemoFields}
use Rattle.bsp_memos.specs.declared.kind.MemoKind.{MemoKind}
use Rattle.bsp_statement.specs.Tallies.{AreTallies, IsTallyOf}
use Rattle.bsp_statement.specs.declared.tally.Tally.{Tally}
use Rattle.bsp_rows.specs.declared.keys.MemoKey.{MemoKey}
use Rattle.bsp_rows.specs.declared.keys.TallyKey.{TallyKey}
use Rattle.bsp_rows.specs.declared.questions.Items.TheVariants as item
use Rattle.bsp_rows.specs.declared.questions.Memos.TheVariants.{OfAgent, OfAirline, OfAirlineIn}
use Rattle.bsp_rows.specs.Rows.{Rows, agent_items, agent_token, airline_token, has_meeting, is_used_in, item_at, items_bearing, items_of, key_of, memo_at, memo_key, memos_of, range_at, range_key, ranges_of}
use Rattle.bsp_rows.specs.Writes.{IsFree, after_request, with_agent_token, with_airline_token, with_billing, with_memo, with_range, without_range}
use Rattle.bsp_rows.specs.Part.{agent_part, airline_part}
use Rattle.bsp_rows.specs.Tallies.{is_tally_asked, item_tally_key, memo_tally_key, tallies_of, tally_of}
use Rattle.bsp_rows.specs.declared.questions.Tallies.{Tallies}
use Rattle.bsp_rows.specs.Sound.{Sound}
use Rattle.bsp_rows.specs.Changes.{IsAcceptance, after_accepted, after_close, ended_by}

-- ---- transactions

abbrev pub AcceptedIsSound : Type 0
AcceptedIsSound = (reporter : Reporter) (rows : Rows) (item : Item) → Sound rows → IsAcceptance reporter rows item → Sound (after_accepted item rows)

-- its key is free, once a CANX has ended what it ends
abbrev pub AcceptedIsFree : Type 0
AcceptedIsFree = (reporter : Reporter) (rows : Rows) (item : Item) → Sound rows → IsAcceptance reporter rows item → IsFree (item_at (key_of item) (ended_by item rows))

-- ---- the plan

abbrev pub RequestIsSound : Type 0
RequestIsSound = (rows : Rows) (request : Request) → Sound rows → Sound (after_request request rows)

-- a close of a period that was not closed, with its billings
abbrev pub CloseIsSound : Type 0
CloseIsSound =
    (rows : Rows) (code : ℕ) (closed : Published) (terms : Terms) → Sound rows → is_closed rows.published code ≡ false → closing rows.published code ≡ Ok closed →
    rows.published.terms ≡ Some terms → Sound (after_close code closed terms.review_days rows)

-- there are terms then
abbrev pub CloseHasTerms : Type 0
CloseHasTerms =
    (rows : Rows) (code : ℕ) (closed : Published) → Sound rows → is_closed rows.published code ≡ false → closing rows.published code ≡ Ok closed → IsSome rows.published.terms

-- ---- memos

-- one billing after the close of its period
abbrev pub BillingIsSound : Type 0
BillingIsSound =
    (rows : Rows) (key : MemoKey) (memo : MemoFields) (code : ℕ) (terms : Terms) → Sound rows → memo_at key rows ≡ Some memo → rows.published.terms ≡ Some terms →
    is_closed rows.published code ≡ true → admits memo rows.published.day terms.review_days ≡ true → Sound (with_billing key code rows)

-- how many memos of an airline to an agent there are
abbrev pub issued_count : ℕ → ℕ → Rows → ℕ
issued_count agent airline rows = count_by (λ m. m.agent == agent) (memos_of (OfAirline airline) rows)

-- an issue under a free key to a registered agent, below the limit
abbrev pub IssueIsSound : Type 0
IssueIsSound =
    (rows : Rows) (airline document agent : ℕ) (kind : MemoKind) (amount : ℤ) (reason : List ℕ) →
    let memo = issued_memo airline document agent kind amount reason rows.published.day in
    Sound rows → is_amount amount ≡ true → IsFree (memo_at (memo_key memo) rows) → IsSome (agent_token agent rows) →
    issued_count agent airline rows < limit_of rows.published.terms → Sound (with_memo memo rows)

-- an action on any day, whatever is answered
abbrev pub ActionIsSound : Type 0
ActionIsSound =
    (rows : Rows) (memo : MemoFields) (action : Action) (day : CivilDay) (review : ℕ) → Sound rows → memo_at (memo_key memo) rows ≡ Some memo →
    Sound (with_memo (after_action review action day memo) rows)

-- ---- stock

-- a range of a registered agent, of which no number is in a range
abbrev pub RangeIsSound : Type 0
RangeIsSound =
    (rows : Rows) (agent : ℕ) (range : Range) → Sound rows → IsSome (agent_token agent rows) → range.first ≤ range.last → has_meeting range rows ≡ false →
    Sound (with_range agent range rows)

-- a range that is there, of which no number is used
abbrev pub WithdrawalIsSound : Type 0
WithdrawalIsSound =
    (rows : Rows) (agent : ℕ) (range : Range) → Sound rows → range_at (range_key agent range) rows ≡ Some range.last → is_used_in agent range rows ≡ false →
    Sound (without_range agent range rows)

-- ---- callers

abbrev pub AgentIsSound : Type 0
AgentIsSound = (rows : Rows) (agent : ℕ) (token : List ℕ) → Sound rows → Sound (with_agent_token agent token rows)

abbrev pub AirlineIsSound : Type 0
AirlineIsSound = (rows : Rows) (airline : ℕ) (token : List ℕ) → Sound rows → Sound (with_airline_token airline token rows)

-- ---- what a look-up by key is enough for

-- the facts over the items that share a number with the transaction, with the count of a tally, are the facts over all
abbrev pub FactsAreByKey : Type 0
FactsAreByKey =
    (rows : Rows) (registered : Bool) (agent period : ℕ) (t : Transaction) → Sound rows → target_of rows.published t.issued ≡ Some period →
    record (facts_in registered (ranges_of agent rows) (items_bearing agent t rows) t rows.published) { count = (tally_of (record { agent = agent; airline = t.document.airline; period = period }) rows).accepted }
    ≡ facts_in registered (ranges_of agent rows) (agent_items agent rows) t rows.published

-- where there is no target, nothing is counted
abbrev pub FactsAreWithoutTarget : Type 0
FactsAreWithoutTarget =
    (rows : Rows) (registered : Bool) (agent : ℕ) (t : Transaction) → target_of rows.published t.issued ≡ None →
    record (facts_in registered (ranges_of agent rows) (items_bearing agent t rows) t rows.published) { count = 0 }
    ≡ facts_in registered (ranges_of agent rows) (agent_items agent rows) t rows.published

-- no two items of an agent are of one number, but a CANX and another
abbrev pub ItemsAreDistinct : Type 0
ItemsAreDistinct = (rows : Rows) (agent : ℕ) → Sound rows → AreDistinct (agent_items agent rows)

-- ---- parts of the rows

-- what is looked up for an agent is the same
pub record AreAlikeForAgent (agent : ℕ) (rows others : Rows) : Type 0 where
  pub token : agent_token agent rows ≡ agent_token agent others
  pub ranges : ranges_of agent rows ≡ ranges_of agent others
  pub items : agent_items agent rows ≡ agent_items agent others
  pub in_period : (period : ℕ) → items_of (item.OfAgentIn agent period) rows ≡ items_of (item.OfAgentIn agent period) others
  pub bearing : (t : Transaction) → items_bearing agent t rows ≡ items_bearing agent t others
  pub memos : memos_of (OfAgent agent) rows ≡ memos_of (OfAgent agent) others

-- what is looked up for an airline is the same
pub record AreAlikeForAirline (airline : ℕ) (rows others : Rows) : Type 0 where
  pub token : airline_token airline rows ≡ airline_token airline others
  pub items : (period : ℕ) → items_of (item.OfAirlineIn airline period) rows ≡ items_of (item.OfAirlineIn airline period) others
  pub memos : memos_of (OfAirline airline) rows ≡ memos_of (OfAirline airline) others
  pub billed : (period : ℕ) → memos_of (OfAirlineIn airline period) rows ≡ memos_of (OfAirlineIn airline period) others

abbrev pub AgentPartIsEnough : Type 0
AgentPartIsEnough = (agent : ℕ) (rows others : Rows) → agent_part agent rows ≡ agent_part agent others → AreAlikeForAgent agent rows others

abbrev pub AirlinePartIsEnough : Type 0
AirlinePartIsEnough = (airline : ℕ) (rows others : Rows) → airline_part airline rows ≡ airline_part airline others → AreAlikeForAirline airline rows others

-- ---- tallies

-- the tally of a key is the sums of the rows
abbrev pub TalliesAreSums : Type 0
TalliesAreSums = (k : TallyKey) (rows : Rows) → IsTallyOf (values rows.items) (values rows.memos) (tally_of k rows)

-- and no other tally of the key is
abbrev pub OneTally : Type 0
OneTally =
    (k : TallyKey) (rows : Rows) (t : Tally) → t.agent ≡ k.agent → t.airline ≡ k.airline → t.period ≡ k.period →
    IsTallyOf (values rows.items) (values rows.memos) t → t ≡ tally_of k rows

-- the items that add to a tally that is asked for; the memos that do
abbrev pub is_item_asked : Tallies → Item → Bool
is_item_asked which i = is_tally_asked which (item_tally_key i)

abbrev pub is_key_asked : Tallies → Option TallyKey → Bool
is_key_asked which None = false
is_key_asked which (Some k) = is_tally_asked which k

abbrev pub is_billing_asked : Tallies → MemoFields → Bool
is_billing_asked which m = is_key_asked which (memo_tally_key m)

-- the tallies that are asked for are those of these items and memos
abbrev pub AskedAreTallies : Type 0
AskedAreTallies =
    (which : Tallies) (rows : Rows) →
    AreTallies (filter (is_item_asked which) (values rows.items)) (filter (is_billing_asked which) (values rows.memos)) (tallies_of which rows)
