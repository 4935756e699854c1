-- What the requests of a desk make of the rows.
use Rattle.std.specs.Prelude.{◌≡◌, ℕ, Bool, true, false, map, is_some, Ok}
use Rattle.std.specs.declared.cmp.Ordering.{Ordering}
use Rattle.std.specs.FinMap.{FinMap, entries, from_sorted}
use Rattle.bsp_fields.specs.Codes.{agent_reading}
use Rattle.bsp_calendar.specs.Published.{Published}
use Rattle.bsp_ret_writer.specs.GroupValues.{is_group_values}
use Rattle.bsp_ret_records.specs.declared.transactions.Transaction.{Transaction}
use Rattle.bsp_rules.specs.FactsOf.{facts_in}
use Rattle.bsp_rules.specs.Rows.{is_canx}
use Rattle.bsp_rules.specs.Tax.{accepted_item}
use Rattle.bsp_rules.specs.Verdicts.{verdict_on}
use Rattle.bsp_rules.specs.declared.facts.Facts.{Facts}
use Rattle.bsp_rules.specs.declared.rows.Item.{Item}
use Rattle.bsp_rules.specs.declared.verdict.Reporter.{Reporter}
use Rattle.bsp_rules.specs.declared.verdict.Verdict.TheVariants.{Accepted}
use Rattle.bsp_memos.specs.Lives.{after_event}
use Rattle.bsp_memos.specs.Lives.Event.{Closed}
use Rattle.bsp_rows.specs.declared.keys.ItemKey.{ItemKey}
use Rattle.bsp_rows.specs.Rows.{Rows, agent_items, agent_token, key_of, ranges_of, sale_of}
use Rattle.bsp_rows.specs.Writes.{with_item, with_end}

-- ---- an accepted transaction

-- the facts on a transaction over all rows of an agent
abbrev pub facts_at : ℕ → Transaction → Rows → Facts
facts_at agent t rows = facts_in (is_some (agent_token agent rows)) (ranges_of agent rows) (agent_items agent rows) t rows.published

-- the item is a transaction that is accepted over these rows in the item's period, and its tax is taken
pub record IsAcceptance (reporter : Reporter) (rows : Rows) (item : Item) : Type 0 where
  pub group : is_group_values item.transaction ≡ true
  pub bears : agent_reading item.transaction.agent ≡ Ok item.agent
  pub as_accepted : item ≡ accepted_item item.agent item.period item.transaction (facts_at item.agent item.transaction rows).related rows.published
  pub accepted : verdict_on reporter item.transaction (facts_at item.agent item.transaction rows) rows.published ≡ Accepted item.period

-- the key of the TKTT or RFND of its number
abbrev pub sale_key : Item → ItemKey
sale_key item = sale_of (key_of item)

abbrev pub ended_where : Bool → ItemKey → Rows → Rows
ended_where true key rows = with_end key rows
ended_where false key rows = rows

-- a CANX ends the TKTT or RFND of its number
abbrev pub ended_by : Item → Rows → Rows
ended_by item rows = ended_where (is_canx item) (sale_key item) rows

abbrev pub after_accepted : Item → Rows → Rows
after_accepted item rows = with_item item (ended_by item rows)

-- ---- a close

abbrev pub with_value : {K X : Type 0} → (X → X) → K × X → K × X
with_value f e = (e.0, f e.1)

-- the map with each value changed
abbrev pub each : {K X : Type 0} {R : K → K → Ordering} → (X → X) → FinMap R X → FinMap R X
each f m = from_sorted (map (with_value f) (entries m))

-- the plan with the period closed, and each memo as the close leaves it
abbrev pub after_close : ℕ → Published → ℕ → Rows → Rows
after_close code closed review rows =
    record rows { published = closed; memos = each (after_event review (Closed code rows.published.day)) rows.memos }
