-- What the rows of an agent, an airline and a period add up to, by their key.
use Rattle.std.specs.Prelude.{◌==◌, Bool, ◌&&◌, List, ◌++◌, map, length, count_by, Option, option_map}
use Rattle.std.specs.List.{filter, filter_map, sum_by}
use Rattle.std.specs.declared.cmp.Ordering.{Ordering}
use Rattle.std.specs.Ordering.{nat_cmp, on, then_cmp}
use Rattle.std.specs.FinMap.{keys, values, from_entries}
use Rattle.bsp_rules.specs.declared.rows.Item.{Item}
use Rattle.bsp_rules.specs.Rows.{is_canx}
use Rattle.bsp_memos.specs.declared.fields.MemoFields.{MemoFields}
use Rattle.bsp_statement.specs.declared.tally.Tally.{Tally}
use Rattle.bsp_statement.specs.Tallies.{is_memo_under, items_under, no_tally, under}
use Rattle.bsp_statement.specs.Nets.{cash_of, credit_of, commission_of, tax_of, memos_of}
use Rattle.bsp_rows.specs.declared.keys.TallyKey.{TallyKey}
use Rattle.bsp_rows.specs.declared.questions.Tallies.{Tallies}
use Rattle.bsp_rows.specs.declared.questions.Tallies.TheVariants.{OfAgent, OfAgentIn, OfAirlineIn, In}
use Rattle.bsp_rows.specs.Rows.{Rows}

-- by agent, airline and period
abbrev pub tally_cmp : TallyKey → TallyKey → Ordering
tally_cmp = then_cmp (on (λ k. k.agent) nat_cmp) (then_cmp (on (λ k. k.airline) nat_cmp) (on (λ k. k.period) nat_cmp))

-- the tally of no rows of the key
abbrev pub key_tally : TallyKey → Tally
key_tally k = no_tally k.agent k.airline k.period

-- the counts and the sums of the rows that are under a tally
abbrev pub added_up : Tally → List Item → List MemoFields → Tally
added_up t items memos = record t {
  accepted = length (items_under items t);
  living = sum_by (λ p. p.documents) (under items memos t);
  canx = count_by is_canx (items_under items t);
  memo_count = length (filter (is_memo_under t) memos);
  cash = cash_of (under items memos t);
  credit = credit_of (under items memos t);
  commission = commission_of (under items memos t);
  tax = tax_of (under items memos t);
  memos = memos_of (under items memos t);
}

-- the tally of a key
abbrev pub tally_of : TallyKey → Rows → Tally
tally_of k rows = added_up (key_tally k) (values rows.items) (values rows.memos)

-- ---- the keys that some row has

abbrev pub item_tally_key : Item → TallyKey
item_tally_key i = record { agent = i.agent; airline = i.transaction.document.airline; period = i.period }

abbrev pub memo_tally_key : MemoFields → Option TallyKey
memo_tally_key m = option_map (λ period. record { agent = m.agent; airline = m.airline; period = period }) m.billed

abbrev pub used_keys : Rows → List TallyKey
used_keys rows = map item_tally_key (values rows.items) ++ filter_map memo_tally_key (values rows.memos)

-- each key that some row has once, rising
abbrev pub rising_keys : Rows → List TallyKey
rising_keys rows = keys (from_entries {R = tally_cmp} (map (λ k. (k, tt {0})) (used_keys rows)))

abbrev pub is_tally_asked : Tallies → TallyKey → Bool
is_tally_asked (OfAgent agent) k = k.agent == agent
is_tally_asked (OfAgentIn agent period) k = (k.agent == agent) && (k.period == period)
is_tally_asked (OfAirlineIn airline period) k = (k.airline == airline) && (k.period == period)
is_tally_asked (In period) k = k.period == period

abbrev pub tallies_of : Tallies → Rows → List Tally
tallies_of which rows = map (λ k. tally_of k rows) (filter (is_tally_asked which) (rising_keys rows))
