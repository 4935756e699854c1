-- What is looked up in the tables.
use Rattle.std.specs.Prelude.{ℕ, Bool, nat_lt, ◌&&◌, ◌||◌, List, map}
use Rattle.std.specs.List.{filter}
use Rattle.bsp_rows.specs.Item.{Item}
use Rattle.bsp_rows.specs.Range.{Range}
use Rattle.bsp_rows.specs.Rows.{Rows, agent_items, ranges_of}
use Rattle.bsp_rows.specs.Tally.{Tally}
use Rattle.bsp_rows.specs.declared.keys.TallyKey.{TallyKey}
use Rattle.bsp_rows.specs.declared.questions.Tallies.{Tallies}
use Rattle.bsp_rows.specs.Tallies.{is_tally_asked}
use Rattle.bsp_memory_tables.specs.Numbers.{bears}
use Rattle.bsp_memory_tables.specs.Used.{used_count}
use Rattle.bsp_memory_rows.specs.declared.stock.UsedRange.{UsedRange}

-- some row adds to the tally
abbrev pub has_rows : Tally → Bool
has_rows t = nat_lt 0 t.accepted || nat_lt 0 t.memo_count

abbrev pub is_asked : Tallies → TallyKey → Tally → Bool
is_asked which key t = is_tally_asked which key && has_rows t

-- the tallies that are asked for
abbrev pub asked_tallies : Tallies → List (TallyKey × Tally) → List Tally
asked_tallies which es = map (λ e. e.1) (filter (λ e. is_asked which e.0 e.1) es)

-- the items of an agent that bear a number
abbrev pub items_with_number : ℕ → List ℕ → Rows → List Item
items_with_number agent number rows = filter (bears number) (agent_items agent rows)

-- a range with how many of its numbers have an item of the agent
abbrev pub used_range : ℕ → Rows → Range → UsedRange
used_range agent rows range = record { range = range; used = used_count agent range rows.items }

-- the ranges of an agent with these counts
abbrev pub stock_of : ℕ → Rows → List UsedRange
stock_of agent rows = map (used_range agent rows) (ranges_of agent rows)
