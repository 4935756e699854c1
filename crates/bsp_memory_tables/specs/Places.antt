-- The places of rows in the indexes.
use Rattle.std.specs.Prelude.{ℕ, Option, Some, None}
use Rattle.std.specs.declared.cmp.Ordering.{Ordering}
use Rattle.std.specs.declared.cmp.Ordering.TheVariants.{Equal}
use Rattle.std.specs.Ordering.{nat_cmp, on, then_cmp}
use Rattle.bsp_rows.specs.Item.{Item}
use Rattle.bsp_rows.specs.MemoFields.{MemoFields}
use Rattle.bsp_rows.specs.Tally.{Tally}
use Rattle.bsp_rows.specs.declared.keys.ItemKey.{ItemKey}
use Rattle.bsp_rows.specs.declared.keys.MemoKey.{MemoKey}
use Rattle.bsp_rows.specs.declared.keys.RangeKey.{RangeKey}
use Rattle.bsp_rows.specs.declared.keys.TallyKey.{TallyKey}
use Rattle.bsp_memory_tables.specs.declared.places.AirlinePeriod.{AirlinePeriod}
use Rattle.bsp_memory_tables.specs.declared.places.Parties.{Parties}

-- by airline, and then by period
abbrev pub airline_cmp : AirlinePeriod → AirlinePeriod → Ordering
airline_cmp = then_cmp (on (λ p. p.airline) nat_cmp) (on (λ p. p.period) nat_cmp)

-- by airline, and then by agent
abbrev pub parties_cmp : Parties → Parties → Ordering
parties_cmp = then_cmp (on (λ p. p.airline) nat_cmp) (on (λ p. p.agent) nat_cmp)

-- of one place
abbrev pub one_cmp : Unit {0} → Unit {0} → Ordering
one_cmp x y = Equal

abbrev pub at_airline : ℕ → ℕ → AirlinePeriod
at_airline airline period = record { airline = airline; period = period }

-- the last number of a range
abbrev pub last_place : RangeKey → ℕ → Option ℕ
last_place k last = Some last

-- the airline of an item, and its period
abbrev pub item_place : ItemKey → Item → Option AirlinePeriod
item_place k i = Some (at_airline i.transaction.document.airline i.period)

-- the agent of a memo
abbrev pub agent_place : MemoKey → MemoFields → Option ℕ
agent_place k m = Some m.agent

-- the airline of a memo's key, and its agent
abbrev pub parties_of : MemoKey → MemoFields → Parties
parties_of k m = record { airline = k.airline; agent = m.agent }

-- unbilled memos have one place, and billed ones none
abbrev pub unbilled_at : Option ℕ → Option (Unit {0})
unbilled_at None = Some tt
unbilled_at (Some period) = None

abbrev pub unbilled_place : MemoKey → MemoFields → Option (Unit {0})
unbilled_place k m = unbilled_at m.billed

-- the airline of a tally's key, and its period
abbrev pub tally_airline_place : TallyKey → Tally → Option AirlinePeriod
tally_airline_place k t = Some (at_airline k.airline k.period)

abbrev pub tally_period_place : TallyKey → Tally → Option ℕ
tally_period_place k t = Some k.period
