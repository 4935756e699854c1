-- How many of an agent's numbers a range has, and the counts that are kept of them.
use Rattle.std.specs.Prelude.{◌≡◌, ℕ, zero, suc, ◌+◌, ◌<◌, ◌==◌, ◌/◌, nat_le, nat_lt, Bool, ◌&&◌, List, map, count_by}
use Rattle.std.specs.List.{filter}
use Rattle.std.specs.declared.cmp.Ordering.{Ordering}
use Rattle.std.specs.Ordering.{nat_cmp, on, then_cmp}
use Rattle.std.specs.FinMap.{FinMap, entries}
use Rattle.bsp_maps.specs.Counts.{count_at, ones}
use Rattle.bsp_rows.specs.Item.{Item}
use Rattle.bsp_rows.specs.Range.{Range}
use Rattle.bsp_rows.specs.Requests.{once}
use Rattle.bsp_rows.specs.RulesRows.{contains}
use Rattle.bsp_rows.specs.Rows.{item_cmp}
use Rattle.bsp_rows.specs.declared.keys.ItemKey.{ItemKey}
use Rattle.bsp_memory_tables.specs.declared.used.Block.{Block}

-- the numbers of an agent's items, in the order of their keys; one that has a CANX too is there twice
abbrev pub agent_numbers : ℕ → FinMap item_cmp Item → List ℕ
agent_numbers agent items = map (λ e. e.0.number) (filter (λ e. e.0.agent == agent) (entries items))

-- how many numbers pass a test, where one that is there twice counts once
abbrev pub count_once : (ℕ → Bool) → List ℕ → ℕ
count_once test numbers = count_by test (once (λ a b. a == b) numbers)

-- how many numbers of a range have an item of the agent
abbrev pub used_count : ℕ → Range → FinMap item_cmp Item → ℕ
used_count agent range items = count_once (λ n. contains n range) (agent_numbers agent items)

-- ---- blocks of numbers

-- by agent, by level, and by place
abbrev pub block_cmp : Block → Block → Ordering
block_cmp = then_cmp (on (λ b. b.agent) nat_cmp) (then_cmp (on (λ b. b.level) nat_cmp) (on (λ b. b.place) nat_cmp))

-- a number without its last two digits, so often
abbrev pub shortened : ℕ → ℕ → ℕ
shortened zero number = number
shortened (suc level) number = shortened level number / 100

-- the number is in the block
abbrev pub is_in_block : Block → ℕ → Bool
is_in_block block number = block.place == shortened block.level number

-- of a level the block is from one place on, and before another
abbrev pub is_between : ℕ → ℕ → ℕ → ℕ → Bool
is_between level from to number = nat_le from (shortened level number) && nat_lt (shortened level number) to

-- the block of a number alone
abbrev pub number_block : ItemKey → Block
number_block k = record { agent = k.agent; level = 0; place = k.number }

-- of levels 0 to 4 each block has the count of its numbers
abbrev pub AreUsedCounted : FinMap item_cmp Item → FinMap block_cmp ℕ → Type 0
AreUsedCounted items counts = (block : Block) → block.level < 5 → count_at counts block ≡ count_once (is_in_block block) (agent_numbers block.agent items)

-- a number that was not counted is counted in its blocks
abbrev pub IsNumberCounted : ItemKey → FinMap block_cmp ℕ → FinMap block_cmp ℕ → Type 0
IsNumberCounted k old new =
    (block : Block) → block.level < 5 → count_at new block ≡ count_at old block + ones ((count_at old (number_block k) == 0) && ((k.agent == block.agent) && is_in_block block k.number))
