-- The index of items by the numbers that they bear, as they were reported. An item is not kept there at the number of its own
-- key, by which it is found.
use Rattle.std.specs.Prelude.{◌≡◌, ℕ, ◌==◌, ◌&&◌, ◌||◌, Bool, true, false, if◌then◌else◌, Option, Some, None, option_map, List, [], ◌∷◌, ◌++◌}
use Rattle.std.specs.Result.{result_ok}
use Rattle.bsp_rows.specs.Codes.{code_reading}
use Rattle.std.specs.declared.cmp.Ordering.{Ordering}
use Rattle.std.specs.Ordering.{nat_cmp, bool_cmp, on, then_cmp}
use Rattle.std.specs.Cmp.Lexicographic.{slice_cmp}
use Rattle.std.specs.List.{filter_map}
use Rattle.std.specs.FinMap.{FinMap, get, insert, entries}
use Rattle.std.specs.Str.{bytes_eq}
use Rattle.bsp_rows.specs.ReportedDocument.{ReportedDocument}
use Rattle.bsp_rows.specs.Transaction.{Transaction}
use Rattle.bsp_rows.specs.Item.{Item}
use Rattle.bsp_rows.specs.RulesRows.{has_number, names}
use Rattle.bsp_rows.specs.Selected.{is_among, numbers_of, shares}
use Rattle.bsp_maps.specs.Windows.{values_in}
use Rattle.bsp_rows.specs.declared.keys.ItemKey.{ItemKey}
use Rattle.bsp_rows.specs.Rows.{item_cmp}
use Rattle.bsp_memory_tables.specs.declared.keys.NumberKey.{NumberKey}

-- by agent and number, and then by item
abbrev pub number_cmp : NumberKey → NumberKey → Ordering
number_cmp = then_cmp (on (λ k. k.agent) nat_cmp) (then_cmp (on (λ k. k.number) (slice_cmp nat_cmp)) (then_cmp (on (λ k. k.item) nat_cmp) (on (λ k. k.is_canx) bool_cmp)))

abbrev pub number_key : ItemKey → List ℕ → NumberKey
number_key k number = record { agent = k.agent; number = number; item = k.number; is_canx = k.is_canx }

-- the numbers of the documents that are there
abbrev pub place_numbers : List (Option ReportedDocument) → List (List ℕ)
place_numbers places = filter_map (λ place. option_map (λ d. d.number) place) places

-- ---- what is kept

-- a number that these digits read as
abbrev pub is_number : ℕ → Option ℕ → Bool
is_number number None = false
is_number number (Some read) = read == number

-- the digits are those of the key's own number
abbrev pub is_own : ItemKey → List ℕ → Bool
is_own k digits = is_number k.number (result_ok (code_reading 10 digits))

-- with an item at a number, unless it is its own
abbrev pub with_number : ItemKey → List ℕ → FinMap number_cmp ItemKey → FinMap number_cmp ItemKey
with_number k number index = if is_own k number then index else insert index (number_key k number) k

-- with an item at each of these numbers
abbrev pub with_numbers : ItemKey → List (List ℕ) → FinMap number_cmp ItemKey → FinMap number_cmp ItemKey
with_numbers k [] index = index
with_numbers k (number ∷ numbers) index = with_numbers k numbers (with_number k number index)

-- each item is at each of its numbers but its own
abbrev pub IsIndexed : FinMap item_cmp Item → FinMap number_cmp ItemKey → Type 0
IsIndexed items index = (k : ItemKey) (i : Item) (number : List ℕ) → get items k ≡ Some i → is_among number (numbers_of i.transaction) ≡ true → is_own k number ≡ false → get index (number_key k number) ≡ Some k

-- ---- what it gives

abbrev pub is_of_number : ℕ → List ℕ → NumberKey → Bool
is_of_number agent number k = (k.agent == agent) && bytes_eq k.number number

-- the keys of the TKTT or RFND and of the CANX of a number
abbrev pub own_keys : ℕ → Option ℕ → List ItemKey
own_keys agent None = []
own_keys agent (Some number) = record { agent = agent; number = number; is_canx = false } ∷ record { agent = agent; number = number; is_canx = true } ∷ []

-- the keys that an agent's items of a number may have: its own, and those at the number
abbrev pub keys_at : FinMap number_cmp ItemKey → ℕ → List ℕ → List ItemKey
keys_at index agent number = own_keys agent (result_ok (code_reading 10 number)) ++ values_in (is_of_number agent number) (entries index)

-- the keys of an agent's items at one of these numbers
abbrev pub keys_at_each : FinMap number_cmp ItemKey → ℕ → List (List ℕ) → List ItemKey
keys_at_each index agent [] = []
keys_at_each index agent (number ∷ numbers) = keys_at index agent number ++ keys_at_each index agent numbers

-- an item of the agent that shares a number with a transaction
abbrev pub is_bearing : ℕ → Transaction → ItemKey → Item → Bool
is_bearing agent t k i = (k.agent == agent) && shares (numbers_of t) i

-- the number is the item's own, or one of its related numbers
abbrev pub bears : List ℕ → Item → Bool
bears number i = has_number number i || names number i.transaction

-- an item of the agent that bears a number
abbrev pub is_with_number : ℕ → List ℕ → ItemKey → Item → Bool
is_with_number agent number k i = (k.agent == agent) && bears number i
