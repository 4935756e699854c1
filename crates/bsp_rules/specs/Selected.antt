-- Which of an agent's items bear on a transaction.
use Rattle.std.specs.Prelude.{◌≡◌, ℕ, Bool, true, false, List, ◌∷◌, Option, Some, None, option_map}
use Rattle.std.specs.List.{Contains, filter, filter_map, list_any}
use Rattle.std.specs.Str.{bytes_eq}
use Rattle.bsp_calendar.specs.Published.{Published, target_of}
use Rattle.bsp_ret_records.specs.declared.transactions.ReportedDocument.{ReportedDocument}
use Rattle.bsp_ret_records.specs.declared.transactions.Transaction.{Transaction}
use Rattle.bsp_rules.specs.declared.facts.Facts.{Facts}
use Rattle.bsp_rules.specs.declared.rows.Item.{Item}
use Rattle.bsp_rules.specs.declared.rows.Range.{Range}
use Rattle.bsp_rules.specs.FactsOf.{count_in, facts_in}
use Rattle.bsp_rules.specs.Rows.{is_canx}

-- the numbers of its records 3
abbrev pub related_numbers : Transaction → List (List ℕ)
related_numbers t = filter_map (λ place. option_map (λ d. d.number) place) t.related

-- its own number and its related ones
abbrev pub numbers_of : Transaction → List (List ℕ)
numbers_of t = t.document.number ∷ related_numbers t

abbrev pub is_among : List ℕ → List (List ℕ) → Bool
is_among number numbers = list_any (bytes_eq number) numbers

-- one of the item's numbers is one of these
abbrev pub shares : List (List ℕ) → Item → Bool
shares numbers i = list_any (λ number. is_among number numbers) (numbers_of i.transaction)

-- a related place has a number that passes the test
abbrev pub in_place : (List ℕ → Bool) → Option ReportedDocument → Bool
in_place test None = false
in_place test (Some d) = test d.number

-- the items that share a number with the transaction
unfoldable pub selected : Transaction → List Item → List Item
selected t items = filter (shares (numbers_of t)) items

abbrev pub without_count : Facts → Facts
without_count f = record f { count = 0 }

-- count apart, the facts over these items are those over the selected ones alone
abbrev pub AreSelected : Facts → Bool → List Range → List Item → Transaction → Published → Type 0
AreSelected f registered ranges items t p =
    without_count f ≡ without_count (facts_in registered ranges (selected t items) t p)

-- ---- rows that are found by key

-- no two items are of one number, but a CANX and another
abbrev pub AreDistinct : List Item → Type 0
AreDistinct items =
    (i j : Item) → Contains items i → Contains items j →
    i.transaction.document.number ≡ j.transaction.document.number → is_canx i ≡ is_canx j → i ≡ j

-- some of these items, and among them all that share a number with the transaction; in any order, and some more than once
pub record AreFound (t : Transaction) (items found : List Item) : Type 0 where
  pub own : (i : Item) → Contains found i → Contains items i
  pub all : (i : Item) → Contains items i → shares (numbers_of t) i ≡ true → Contains found i

-- the facts over items that are found so, with the count of all items, are the facts over all items
abbrev pub AreFoundFacts : Type 0
AreFoundFacts =
    (registered : Bool) (ranges : List Range) (items found : List Item) (t : Transaction) (p : Published) →
    AreDistinct items → AreFound t items found →
    record (facts_in registered ranges found t p) { count = count_in items t.document.airline (target_of p t.issued) }
    ≡ facts_in registered ranges items t p
