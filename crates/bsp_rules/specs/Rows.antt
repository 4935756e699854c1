-- What is asked of an agent's list of accepted items, and of its ranges.
use Rattle.std.specs.Prelude.{◌≡◌, ◌≢◌, ℕ, ◌==◌, nat_le, Bool, false, ◌&&◌, not, List, Option, Some, None, option_map, is_some}
use Rattle.std.specs.List.{All, Contains, list_any, find}
use Rattle.std.specs.Str.{all_ascii_digits, bytes_eq}
use Rattle.bsp_fields.specs.Decimal.{number_of}
use Rattle.bsp_calendar.specs.Published.{Published, is_closed, period_of}
use Rattle.bsp_ret_records.specs.declared.codes.TransactionCode.TheVariants.{Tktt, Canx}
use Rattle.bsp_ret_records.specs.declared.transactions.ReportedDocument.{ReportedDocument}
use Rattle.bsp_ret_records.specs.declared.transactions.Transaction.{Transaction}
use Rattle.bsp_rules.specs.declared.rows.Item.{Item}
use Rattle.bsp_rules.specs.declared.rows.Range.{Range}
use Rattle.bsp_rules.specs.SameContent.{same_code, same_content}

-- ---- one item

abbrev pub has_number : List ℕ → Item → Bool
has_number number i = bytes_eq i.transaction.document.number number

abbrev pub is_canx : Item → Bool
is_canx i = same_code i.transaction.code Canx

-- a related place names the number
abbrev pub names_number : List ℕ → Option ReportedDocument → Bool
names_number number None = false
names_number number (Some d) = bytes_eq d.number number

-- one of its records 3 names the number
abbrev pub names : List ℕ → Transaction → Bool
names number t = list_any (names_number number) t.related

-- a living TKTT or RFND that relates to the number
abbrev pub is_living_relation : List ℕ → Item → Bool
is_living_relation number i = (i.lives && not (is_canx i)) && names number i.transaction

-- the TKTT of the document's airline and number
abbrev pub is_ticket : ReportedDocument → Item → Bool
is_ticket d i =
    (same_code i.transaction.code Tktt && (i.transaction.document.airline == d.airline)) && has_number d.number i

-- ---- the list

-- the number has been accepted, in any code
abbrev pub used : List ℕ → List Item → Bool
used number items = list_any (has_number number) items

-- it has been accepted in a CANX
abbrev pub cancelled : List ℕ → List Item → Bool
cancelled number items = list_any (λ i. has_number number i && is_canx i) items

-- it has been accepted for another airline
abbrev pub used_elsewhere : ℕ → List ℕ → List Item → Bool
used_elsewhere airline number items =
    list_any (λ i. has_number number i && not (i.transaction.document.airline == airline)) items

-- a living TKTT or RFND relates to it
abbrev pub relates : List ℕ → List Item → Bool
relates number items = list_any (is_living_relation number) items

-- the accepted TKTT of the document's airline and number
abbrev pub ticket : ReportedDocument → List Item → Option Item
ticket d items = find (is_ticket d) items

-- the period is published and closed
abbrev pub is_past : Published → ℕ → Bool
is_past p code = is_some (period_of p code) && is_closed p code

-- the number has been accepted in a period that is closed
abbrev pub used_in_closed_period : Published → List ℕ → List Item → Bool
used_in_closed_period p number items = list_any (λ i. has_number number i && is_past p i.period) items

-- the accepted transaction with the same content, and its period
abbrev pub held_item : Transaction → List Item → Option Item
held_item t items = find (λ i. same_content i.transaction t) items

abbrev pub held_period : Transaction → List Item → Option ℕ
held_period t items = option_map (λ i. i.period) (held_item t items)

-- the same in other words: an item has this very transaction, in every value, and this period; or none has it
abbrev pub IsHeld : Transaction → List Item → Option ℕ → Type 0
IsHeld t items None = All (λ i. i.transaction ≢ t) items
IsHeld t items (Some period) = (i : Item) × Contains items i × (i.transaction ≡ t) × (i.period ≡ period)

-- ---- the ranges

-- the number lies in the range
abbrev pub contains : ℕ → Range → Bool
contains number r = nat_le r.first number && nat_le number r.last

-- the document's number lies in one of the ranges
abbrev pub is_in_stock : ReportedDocument → List Range → Bool
is_in_stock d ranges = all_ascii_digits d.number && list_any (contains (number_of d.number)) ranges
