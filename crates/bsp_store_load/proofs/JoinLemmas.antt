-- Items with what the tables beside theirs keep of them.
use Rattle.bsp_store_base.proofs.Std.{[], ◌∙◌, ◌∷◌, ◌≡◌, AllByRecursion, ap, Bool, entries, false, FinMap, get, if◌then◌else◌, is_some, List, list_any, None, Option, option_and_then, option_map, or_parts, refl, slice_index_or, Some, sym, true}
use Rattle.bsp_store_base.proofs.Entries.{Canx, IsRight, Item, item_cmp, item_exact, item_total, ItemKey, ReportedDocument, Rfnd, Rows, second_of, Sound, Tktt, TransactionCode, unrelated}
use Rattle.bsp_rows.specs.RulesRows.{is_canx}
use Rattle.bsp_rows.specs.Meanings.{ends_tickets}
use Rattle.bsp_store_base.proofs.Base.{get-seconds_of, IsItemEntry, sale_at, second_in, seconds_of, tax_with, ticket, ticket_cmp}
use Rattle.bsp_store_columns.specs.declared.taxes.ItemTax.{ItemTax}
use Rattle.bsp_store_columns.specs.declared.tickets.TicketKey.{TicketKey}
use Rattle.bsp_store_load.specs.Beside.{IsJoined, IsStoredItem, second_at, taxes_of}
use Rattle.bsp_store_load.proofs.BesideLemmas.{get-taxes_of}
use Rattle.bsp_store_load.proofs.CloseLemmas.{of_entries}

-- ---- a CANX has no second document

none_second : (places : List (Option ReportedDocument)) → list_any is_some places ≡ false → slice_index_or places 1 None ≡ None
none_second [] none = refl
none_second (first ∷ []) none = refl
none_second (first ∷ None ∷ others) none = refl
none_second (first ∷ Some d ∷ others) none =
    let rest = (or_parts (is_some first) (list_any is_some (Some d ∷ others)) none).1 in
    absurd (cc rest)

canx_ends_none : (code : TransactionCode) (exchange : Bool) → (i : Item) → i.transaction.code ≡ code → is_canx i ≡ true → ends_tickets code exchange ≡ false
canx_ends_none Tktt exchange i is canx = let no : false ≡ true = rw is at canx in absurd (cc no)
canx_ends_none Rfnd exchange i is canx = let no : false ≡ true = rw is at canx in absurd (cc no)
canx_ends_none Canx exchange i is canx = refl

canx_alone : (k : ItemKey) (i : Item) → IsRight k i → k.is_canx ≡ true → second_of i.transaction ≡ None
canx_alone k i right canx =
    let is : is_canx i ≡ true = ap (λ (key : ItemKey). key.is_canx) right.keyed ∙ canx in
    none_second i.transaction.related (unrelated i.transaction right.group (canx_ends_none i.transaction.code (is_some i.transaction.exchange) i refl is))

-- ---- the second document of an item, by its key

module _ (m : FinMap item_cmp Item) (k : ItemKey) (i : Item) (there : get m k ≡ Some i) (right : IsRight k i) where
  -- that of its ticket, where it has this flag
  abbrev at_flag : Bool → Option ReportedDocument
  at_flag b = option_and_then (λ (t : TicketKey). get (seconds_of m) t) (if b then None else Some (ticket k))

  joined_by : (b : Bool) → k.is_canx ≡ b → second_of i.transaction ≡ second_at (seconds_of m) k
  joined_by true canx = canx_alone k i right canx ∙ sym (ap at_flag canx)
  joined_by false sale =
      let key : sale_at (ticket k) ≡ k = λ j. record { agent = k.agent; number = k.number; is_canx = sym sale j } in
      ap second_in (sym there) ∙ ap (λ q. second_in (get m q)) (sym key) ∙ sym (get-seconds_of m (ticket k)) ∙ sym (ap at_flag sale)

  joined : IsJoined (taxes_of m) (seconds_of m) (k, i)
  joined = record { tax = get-taxes_of m k ∙ ap (option_map tax_with) there; second = joined_by k.is_canx refl }

-- each item of a sound book
pub items_joined : (rows : Rows) → Sound rows → AllByRecursion (IsJoined (taxes_of rows.items) (seconds_of rows.items)) (entries rows.items)
items_joined rows sound = of_entries item_total item_exact (IsJoined (taxes_of rows.items) (seconds_of rows.items)) rows.items (λ k i there. joined rows.items k i there (sound.items.each k i there).right)

-- the three conditions on an item
pub items_may : (taxes : FinMap item_cmp ItemTax) (seconds : FinMap ticket_cmp ReportedDocument) (es : List (ItemKey × Item)) → AllByRecursion IsItemEntry es → AllByRecursion (λ e. IsRight e.0 e.1) es → AllByRecursion (IsJoined taxes seconds) es
    → AllByRecursion (IsStoredItem taxes seconds) es
items_may taxes seconds [] formed right ties = tt
items_may taxes seconds (e ∷ es) formed right ties = (record { formed = formed.0; right = right.0; joined = ties.0 }, items_may taxes seconds es formed.1 right.1 ties.1)
