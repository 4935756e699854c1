-- What the tables beside that of items keep of items: a tax of each, and the second documents.
use Rattle.bsp_store_base.proofs.Std.{[], ◌&&◌, ◌∙◌, ◌∷◌, ◌≡◌, AllByRecursion, ap, below_all, Bool, cond, cons_option, entries, entries-from_sorted, entries_sorted, eq_by_cmp, false, filter_map, find, FinMap, get, get-entries, get-from_sorted, is_lt, is_sorted, List, list_any, map, None, Option, option_map, or_parts, refl, slice_index_or, Some, subst, sym, T, true}
use Rattle.bsp_store_base.proofs.Entries.{is_wrong_place, IsRight, Item, item_cmp, ItemKey, ReportedDocument, second_of}
use Rattle.bsp_store_base.proofs.Base.{entries-seconds_of, IsItemEntry, IsSecondEntry, IsTaxEntry, item_tax_row, second_entry, second_pair, seconds_of, tax_row, tax_with, ticket}
use Rattle.bsp_store_columns.specs.declared.tickets.TicketKey.{TicketKey}
use Rattle.bsp_store_base.proofs.Back.{tax_formed}
use Rattle.bsp_store_load.specs.Beside.{IsSecond, tax_entry, taxes_of}

-- ---- the taxes of items

below_taxes : (x : ItemKey) (es : List (ItemKey × Item)) → below_all item_cmp x (filter_map tax_entry es) ≡ below_all item_cmp x es
below_taxes x [] = refl
below_taxes x (e ∷ es) = ap (λ b. is_lt (item_cmp x e.0) && b) (below_taxes x es)

sorted_taxes : (es : List (ItemKey × Item)) → is_sorted item_cmp (filter_map tax_entry es) ≡ is_sorted item_cmp es
sorted_taxes [] = refl
sorted_taxes (e ∷ es) = ap (λ b. b && is_sorted item_cmp (filter_map tax_entry es)) (below_taxes e.0 es) ∙ ap (λ b. below_all item_cmp e.0 es && b) (sorted_taxes es)

taxes_up : (m : FinMap item_cmp Item) → T (is_sorted item_cmp (filter_map tax_entry (entries m)))
taxes_up m = subst T (sym (sorted_taxes (entries m))) (entries_sorted m)

pub entries-taxes_of : (m : FinMap item_cmp Item) → entries (taxes_of m) ≡ filter_map tax_entry (entries m)
unfolding taxes_of
entries-taxes_of m = entries-from_sorted item_cmp (filter_map tax_entry (entries m)) (taxes_up m)

-- the rows of the items' taxes
rows_each : (es : List (ItemKey × Item)) → map tax_row (filter_map tax_entry es) ≡ map item_tax_row es
rows_each [] = refl
rows_each (e ∷ es) = ap (λ l. item_tax_row e ∷ l) (rows_each es)

pub tax_rows : (m : FinMap item_cmp Item) → map tax_row (entries (taxes_of m)) ≡ map item_tax_row (entries m)
tax_rows m = ap (map tax_row) (entries-taxes_of m) ∙ rows_each (entries m)

-- they are formed where the items are
formed_each : (es : List (ItemKey × Item)) → AllByRecursion IsItemEntry es → AllByRecursion IsTaxEntry (filter_map tax_entry es)
formed_each [] formed = tt
formed_each (e ∷ es) formed = (tax_formed e formed.0, formed_each es formed.1)

pub taxes_formed : (m : FinMap item_cmp Item) → AllByRecursion IsItemEntry (entries m) → AllByRecursion IsTaxEntry (entries (taxes_of m))
taxes_formed m formed = subst (AllByRecursion IsTaxEntry) (sym (entries-taxes_of m)) (formed_each (entries m) formed)

-- that of the item at a key
one_step : (tie : Bool) (i : Item) (found : Option Item) → cond tie (Some (tax_with i)) (option_map tax_with found) ≡ option_map tax_with (cond tie (Some i) found)
one_step true i found = refl
one_step false i found = refl

find_tax : (k : ItemKey) (es : List (ItemKey × Item)) → find item_cmp k (filter_map tax_entry es) ≡ option_map tax_with (find item_cmp k es)
find_tax k [] = refl
find_tax k (e ∷ es) = ap (cond (eq_by_cmp item_cmp k e.0) (Some (tax_with e.1))) (find_tax k es) ∙ one_step (eq_by_cmp item_cmp k e.0) e.1 (find item_cmp k es)

pub get-taxes_of : (m : FinMap item_cmp Item) (k : ItemKey) → get (taxes_of m) k ≡ option_map tax_with (get m k)
unfolding taxes_of
get-taxes_of m k =
    get-from_sorted item_cmp (filter_map tax_entry (entries m)) k (taxes_up m) ∙ find_tax k (entries m) ∙ ap (option_map tax_with) (sym (get-entries m k))

-- ---- second documents

second_checked : (places : List (Option ReportedDocument)) → list_any is_wrong_place places ≡ false → is_wrong_place (slice_index_or places 1 None) ≡ false
second_checked [] right = refl
second_checked (first ∷ []) right = refl
second_checked (first ∷ second ∷ others) right =
    let rest = (or_parts (is_wrong_place first) (list_any is_wrong_place (second ∷ others)) right).1 in
    (or_parts (is_wrong_place second) (list_any is_wrong_place others) rest).0

abbrev pub IsChecked : TicketKey × ReportedDocument → Type 0
IsChecked e = is_wrong_place (Some e.1) ≡ false

checked_on : (b : Bool) (t : TicketKey) (o : Option ReportedDocument) (rest : List (TicketKey × ReportedDocument)) → is_wrong_place o ≡ false → AllByRecursion IsChecked rest → AllByRecursion IsChecked (cons_option (second_pair b t o) rest)
checked_on true t o rest right all = all
checked_on false t None rest right all = all
checked_on false t (Some d) rest right all = (right, all)

checked_each : (es : List (ItemKey × Item)) → AllByRecursion (λ e. IsRight e.0 e.1) es → AllByRecursion IsChecked (filter_map second_entry es)
checked_each [] right = tt
checked_each (e ∷ es) right =
    checked_on e.0.is_canx (ticket e.0) (second_of e.1.transaction) (filter_map second_entry es) (second_checked e.1.transaction.related right.0.checked) (checked_each es right.1)

-- those of right items have their check digits
pub seconds_checked : (m : FinMap item_cmp Item) → AllByRecursion (λ e. IsRight e.0 e.1) (entries m) → AllByRecursion IsChecked (entries (seconds_of m))
seconds_checked m right = subst (AllByRecursion IsChecked) (sym (entries-seconds_of m)) (checked_each (entries m) right)

-- both conditions on a second document
pub seconds_fit : (es : List (TicketKey × ReportedDocument)) → AllByRecursion IsSecondEntry es → AllByRecursion IsChecked es → AllByRecursion IsSecond es
seconds_fit [] formed checked = tt
seconds_fit (e ∷ es) formed checked = (record { formed = formed.0; checked = checked.0 }, seconds_fit es formed.1 checked.1)
