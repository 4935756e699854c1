-- The tallies follow from the rows after a write.
use Rattle.std.proofs.Common.{◌≡◌, sym, ap, subst, ◌∙◌, List, [], ◌∷◌, ◌++◌, map}
use Rattle.std.specs.FinMap.{FinMap, empty, get, insert, values, get-empty}
use Rattle.std.specs.Prelude.{unwrap_or}
use Rattle.std.specs.Option.{option_to_list}
use Rattle.std.proofs.lemmas.List.Sorted.{IsPermutation-refl}
use Rattle.bsp_rows.specs.Item.{Item}
use Rattle.bsp_rows.specs.MemoFields.{MemoFields}
use Rattle.bsp_rows.specs.Tally.{Tally}
use Rattle.bsp_rows.specs.declared.keys.ItemKey.{ItemKey}
use Rattle.bsp_rows.specs.declared.keys.MemoKey.{MemoKey}
use Rattle.bsp_rows.specs.Rows.{item_cmp, memo_cmp}
use Rattle.bsp_rows.specs.Tallies.{added_up, key_tally, tally_cmp}
use Rattle.bsp_maps.proofs.OrderLemmas.{no_entries}
use Rattle.bsp_rows.proofs.KeyOrders.{item_total, memo_total}
use Rattle.bsp_memory_rows.specs.Kept.{AreAddedUp, tally_at}
use Rattle.bsp_memory_rows.proofs.TallySteps.{moved}
use Rattle.bsp_memory_rows.proofs.ValueLemmas.{insert_others}

-- of equal maps
pub totals_same : (items others : FinMap item_cmp Item) (memos other_memos : FinMap memo_cmp MemoFields) (tallies other_tallies : FinMap tally_cmp Tally)
    → others ≡ items → other_memos ≡ memos → other_tallies ≡ tallies → AreAddedUp (values items) (values memos) tallies → AreAddedUp (values others) (values other_memos) other_tallies
totals_same items others memos other_memos tallies other_tallies p q r h =
    subst (λ (m : FinMap item_cmp Item). AreAddedUp (values m) (values other_memos) other_tallies) (sym p)
    (subst (λ (m : FinMap memo_cmp MemoFields). AreAddedUp (values items) (values m) other_tallies) (sym q)
    (subst (λ (m : FinMap tally_cmp Tally). AreAddedUp (values items) (values memos) m) (sym r) h))

-- of no rows
pub no_totals : AreAddedUp (values (empty {X = Item} {R = item_cmp})) (values (empty {X = MemoFields} {R = memo_cmp})) empty
no_totals k =
    let no_items : values (empty {X = Item} {R = item_cmp}) ≡ [] = ap (map (λ e. e.1)) (no_entries item_cmp) in
    let no_memos : values (empty {X = MemoFields} {R = memo_cmp}) ≡ [] = ap (map (λ e. e.1)) (no_entries memo_cmp) in
    let none : tally_at empty k ≡ added_up (key_tally k) [] [] = ap (λ t. unwrap_or t (key_tally k)) (get-empty tally_cmp k) in
    none ∙ (λ j. added_up (key_tally k) (sym no_items j) (sym no_memos j))

-- an item is written
pub item_totals : (items : FinMap item_cmp Item) (memos : FinMap memo_cmp MemoFields) (tallies next : FinMap tally_cmp Tally) (key : ItemKey) (item : Item)
    → ((others : List Item) (memos : List MemoFields) → AreAddedUp (option_to_list (get items key) ++ others) memos tallies → AreAddedUp (item ∷ others) memos next)
    → AreAddedUp (values items) (values memos) tallies → AreAddedUp (values (insert items key item)) (values memos) next
item_totals items memos tallies next key item recount h =
    let o = insert_others item_total items key item in
    moved (item ∷ o.others) (values (insert items key item)) (values memos) (values memos) next o.is (IsPermutation-refl _)
    (recount o.others (values memos) (moved (values items) (option_to_list (get items key) ++ o.others) (values memos) (values memos) tallies o.was (IsPermutation-refl _) h))

-- a memo is written
pub memo_totals : (items : FinMap item_cmp Item) (memos : FinMap memo_cmp MemoFields) (tallies next : FinMap tally_cmp Tally) (key : MemoKey) (memo : MemoFields)
    → ((items : List Item) (others : List MemoFields) → AreAddedUp items (option_to_list (get memos key) ++ others) tallies → AreAddedUp items (memo ∷ others) next)
    → AreAddedUp (values items) (values memos) tallies → AreAddedUp (values items) (values (insert memos key memo)) next
memo_totals items memos tallies next key memo recount h =
    let o = insert_others memo_total memos key memo in
    moved (values items) (values items) (memo ∷ o.others) (values (insert memos key memo)) next (IsPermutation-refl _) o.is
    (recount (values items) o.others (moved (values items) (values items) (values memos) (option_to_list (get memos key) ++ o.others) tallies (IsPermutation-refl _) o.was h))
