-- What an audit demands of each item and memo, entry by entry.
use Rattle.bsp_store_base.proofs.Std.{[], ◌∷◌, ◌≡◌, AllByRecursion, entries, List, true}
use Rattle.bsp_store_base.proofs.Entries.{is_memo, IsRight, item_exact, item_total, memo_exact, memo_key, memo_total, MemoFields, MemoKey, Rows, Sound}
use Rattle.bsp_store_base.specs.Forms.{IsMemoEntry}
use Rattle.bsp_store_load.proofs.CloseLemmas.{of_entries}

pub items_right : (rows : Rows) → Sound rows → AllByRecursion (λ e. IsRight e.0 e.1) (entries rows.items)
items_right rows sound = of_entries item_total item_exact (λ e. IsRight e.0 e.1) rows.items (λ k i at. (sound.items.each k i at).right)

pub memos_fit : (rows : Rows) → Sound rows → AllByRecursion (λ e. (memo_key e.1 ≡ e.0) × (is_memo e.1 ≡ true)) (entries rows.memos)
memos_fit rows sound = of_entries memo_total memo_exact (λ e. (memo_key e.1 ≡ e.0) × (is_memo e.1 ≡ true)) rows.memos (λ k m at. ((sound.memos.each k m at).keyed, (sound.memos.each k m at).fit))

-- the three conditions on a memo
pub memos_may : (es : List (MemoKey × MemoFields)) → AllByRecursion IsMemoEntry es → AllByRecursion (λ e. (memo_key e.1 ≡ e.0) × (is_memo e.1 ≡ true)) es
    → AllByRecursion (λ e. IsMemoEntry e × (memo_key e.1 ≡ e.0) × (is_memo e.1 ≡ true)) es
memos_may [] formed fit = tt
memos_may (e ∷ es) formed fit = ((formed.0, fit.0.0, fit.0.1), memos_may es formed.1 fit.1)
