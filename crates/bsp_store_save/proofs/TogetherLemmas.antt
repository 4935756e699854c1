-- Tables that follow from one map in memory, written one after another.
use Rattle.bsp_store_base.proofs.Std.{◌≡◌, ap, FinMap, Result, sym}
use Rattle.bsp_store_base.proofs.Sqlite.{Ghosts, Held}
use Rattle.bsp_store_base.proofs.Entries.{Item, item_cmp, memo_cmp, MemoFields, Tally, tally_cmp}
use Rattle.bsp_store_base.proofs.Base.{Content, seconds_of}
use Rattle.bsp_store_load.specs.Contents.{used_tallies}
use Rattle.bsp_store_save.specs.Saving.{HasItems, HasTallies, Saves, with_items}
use Rattle.bsp_store_save.proofs.StepLemmas.{under}

-- ---- items, their taxes and their second documents

module _ (was : FinMap item_cmp Item) (c : Content) (has : HasItems was c) where
  its_items : c.items ≡ was
  its_items = sym (ap (λ (c : Content). c.items) has)

  pub its_taxes : c.item_taxes ≡ was
  its_taxes = sym (ap (λ (c : Content). c.item_taxes) has)

  pub its_seconds : c.seconds ≡ seconds_of was
  its_seconds = sym (ap (λ (c : Content). c.seconds) has)

pub items_first : {S X E : Type 0} {g : Ghosts S} {first second : Held S} {r : Result X E} {f : Content → Content} (was : FinMap item_cmp Item) → Saves g first second r (λ c. c.items ≡ was) f → Saves g first second r (HasItems was) f
items_first was it = under (HasItems was) it (its_items was)

-- ---- tallies and their taxes

module _ (was : FinMap tally_cmp Tally) (c : Content) (has : HasTallies was c) where
  its_tallies : c.tallies ≡ used_tallies was
  its_tallies = sym (ap (λ (c : Content). c.tallies) has)

  pub its_tally_taxes : c.tally_taxes ≡ used_tallies was
  its_tally_taxes = sym (ap (λ (c : Content). c.tally_taxes) has)

-- they stay while items and memos are written
pub tallies_stay : (was : FinMap tally_cmp Tally) (items : FinMap item_cmp Item) (memos : FinMap memo_cmp MemoFields) (c : Content) → HasTallies was c → HasTallies was (record (with_items items c) { memos = memos })
tallies_stay was items memos c has = ap (λ (c : Content). record (with_items items c) { memos = memos }) has

pub tallies_first : {S X E : Type 0} {g : Ghosts S} {first second : Held S} {r : Result X E} {f : Content → Content} (was : FinMap tally_cmp Tally) → Saves g first second r (λ c. c.tallies ≡ used_tallies was) f → Saves g first second r (HasTallies was) f
tallies_first was it = under (HasTallies was) it (its_tallies was)
