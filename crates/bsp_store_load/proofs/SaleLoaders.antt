-- The tables of items and memos, as the maps in memory.
use Rattle.bsp_store_base.proofs.Std.{◌≡◌, ap, FinMap, get, insert, None, refl, true}
use Rattle.bsp_store_base.proofs.Entries.{is_memo, Item, item_cmp, item_total, ItemKey, key_of, memo_cmp, memo_key, memo_total, MemoFields, MemoKey, ReportedDocument, Rows, with_item, with_memo}
use Rattle.bsp_store_base.proofs.Base.{IsMemoEntry, item_part, item_row, memo_part, memo_row, ticket_cmp}
use Rattle.bsp_store_columns.specs.declared.taxes.ItemTax.{ItemTax}
use Rattle.bsp_store_load.specs.Beside.{IsStoredItem}
use Rattle.bsp_store_load.proofs.Loaders.{Loader}

-- with what the other tables keep of items
abbrev pub items_loader : (taxes : FinMap item_cmp ItemTax) (seconds : FinMap ticket_cmp ReportedDocument) → Loader ItemKey Item Rows item_cmp (IsStoredItem taxes seconds) (λ e rows. (key_of e.1 ≡ e.0) × (get rows.items e.0 ≡ None))
items_loader taxes seconds = record {
  total = item_total;
  part = item_part;
  row_of = item_row;
  step = λ e. with_item e.1;
  of = λ rows. rows.items;
  with = λ m rows. record rows { items = m };
  in_content = λ c. c.items;
  steps = λ e rows fit. ap (λ k. insert rows.items k e.1) fit.right.keyed;
  free = λ e rows fit none. (fit.right.keyed, none);
  alone = λ e rows. refl;
  with_of = λ rows. refl;
  with_with = λ m n rows. refl;
  rows_are = λ c. refl;
}

abbrev pub memos_loader : Loader MemoKey MemoFields Rows memo_cmp (λ e. IsMemoEntry e × (memo_key e.1 ≡ e.0) × (is_memo e.1 ≡ true)) (λ e rows. (memo_key e.1 ≡ e.0) × (get rows.memos e.0 ≡ None))
memos_loader = record {
  total = memo_total;
  part = memo_part;
  row_of = memo_row;
  step = λ e. with_memo e.1;
  of = λ rows. rows.memos;
  with = λ m rows. record rows { memos = m };
  in_content = λ c. c.memos;
  steps = λ e rows fit. ap (λ k. insert rows.memos k e.1) fit.1;
  free = λ e rows fit none. (fit.1, none);
  alone = λ e rows. refl;
  with_of = λ rows. refl;
  with_with = λ m n rows. refl;
  rows_are = λ c. refl;
}
