-- An airline's own items and memos of a period are what is looked up for it.
use Rattle.std.proofs.Common.{◌≡◌, ℕ, ◌==◌, map, sym, ap, ◌∙◌}
use Rattle.std.specs.List.{filter}
use Rattle.std.specs.FinMap.{values}
use Rattle.bsp_rows.specs.Owed.{is_billed_in}
use Rattle.bsp_rows.specs.MemoFields.{MemoFields}
use Rattle.bsp_statement.proofs.ListLemmas.{filter_filter}
use Rattle.bsp_rows.specs.Part.{airline_part}
use Rattle.bsp_rows.specs.Rows.{Rows, airline_memos, is_in, items_of, memos_of}
use Rattle.bsp_rows.specs.declared.keys.MemoKey.{MemoKey}
use Rattle.bsp_rows.specs.declared.questions.Items.TheVariants as item
use Rattle.bsp_rows.specs.declared.questions.Memos.TheVariants as memo
use Rattle.bsp_rows.proofs.KeyOrders.{memo_exact, memo_total}
use Rattle.bsp_rows.proofs.PartLemmas.{kept_entries}
use Rattle.bsp_rules.specs.declared.rows.Item.{Item}
use Rattle.bsp_desk_sales.proofs.Unchanged.{airline_items}

pub bearing_items : (airline period : ℕ) (rows : Rows) → items_of (item.OfAirlineIn airline period) rows ≡ filter (is_in period) (values (airline_part airline rows).items)
bearing_items airline period rows =
    sym (filter_filter (λ (i : Item). i.transaction.document.airline == airline) (is_in period) (values rows.items))
    ∙ ap (filter (is_in period)) (sym (airline_items airline rows))

issued_memos : (airline : ℕ) (rows : Rows) → airline_memos airline rows ≡ values (airline_part airline rows).memos
issued_memos airline rows = ap (map (λ (e : MemoKey × MemoFields). e.1)) (sym (kept_entries memo_total memo_exact (λ (e : MemoKey × MemoFields). e.0.airline == airline) rows.memos))

pub billed_memos : (airline period : ℕ) (rows : Rows) → memos_of (memo.OfAirlineIn airline period) rows ≡ filter (is_billed_in period) (values (airline_part airline rows).memos)
billed_memos airline period rows = ap (filter (is_billed_in period)) (issued_memos airline rows)
