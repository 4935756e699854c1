use Rattle.std.proofs.Common.{ap, sym, subst, ◌∙◌}
use Rattle.std.specs.FinMap.{empty, entries, values}
use Rattle.bsp_maps.specs.Picks.{with_keys}
use Rattle.bsp_maps.specs.Undo.{content}
use Rattle.bsp_maps.proofs.PickLemmas.{all_found, if_ok}
use Rattle.bsp_rows.specs.MemoFields.{MemoFields}
use Rattle.bsp_maps.specs.Indexes.{IsLeast, keys_at, members}
use Rattle.bsp_maps.proofs.IndexLemmas.{index_among, passing_values}
use Rattle.bsp_rows.specs.declared.keys.MemoKey.{MemoKey}
use Rattle.bsp_rows.specs.Rows.{is_unbilled, memo_cmp}
use Rattle.bsp_rows.proofs.KeyOrders.{memo_exact, memo_total}
use Rattle.bsp_memory_tables.specs.Places.{one_cmp, unbilled_place}
use Rattle.bsp_memory_tables.proofs.PlaceOrders.{at_unbilled, least_memo_key}
use Rattle.bsp_memory_tables.proofs.memos.MemoTable.unbilled.Goals as goal

pub keys_at-requires : goal.keys_at-requires
keys_at-requires c = subst (λ (k : MemoKey). IsLeast memo_cmp k) (sym c.least_memo.ensures) least_memo_key

pub returns : goal.returns
returns c =
    let rows = content memo_cmp c.args.self.now.rows in
    let index = members one_cmp memo_cmp c.args.self.now.unbilled in
    let holds = λ (k : MemoKey) (m : MemoFields). is_unbilled m in
    if_ok c.picked.result (λ v e h. e
    ∙ ap (λ ks. values (with_keys {R = memo_cmp} holds rows ks empty)) (c.deref.ensures.value ∙ c.in_ok-keys.ensures)
    ∙ all_found memo_cmp memo_total memo_exact holds rows (keys_at one_cmp memo_cmp tt index) (index_among one_cmp memo_cmp unbilled_place holds tt at_unbilled rows index h.unbilled)
    ∙ passing_values is_unbilled (entries rows)) c.picked.ensures
