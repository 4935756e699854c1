use Rattle.std.proofs.Common.{◌==◌, ap, sym, subst, ◌∙◌}
use Rattle.std.specs.FinMap.{empty, entries, values}
use Rattle.std.specs.Ordering.{nat_cmp}
use Rattle.bsp_maps.specs.Picks.{with_keys}
use Rattle.bsp_maps.specs.Undo.{content}
use Rattle.bsp_maps.proofs.PickLemmas.{all_found, if_ok}
use Rattle.bsp_rows.specs.MemoFields.{MemoFields}
use Rattle.bsp_maps.specs.Indexes.{IsLeast, keys_at, members}
use Rattle.bsp_maps.proofs.IndexLemmas.{index_among, passing_values}
use Rattle.bsp_rows.specs.declared.keys.MemoKey.{MemoKey}
use Rattle.bsp_rows.specs.Rows.{memo_cmp}
use Rattle.bsp_rows.proofs.KeyOrders.{memo_exact, memo_total}
use Rattle.bsp_memory_tables.specs.Places.{agent_place}
use Rattle.bsp_memory_tables.proofs.PlaceOrders.{at_agent, least_memo_key}
use Rattle.bsp_memory_tables.proofs.memos.MemoTable.of_agent.Goals as goal

pub keys_at-requires : goal.keys_at-requires
keys_at-requires c = subst (λ (k : MemoKey). IsLeast memo_cmp k) (sym c.least_memo.ensures) least_memo_key

pub returns : goal.returns
returns c =
    let agent = c.args.agent in
    let rows = content memo_cmp c.args.self.now.rows in
    let index = members nat_cmp memo_cmp c.args.self.now.by_agent in
    let holds = λ (k : MemoKey) (m : MemoFields). m.agent == agent in
    if_ok c.picked.result (λ v e h. e
    ∙ ap (λ ks. values (with_keys {R = memo_cmp} holds rows ks empty)) (c.deref.ensures.value ∙ c.in_ok-keys.ensures)
    ∙ all_found memo_cmp memo_total memo_exact holds rows (keys_at nat_cmp memo_cmp agent index) (index_among nat_cmp memo_cmp agent_place holds agent (at_agent agent) rows index h.by_agent)
    ∙ passing_values (λ (m : MemoFields). m.agent == agent) (entries rows)) c.picked.ensures
