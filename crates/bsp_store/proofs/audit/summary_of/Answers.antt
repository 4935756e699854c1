use Rattle.bsp_store_base.proofs.Std.{◌≡◌, entries, length, nat_cmp, nat_cmp-IsAntisymmetric}
use Rattle.std.proofs.lemmas.Cmp.{nat_cmp_total}
use Rattle.bsp_store_base.proofs.Entries.{as_map, item_cmp, item_exact, item_total, memo_cmp, memo_exact, memo_total}
use Rattle.bsp_store.proofs.AuditingLemmas.{entry_count, summary_is}
use Rattle.bsp_store.proofs.audit.summary_of.Goals as goal

pub returns : goal.returns
returns c rows holds =
    let t = c.args.list.now.tables in
    let agents : c.len.result ≡ length (entries (as_map nat_cmp t.agents.map)) =
    rw (c.map.ensures, c.agent_tokens.ensures, c.tables-tables.ensures) at (entry_count nat_cmp_total nat_cmp-IsAntisymmetric c.map.result.now c.len.result c.len.ensures.len c.len.ensures.ordered) in
    let items : c.len-2.result ≡ length (entries (as_map item_cmp t.items.rows.map)) =
    rw (c.map-2.ensures, c.item_table.ensures, c.tables-tables.ensures) at (entry_count item_total item_exact c.map-2.result.now c.len-2.result c.len-2.ensures.len c.len-2.ensures.ordered) in
    let memos : c.len-3.result ≡ length (entries (as_map memo_cmp t.memos.rows.map)) =
    rw (c.map-3.ensures, c.memo_table.ensures, c.tables-tables.ensures) at (entry_count memo_total memo_exact c.map-3.result.now c.len-3.result c.len-3.ensures.len c.len-3.ensures.ordered) in
    summary_is rows _ _ holds.rows (record {
      day = rw (c.plan-plan.ensures, c.tables-tables.ensures) at c.day.ensures;
      agents = agents;
      items = items;
      memos = memos;
      periods = rw (c.plan-plan.ensures, c.tables-tables.ensures) at c.closed_count.ensures;
    })
