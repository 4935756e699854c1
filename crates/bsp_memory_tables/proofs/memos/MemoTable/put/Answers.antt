use Rattle.std.proofs.Common.{◌≡◌, ap, refl, subst, sym, ◌∙◌}
use Rattle.std.specs.FinMap.{get, insert}
use Rattle.std.specs.Prelude.{Option, option_map}
use Rattle.bsp_memory_tables.specs.declared.places.Parties.{Parties}
use Rattle.std.specs.Ordering.{nat_cmp}
use Rattle.bsp_maps.specs.Undo.{content}
use Rattle.bsp_maps.specs.Counts.{AreCounted, HasCounted, IsRecounted, counted}
use Rattle.bsp_maps.specs.Indexes.{found_place, members}
use Rattle.bsp_maps.proofs.EntryLemmas.{then_ok}
use Rattle.bsp_maps.proofs.PlaceCountLemmas.{counts_same, counts_written, row_counted}
use Rattle.bsp_maps.proofs.IndexLemmas.{index_same, index_written}
use Rattle.bsp_rows.specs.Rows.{memo_cmp}
use Rattle.bsp_rows.proofs.KeyOrders.{memo_exact, memo_total}
use Rattle.bsp_memory_tables.specs.Places.{agent_place, one_cmp, parties_cmp, parties_of, unbilled_place}
use Rattle.bsp_memory_tables.proofs.PlaceOrders.{memos_by_agent, parties_exact, unbilled_memos}
use Rattle.bsp_memory_tables.proofs.memos.MemoTable.put.Goals as goal

pub relocate-requires : goal.relocate-requires
relocate-requires c = memos_by_agent

pub relocate-requires-2 : goal.relocate-requires-2
relocate-requires-2 c = unbilled_memos

pub relocate-requires-3 : goal.relocate-requires-3
relocate-requires-3 c = parties_exact

pub returns-clause-kept : goal.returns-clause-kept
returns-clause-kept c =
    let key = c.args.key.now in
    let memo = c.args.memo.now in
    let rows = content memo_cmp c.args.self.now.rows in
    let agents = members nat_cmp memo_cmp c.relocate.new.self in
    let due = members one_cmp memo_cmp c.relocate-2.new.self in
    let before = counted parties_cmp c.args.self.now.issued in
    let counts = counted parties_cmp c.relocate-3.new.self in
    let was : option_map (parties_of key) (get rows key) ≡ c.old_parties.result = sym (c.old_parties.ensures ∙ ap (option_map (parties_of key)) c.requires) in
    let moved : AreCounted parties_cmp parties_of rows before → IsRecounted parties_cmp (option_map (parties_of key) (get rows key)) (parties_of key memo) before counts = λ are.
    subst (λ (f : Option Parties). IsRecounted parties_cmp f (parties_of key memo) before counts) (sym was)
    (subst (λ (t : Parties). IsRecounted parties_cmp c.old_parties.result t before counts) c.parties_of.ensures
    (c.in_ok-relocate-3.ensures.ok (subst (λ (f : Option Parties). HasCounted parties_cmp f before) was (row_counted parties_cmp memo_cmp parties_of memo_total memo_exact rows key before are)))) in
    then_ok c.put.result (λ e h. record {
      by_agent = index_same nat_cmp memo_cmp agent_place (insert rows key memo) (content memo_cmp c.put.new.self) agents agents e refl
          (index_written nat_cmp memo_cmp agent_place memo_total memo_exact rows key memo (members nat_cmp memo_cmp c.args.self.now.by_agent) agents c.agent_place.result c.agent_place-2.result
          (c.agent_place.ensures key ∙ ap (found_place agent_place key) c.requires) (c.agent_place-2.ensures key) c.in_ok-relocate.ensures.ok h.by_agent);
      unbilled = index_same one_cmp memo_cmp unbilled_place (insert rows key memo) (content memo_cmp c.put.new.self) due due e refl
          (index_written one_cmp memo_cmp unbilled_place memo_total memo_exact rows key memo (members one_cmp memo_cmp c.args.self.now.unbilled) due c.unbilled_place.result c.unbilled_place-2.result
          (c.unbilled_place.ensures key ∙ ap (found_place unbilled_place key) c.requires) (c.unbilled_place-2.ensures key) c.in_ok-relocate-2.ensures.ok h.unbilled);
      issued = counts_same parties_cmp memo_cmp parties_of (insert rows key memo) (content memo_cmp c.put.new.self) counts counts e refl
          (counts_written parties_cmp memo_cmp parties_of memo_total memo_exact rows key memo (counted parties_cmp c.args.self.now.issued) counts (moved h.issued) h.issued);
    }) c.put.ensures.ok
