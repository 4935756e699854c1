use Rattle.std.proofs.Common.{sym, ap, ◌∙◌}
use Rattle.bsp_maps.proofs.PickLemmas.{all_pass, if_ok}
use Rattle.bsp_rows.specs.Rows.{airline_memos, memos_of}
use Rattle.bsp_memory_rows.specs.Tables.{rows_of}
use Rattle.bsp_memory_rows.proofs.tables.Tables.memos.Goals as goal

pub returns-in-OfAgent : goal.returns-in-OfAgent
returns-in-OfAgent c =
    let rows = rows_of c.args.self.now in
    if_ok c.of_agent.result (λ v e h. e h.of_memos ∙ ap (λ w. memos_of w rows) (sym c.in-OfAgent.is)) c.of_agent.ensures

pub returns-in-OfAirline : goal.returns-in-OfAirline
returns-in-OfAirline c =
    let rows = rows_of c.args.self.now in
    if_ok c.of_airline.result (λ v e h. e ∙ all_pass (airline_memos c.in-OfAirline.airline rows) ∙ ap (λ w. memos_of w rows) (sym c.in-OfAirline.is)) c.of_airline.ensures

pub returns-in-Unbilled : goal.returns-in-Unbilled
returns-in-Unbilled c =
    let rows = rows_of c.args.self.now in
    if_ok c.unbilled.result (λ v e h. e h.of_memos ∙ ap (λ w. memos_of w rows) (sym c.in-Unbilled.is)) c.unbilled.ensures
