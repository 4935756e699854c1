use Rattle.std.proofs.Common.{sym, ap, ◌∙◌}
use Rattle.bsp_maps.proofs.PickLemmas.{all_pass, if_ok}
use Rattle.bsp_rows.specs.Rows.{agent_items, items_of}
use Rattle.bsp_memory_rows.specs.Tables.{rows_of}
use Rattle.bsp_memory_rows.proofs.tables.Tables.items.Goals as goal

pub returns-in-OfAgent : goal.returns-in-OfAgent
returns-in-OfAgent c =
    let rows = rows_of c.args.self.now in
    if_ok c.of_agent.result (λ v e h. e ∙ all_pass (agent_items c.in-OfAgent.agent rows) ∙ ap (λ w. items_of w rows) (sym c.in-OfAgent.is)) c.of_agent.ensures

pub returns-in-OfAirlineIn : goal.returns-in-OfAirlineIn
returns-in-OfAirlineIn c =
    let rows = rows_of c.args.self.now in
    if_ok c.of_airline.result (λ v e h. e h.of_items ∙ ap (λ w. items_of w rows) (sym c.in-OfAirlineIn.is)) c.of_airline.ensures
