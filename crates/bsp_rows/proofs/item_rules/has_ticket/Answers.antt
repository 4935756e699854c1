use Rattle.std.proofs.Common.{sym, ◌∙◌}
use Rattle.bsp_rows.specs.Audit.{as_map}
use Rattle.bsp_rows.specs.Rows.{item_cmp}
use Rattle.bsp_rows.proofs.ItemRuleLemmas.{no_ticket, ticket_found}
use Rattle.bsp_rows.proofs.item_rules.has_ticket.Goals as goal

pub returns-in-Some : goal.returns-in-Some
returns-in-Some c = ticket_found (as_map item_cmp c.args.items.now) c.args.agent c.args.airline c.args.lives c.args.document.now c.in-Ok.number (sym c.in-Ok.ensures.value) c.in-Some.ticket c.is_open_ticket.result (sym c.at.ensures ∙ c.in-Some.is) c.is_open_ticket.ensures

pub returns-in-None : goal.returns-in-None
returns-in-None c = no_ticket (as_map item_cmp c.args.items.now) c.args.agent c.args.airline c.args.lives c.args.document.now c.in-Ok.number (sym c.in-Ok.ensures.value) (sym c.at.ensures ∙ c.in-None.is)
