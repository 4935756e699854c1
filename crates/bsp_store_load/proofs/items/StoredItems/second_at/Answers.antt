use Rattle.bsp_store_base.proofs.Std.{◌∙◌, ap, from_entries, get, option_and_then, sym}
use Rattle.bsp_maps.proofs.UndoLemmas.{found}
use Rattle.bsp_store_base.proofs.Base.{ticket_cmp, ticket_total}
use Rattle.bsp_store_columns.specs.declared.tickets.TicketKey.{TicketKey}
use Rattle.bsp_store_load.proofs.items.StoredItems.second_at.Goals as goal

pub returns : goal.returns
returns c =
    let seconds = from_entries {R = ticket_cmp} c.args.self.now.seconds.now.entries in
    c.copied.ensures ∙ c.get.ensures.value ∙ sym (found ticket_total c.args.self.now.seconds.now.entries c.in_ok-ticket.ticket)
    ∙ ap (option_and_then (λ (t : TicketKey). get seconds t)) (sym c.in_ok-ticket.was ∙ c.of.ensures)
