-- The tax on commission of what is accepted is that by its airline's own items, among which its tickets are.
use Rattle.std.proofs.Common.{◌≡◌, ℕ, ◌==◌, ◌&&◌, Bool, true, cond, List, Option, Some, None, ap, sym, ◌∙◌}
use Rattle.std.specs.FinMap.{FinMap, get}
use Rattle.std.proofs.lemmas.Bool.{and_parts, eqb-true}
use Rattle.bsp_rules.specs.Tax.{hundredths_for, issued_of, tax_on}
use Rattle.bsp_rows.specs.FactsOf.{related_document}
use Rattle.bsp_rows.specs.Item.{Item}
use Rattle.bsp_rows.specs.RelatedDocument.{RelatedDocument}
use Rattle.bsp_rows.specs.ReportedDocument.{ReportedDocument}
use Rattle.bsp_rows.specs.Reporter.{Reporter}
use Rattle.bsp_rows.specs.RulesRows.{has_number, is_ticket}
use Rattle.bsp_rows.specs.SameContent.{same_code}
use Rattle.bsp_rows.specs.Transaction.{Transaction}
use Rattle.bsp_rows.specs.TransactionCode.TheVariants.{Tktt}
use Rattle.bsp_rows.specs.declared.keys.ItemKey.{ItemKey}
use Rattle.bsp_rows.specs.Changes.{IsAcceptance, facts_at}
use Rattle.bsp_rows.specs.Part.{kept}
use Rattle.bsp_rows.specs.Rows.{Rows, agent_items, agent_token, item_cmp, ranges_of}
use Rattle.bsp_rows.specs.Sound.{Sound, document_at, documents_at, ticket_key}
use Rattle.bsp_rows.proofs.ClearedLemmas.{IsCleared, IsOpenTicket, cleared}
use Rattle.bsp_rows.proofs.KeyOrders.{item_exact, item_total}
use Rattle.bsp_rows.proofs.MeaningLemmas.{accepted_is_passed}
use Rattle.bsp_rows.proofs.PartLemmas.{kept_get, passing}
use Rattle.bsp_rows.proofs.TaxTies.{AreIssuedAlike, document_issued, facts_related, facts_ticket, related_reads, same_hundredths}
use Rattle.std.specs.Prelude.{is_some}
use Rattle.bsp_office_spec.specs.AirlineLedger.{airline_ledger_of}
use Rattle.bsp_office_spec.specs.AirlineView.{taken_item}
use Rattle.bsp_office_spec.specs.Ledger.{ledger_of, new_item}
use Rattle.bsp_office_spec.proofs.ChangeLemmas.{part_item}

abbrev pub bears_airline : ℕ → ItemKey × Item → Bool
bears_airline airline e = e.1.transaction.document.airline == airline

-- a ticket of a document is of the document's airline
ticket_airline : (d : ReportedDocument) (i : Item) → is_ticket d i ≡ true → i.transaction.document.airline ≡ d.airline
ticket_airline d i h =
    let first = (and_parts (same_code i.transaction.code Tktt && (i.transaction.document.airline == d.airline)) (has_number d.number i) h).0 in
    eqb-true i.transaction.document.airline d.airline (and_parts (same_code i.transaction.code Tktt) (i.transaction.document.airline == d.airline) first).1

-- a transaction of agent b that is accepted over the rows, and bears airline c
module _ (c : ℕ) (who : Reporter) (b : ℕ) (t : Transaction) (period : ℕ) (rows : Rows) (s : Sound rows) (a : IsAcceptance who rows (new_item b (ledger_of b rows) t period)) (bears : (t.document.airline == c) ≡ true) where
  abbrev own_items : FinMap item_cmp Item
  own_items = kept (bears_airline c) rows.items

  clear : IsCleared rows (new_item b (ledger_of b rows) t period)
  clear = cleared who rows (new_item b (ledger_of b rows) t period) s.items a.group ((accepted_is_passed who t (facts_at b t rows) rows.published period).0 a.accepted)

  -- its open ticket is among the airline's items
  ticket_there : (d : ReportedDocument) (o : IsOpenTicket rows b t.document.airline d) → get own_items (ticket_key b d) ≡ Some o.ticket
  ticket_there d o =
      let of_airline : (o.ticket.transaction.document.airline == c) ≡ true = ap (λ (n : ℕ). n == c) (ticket_airline d o.ticket o.is ∙ o.own) ∙ bears in
      kept_get item_total item_exact (bears_airline c) rows.items (ticket_key b d)
      ∙ (ap (passing (bears_airline c) (ticket_key b d)) o.there ∙ ap (λ (x : Bool). cond x (Some o.ticket) None) of_airline)

  issued_alike : AreIssuedAlike (related_document (agent_items b rows)) (document_at own_items b) t.related
  issued_alike d among =
      let o : IsOpenTicket rows b t.document.airline d = clear.tickets d among in
      ap issued_of (facts_ticket (agent_items b rows) d ∙ o.found) ∙ sym (document_issued own_items b d o.ticket (related_reads t d clear.checked among) (ticket_there d o))

  same_taken : hundredths_for t (facts_at b t rows).related rows.published ≡ hundredths_for t (documents_at own_items b t) rows.published
  same_taken =
      ap (λ (r : List (Option RelatedDocument)). hundredths_for t r rows.published) (facts_related (is_some (agent_token b rows)) (ranges_of b rows) (agent_items b rows) t rows.published)
      ∙ same_hundredths (related_document (agent_items b rows)) (document_at own_items b) t rows.published issued_alike

  -- it joins the airline's items as it joins the agent's
  pub taken_as_accepted : new_item b (ledger_of b rows) t period ≡ taken_item b (airline_ledger_of c rows) t period
  taken_as_accepted =
      part_item b rows t period
      ∙ ap (λ (n : ℕ). record { agent = b; period = period; transaction = t; lives = true; tax = tax_on n t; hundredths = n }) same_taken
