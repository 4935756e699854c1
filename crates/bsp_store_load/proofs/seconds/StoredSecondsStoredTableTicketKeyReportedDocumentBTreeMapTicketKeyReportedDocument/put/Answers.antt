use Rattle.bsp_store_base.proofs.Std.{◌∙◌, ◌≡◌, ap, from_entries, get, insert, Some}
use Rattle.bsp_store_base.proofs.Base.{second_row, ticket_cmp}
use Rattle.bsp_store_base.proofs.Back.{document_checked}
use Rattle.bsp_store_columns.specs.declared.tickets.TicketKey.{TicketKey}
use Rattle.bsp_rows.specs.ReportedDocument.{ReportedDocument}
use Rattle.bsp_store_load.proofs.EntryLemmas.{none_there, put_told}
use Rattle.bsp_store_load.proofs.RowReads.{not_none, own_is}
use Rattle.bsp_store_load.proofs.seconds.StoredSecondsStoredTableTicketKeyReportedDocumentBTreeMapTicketKeyReportedDocument.put.Goals as goal

pub returns-in_default-clause-entry : goal.returns-in_default-clause-entry
returns-in_default-clause-entry c = λ e fits lacks is.
    let some : c.read_entry.result ≡ Some e = c.read_entry.ensures.back e fits.formed (document_checked e.1 fits.checked) is in
    absurd (not_none second_row c.args.row.now c.read_entry.result e some c.in_default.is)

pub returns-clause-row : goal.returns-clause-row
returns-clause-row c = λ done. ((c.in-Some.key, c.in-Some.document), c.in-Some.ensures.row, none_there _ _ c.in_ok-put_new.ensures.there done, c.in_ok-put_new.ensures.put done)

pub returns-clause-entry : goal.returns-clause-entry
returns-clause-entry c = λ e fits lacks is.
    let all = from_entries {R = ticket_cmp} c.args.seconds.now.entries in
    let some : c.read_entry.result ≡ Some e = c.read_entry.ensures.back e fits.formed (document_checked e.1 fits.checked) is in
    let same = own_is second_row c.args.row.now c.read_entry.result e some (c.in-Some.key, c.in-Some.document) c.in-Some.is in
    let put = put_told _ _ c.in_ok-put_new.ensures.there (ap (λ (p : TicketKey × ReportedDocument). get all p.0) same ∙ lacks) in
    (put, c.in_ok-put_new.ensures.put put ∙ ap (λ (p : TicketKey × ReportedDocument). insert all p.0 p.1) same)
