use Rattle.std.proofs.Common.{◌∙◌, sym}
use Rattle.std.proofs.lemmas.Option.{none-some}
use Rattle.bsp_store_columns.proofs.tables.second_related.Tuple2TicketKeyReportedDocumentReadEntry.of.Goals as goal

pub returns-in_err-document_of-clause-back : goal.returns-in_err-document_of-clause-back
returns-in_err-document_of-clause-back c = λ x whole is. absurd (none-some _ (sym c.in_err-document_of.was ∙ c.document_of.ensures.back x.1 whole (λ i. (is i).1.1.0) (λ i. (is i).1.1.1.0)))
