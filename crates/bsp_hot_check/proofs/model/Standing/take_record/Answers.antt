use Rattle.bsp_hot_check.proofs.model.Standing.take_record.Goals as goal

pub returns-in-FileHeader-clause-next : goal.returns-in-FileHeader-clause-next
returns-in-FileHeader-clause-next c = rw c.in-FileHeader.is c.take_heading.ensures.next

pub returns-in-PeriodHeader-clause-next : goal.returns-in-PeriodHeader-clause-next
returns-in-PeriodHeader-clause-next c = rw c.in-PeriodHeader.is c.take_period.ensures.next

pub returns-in-OfficeHeader-clause-next : goal.returns-in-OfficeHeader-clause-next
returns-in-OfficeHeader-clause-next c = rw c.in-OfficeHeader.is c.take_office.ensures.next

pub returns-in-TransactionHeader-clause-next : goal.returns-in-TransactionHeader-clause-next
returns-in-TransactionHeader-clause-next c = rw c.in-TransactionHeader.is c.take_transaction.ensures.next

pub returns-in-Document-clause-next : goal.returns-in-Document-clause-next
returns-in-Document-clause-next c = rw c.in-Document.is c.take_document.ensures.next

pub returns-in-PartOf-clause-next : goal.returns-in-PartOf-clause-next
returns-in-PartOf-clause-next c = rw c.in-PartOf.is c.take_part.ensures.next

pub returns-in-CodeTotals-clause-next : goal.returns-in-CodeTotals-clause-next
returns-in-CodeTotals-clause-next c = rw c.in-CodeTotals.is c.take_code_totals.ensures.next

pub returns-in-OfficeTotals-clause-next : goal.returns-in-OfficeTotals-clause-next
returns-in-OfficeTotals-clause-next c = rw c.in-OfficeTotals.is c.take_office_totals.ensures.next

pub returns-in-PeriodTotals-clause-next : goal.returns-in-PeriodTotals-clause-next
returns-in-PeriodTotals-clause-next c = rw c.in-PeriodTotals.is c.take_period_totals.ensures.next

pub returns-in-FileTotals-clause-next : goal.returns-in-FileTotals-clause-next
returns-in-FileTotals-clause-next c = rw c.in-FileTotals.is c.take_file_totals.ensures.next
