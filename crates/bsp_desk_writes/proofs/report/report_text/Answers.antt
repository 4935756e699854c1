use Rattle.bsp_desk_writes.proofs.AnswerLemmas.{fault_served, text_served}
use Rattle.bsp_desk_writes.proofs.report.report_text.Goals as goal

pub returns-in-Ok-clause-served : goal.returns-in-Ok-clause-served
returns-in-Ok-clause-served g c = text_served g.B.Book.means c.args.book.now c.report_file.new.book c.report_file.result c.args.bytes.now c.in-Ok.file c.in-Ok.ensures.found c.args.reporter.now c.report_file.ensures.served

pub returns-in-Err-clause-served : goal.returns-in-Err-clause-served
returns-in-Err-clause-served g c = fault_served g.B.Book.means c.args.book.now c.report_fault.new.book c.report_fault.result c.in-Err.fault c.args.bytes.now c.report_fault.ensures.read c.report_fault.ensures.served c.in-Err.ensures.fault c.args.reporter.now
