use Rattle.bsp_desk_writes.proofs.AnswerLemmas.{file_served}
use Rattle.bsp_desk_writes.proofs.report.report_file.Goals as goal

pub returns-clause-served : goal.returns-clause-served
returns-clause-served g c = file_served g.B.Book.means c.args.book.now c.judge_all.new.book c.judge_all.new.verdicts c.args.file.now.groups c.args.reporter.now c.in_ok-judge_all.ensures.judged
