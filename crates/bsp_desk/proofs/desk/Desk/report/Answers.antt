use Rattle.bsp_desk.specs.Instructions.{IsReport}
use Rattle.bsp_desk.proofs.InstructionLemmas.{outcome, reported_sound}
use Rattle.bsp_desk.proofs.desk.Desk.report.Goals as goal

pub returns-clause-outcome : goal.returns-clause-outcome
returns-clause-outcome g c =
    let agent = c.args.agent in
    let file = c.args.file.now in
    outcome g.B.Book.means c.args.self.now.book c.take_file.new.book (IsReport agent file) c.take_file.result (λ own rows is sound. reported_sound agent file own rows c.reads_back.ensures is sound) c.take_file.ensures.kept c.take_file.ensures.fault
