use Rattle.bsp_desk.specs.Instructions.{IsMeant}
use Rattle.bsp_desk.proofs.InstructionLemmas.{instructed_sound, outcome}
use Rattle.bsp_desk.proofs.desk.Desk.outcome.Goals as goal

pub returns-clause-outcome : goal.returns-clause-outcome
returns-clause-outcome g c = outcome g.B.Book.means c.args.self.now.book c.carry_out.new.book (IsMeant c.args.instruction.now) c.carry_out.result (instructed_sound c.args.instruction.now) c.carry_out.ensures.kept c.carry_out.ensures.fault
