use Rattle.bsp_connection.proofs.StepLemmas.{still_moves}
use Rattle.bsp_connection.proofs.answering.go_on.Goals as goal

pub returns-then-c-clause-moves : goal.returns-then-c-clause-moves
returns-then-c-clause-moves g c = still_moves g.S.Service.means g.S.Service.reads c.args.c.now c.args.desk.now
