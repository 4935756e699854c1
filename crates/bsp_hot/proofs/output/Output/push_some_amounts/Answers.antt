use Rattle.bsp_hot.proofs.OutputLemmas.{adds_last}
use Rattle.bsp_hot.proofs.output.Output.push_some_amounts.Goals as goal

pub returns-in_ok-push_amounts-in-Some : goal.returns-in_ok-push_amounts-in-Some
returns-in_ok-push_amounts-in-Some c = rw c.in-Some.is (adds_last c.args.self.now c.push_amounts.new.self c.push_commission.new.self _ _ c.push_commission.result c.in_ok-push_amounts-in-Some.ensures c.push_commission.ensures)
