use Rattle.bsp_hot.proofs.OutputLemmas.{adds_last}
use Rattle.bsp_hot.proofs.output.Output.push_heading.Goals as goal

pub returns : goal.returns
returns c = adds_last c.args.self.now c.push_transaction_header.new.self c.push_document.new.self _ _ c.push_document.result c.in_ok-push_transaction_header.ensures c.push_document.ensures
