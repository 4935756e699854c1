use Rattle.bsp_judge.proofs.UnjudgedLemmas.{if_fault}
use Rattle.bsp_judge.proofs.judging.judge.Goals as goal

pub returns-clause-refused : goal.returns-clause-refused
returns-clause-refused c = if_fault c.judge_file.result (λ fault is. is c.args.text.now c.in-Ok.ensures.found) c.judge_file.ensures.unjudged
