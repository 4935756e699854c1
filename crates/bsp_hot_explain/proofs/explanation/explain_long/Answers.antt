use Rattle.std.proofs.Common.{◌∙◌}
use Rattle.bsp_hot_explain.proofs.LongLemmas.{long_name}
use Rattle.bsp_hot_explain.proofs.explanation.explain_long.Goals as goal

pub returns-clause-name : goal.returns-clause-name
returns-clause-name c = λ more. c.record_name.ensures ∙ long_name c.args.head.now more c.requires.head
