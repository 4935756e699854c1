use Rattle.std.proofs.Common.{sym, ◌∙◌}
use Rattle.bsp_hot_explain.proofs.LongLemmas.{long_foreign}
use Rattle.bsp_hot_explain.proofs.explanation.long_line_reason.Goals as goal

pub returns-then-not-begins_file : goal.returns-then-not-begins_file
returns-then-not-begins_file c = λ more is.
    long_foreign c.args.at.now c.args.head.now more c.args.width c.if-at-eq0.true c.requires.long c.requires.head (sym c.begins_file.ensures ∙ c.if-not-begins_file.true) is
