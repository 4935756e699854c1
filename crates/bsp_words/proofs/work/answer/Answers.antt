use Rattle.std.proofs.Common.{map, ap, ◌∙◌}
use Rattle.bsp_words.specs.CommandLine.{work_from}
use Rattle.bsp_words.proofs.CommandLines.{none_answers}
use Rattle.bsp_words.proofs.work.answer.Goals as goal

pub returns-in-Ok-None : goal.returns-in-Ok-None
returns-in-Ok-None g c =
    none_answers (map g.S.AsStr.text c.args.words.now) c.misfit_found.result c.requires.taken
    (rw c.in-Ok-None.field-0-is at c.in-Ok-None.ensures ∙ ap (work_from (map g.S.AsStr.text c.args.words.now)) c.requires.found)
