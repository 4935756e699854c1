use Rattle.std.proofs.Common.{map}
use Rattle.clap.specs.Words.{app_of}
use Rattle.bsp_words.proofs.CommandLines.{found_in_words, refused_words}
use Rattle.bsp_words.proofs.work.matches_found.Goals as goal

pub returns-clause-ok : goal.returns-clause-ok
returns-clause-ok g c =
    found_in_words (app_of c.in_ok-command.command) (map g.S.AsStr.text c.args.words.now) c.try_get_matches_from.result c.in_ok-command.ensures c.try_get_matches_from.ensures.kinds c.try_get_matches_from.ensures.matches

pub returns-clause-err : goal.returns-clause-err
returns-clause-err g c =
    refused_words (app_of c.in_ok-command.command) (map g.S.AsStr.text c.args.words.now) c.try_get_matches_from.result c.in_ok-command.ensures c.try_get_matches_from.ensures.kinds
