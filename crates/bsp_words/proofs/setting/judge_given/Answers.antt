use Rattle.std.proofs.Common.{map}
use Rattle.clap.specs.Words.{found_of, rows_of}
use Rattle.bsp_words.proofs.OrderLemmas.{judged}
use Rattle.bsp_words.proofs.setting.judge_given.Goals as goal

pub returns : goal.returns
returns g c =
    judged (map g.S.AsStr.text c.args.words.now) (rows_of (found_of c.args.matches.now)) c.in-Some.file.now c.in-Some-empty_setting.setting c.fill_lists.new.setting
    c.in-Some.ensures c.in-Some-empty_setting.ensures.singles c.fill_lists.ensures.singles (rw c.if-not-branch.false at c.in_ok-fill_lists.ensures.lists)
