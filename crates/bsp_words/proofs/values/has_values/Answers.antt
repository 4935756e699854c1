use Rattle.std.proofs.Common.{◌∙◌}
use Rattle.clap.proofs.WalkLemmas.{raw_values-rows}
use Rattle.clap.specs.Words.{found_of}
use Rattle.bsp_words.proofs.OrderLemmas.{some_of}
use Rattle.bsp_words.proofs.values.has_values.Goals as goal

pub returns : goal.returns
returns c =
    let found = found_of c.args.matches.now in
    let id = c.args.id.now in
    c.is_some.ensures ∙ some_of _ c.get_strs.result _ (c.get_strs.ensures ∙ raw_values-rows found id)
