use Rattle.std.specs.Str.Parse.{ExplainsUnsignedError, HasUnsignedDigitsIfOk, ParsesUnsigned}
use Rattle.clap.specs.Words.{found_of}
use Rattle.bsp_words.proofs.CommandLines.{found_number, one_read}
use Rattle.bsp_words.proofs.values.number_given.Goals as goal

pub returns : goal.returns
returns c =
    found_number 32 c.args.id.now (found_of c.args.matches.now) c.get_one.result c.get_one.ensures.none
    (λ t is. one_read _ (λ bs r. ParsesUnsigned 32 10 bs r × ExplainsUnsignedError 10 bs r × HasUnsignedDigitsIfOk bs r) 32 t c.get_one.result (c.get_one.ensures.value t is) (λ u x gives. gives.0))
