use Rattle.std.proofs.Common.{◌≡◌, ◌++◌, drop, option_map}
use Rattle.bsp_words.specs.CommandLine.{all_read, texts_in}
use Rattle.bsp_words.proofs.setting.push_read.Given as goal

abbrev pub invariant-loop-text : goal.invariant-loop-text
invariant-loop-text g l =
    option_map (λ more. l.initial.items.items ++ more) (all_read g.T.FromText.reading (texts_in l.texts)) ≡ option_map (λ more. l.items.items ++ more) (all_read g.T.FromText.reading (texts_in (drop l.text-index l.texts)))
