use Rattle.std.proofs.Common.{◌≡◌, ◌∙◌, [], List, Option, None, Some, ap, option_map}
use Rattle.std.specs.Prelude.{unwrap_or}
use Rattle.std.specs.Borrow.{Bor}
use Rattle.std.specs.Option.{UnwrapsOrElse}
use Rattle.clap.proofs.WalkLemmas.{raw_values-rows}
use Rattle.clap.specs.Words.{Text, found_of}
use Rattle.bsp_words.specs.CommandLine.{texts_in}
use Rattle.bsp_words.proofs.values.values_of.Goals as goal

or_empty : (found : Option (Bor (List (Bor Text)))) (texts : Option (List Text)) (r : Bor (List (Bor Text))) → option_map (λ s. texts_in s.now) found ≡ texts → UnwrapsOrElse found (λ s. s.now ≡ []) r → texts_in r.now ≡ unwrap_or texts []
or_empty None texts r is gives = rw (← is) (ap texts_in gives)
or_empty (Some s) texts r is gives = rw (← is) (ap (λ (t : Bor (List (Bor Text))). texts_in t.now) gives)

pub returns : goal.returns
returns c = or_empty c.get_strs.result _ c.unwrap_or_default.result (c.get_strs.ensures ∙ raw_values-rows (found_of c.args.matches.now) c.args.id.now) c.unwrap_or_default.ensures
