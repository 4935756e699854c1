use Rattle.std.proofs.Common.{rules, tests, ◌∙◌, sym}
use Rattle.std.specs.Str.{bytes_eq}
use Rattle.std.proofs.lemmas.Iterator.{YieldsList-from_slice}
use Rattle.std.proofs.lemmas.Iterator.Search.{any_from_yields_List}
use Rattle.bsp_calendar.proofs.DocumentLemmas.{list_any-map}
use Rattle.bsp_calendar.proofs.reading.tables.is_known.Goals as goal

pub returns : goal.returns
returns c =
    any_from_yields_List (λ name. bytes_eq name.now c.args.key.now) _ _ _ c.any.ensures.ran (YieldsList-from_slice c.args.known.now cc) (λ x b q k. search (rules, tests))
    ∙ sym (list_any-map (λ name. bytes_eq name c.args.key.now) (λ name. name.now) c.args.known.now)
