use Rattle.std.proofs.Common.{rules, tests, ◌∙◌, map, string_bytes}
use Rattle.std.specs.Map.{keys_of}
use Rattle.std.proofs.lemmas.Iterator.Consumers.{YieldsList-from_rest}
use Rattle.std.proofs.lemmas.Iterator.Search.{all_from_yields_List}
use Rattle.bsp_calendar.specs.PlanDocument.{is_known}
use Rattle.bsp_calendar.proofs.DocumentLemmas.{all_keys}
use Rattle.bsp_calendar.proofs.reading.tables.has_only.Goals as goal

pub returns : goal.returns
returns c =
    let known = map (λ name. name.now) c.args.known.now in
    let road = YieldsList-from_rest {shows = λ x. x.now} {s = c.keys.result} (keys_of c.args.table.now.entries) (search rules) in
    all_from_yields_List (λ key. is_known known (string_bytes key)) _ _ c.all.result c.all.ensures.ran road (λ x b q k. search (rules, tests))
    ∙ all_keys (is_known known) c.args.table.now.entries
