use Rattle.std.proofs.Common.{ap, ◌∙◌}
use Rattle.std.specs.BTreeMap.Range.{entries_between}
use Rattle.std.specs.declared.ops.Bound.TheVariants.{Included, Unbounded}
use Rattle.bsp_maps.proofs.WindowLemmas.{front}
use Rattle.bsp_maps.proofs.WindowLemmas.{from_low, none_in, first_decides}
use Rattle.bsp_maps.proofs.windows.has_any.Goals as goal

pub returns-in-None-clause-found : goal.returns-in-None-clause-found
returns-in-None-clause-found g c =
    let has = g.W.Window.has c.args.window.now in
    let es = c.args.entries.now.entries in
    none_in has es c.range.result
    (ap (front has) (c.range.ensures.between tt ∙ ap (λ low. entries_between g.K.Ord.cmp (Included low) Unbounded es) c.low.ensures)
    ∙ from_low g.K.Ord.cmp has (g.W.Window.low c.args.window.now) (g.met.W.Window.lowest c.args.window.now) (g.met.W.Window.together c.args.window.now) es c.range.ensures.ordered)
    c.in-None.ensures.steps.0

pub returns-in-Some-clause-found : goal.returns-in-Some-clause-found
returns-in-Some-clause-found g c =
    let has = g.W.Window.has c.args.window.now in
    let es = c.args.entries.now.entries in
    c.has.ensures
    ∙ first_decides has es c.range.result c.next.new.self (c.in-Some.key.now, c.in-Some.field-0-1.now)
    (ap (front has) (c.range.ensures.between tt ∙ ap (λ low. entries_between g.K.Ord.cmp (Included low) Unbounded es) c.low.ensures)
    ∙ from_low g.K.Ord.cmp has (g.W.Window.low c.args.window.now) (g.met.W.Window.lowest c.args.window.now) (g.met.W.Window.together c.args.window.now) es c.range.ensures.ordered)
    c.in-Some.ensures.steps
