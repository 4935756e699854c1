use Rattle.std.proofs.Common.{is_some, sym, ap, ◌∙◌}
use Rattle.std.specs.Prelude.{unwrap_or}
use Rattle.std.specs.FinMap.{from_entries, get}
use Rattle.bsp_maps.proofs.UndoLemmas.{found}
use Rattle.bsp_maps.proofs.earlier.was_there.Goals as goal

pub returns-in-Some : goal.returns-in-Some
returns-in-Some g c =
    c.is_some.ensures
    ∙ ap (λ o. is_some (unwrap_or o (get (from_entries {R = g.K.Ord.cmp} c.args.values.now.entries) c.args.key.now))) (sym c.in-Some.is ∙ c.copied.ensures ∙ c.get.ensures.value ∙ sym (found g.met.K.Ord.total c.args.found.now.entries c.args.key.now))

pub returns-in-None : goal.returns-in-None
returns-in-None g c =
    c.contains_key.ensures
    ∙ ap is_some (sym (found g.met.K.Ord.total c.args.values.now.entries c.args.key.now))
    ∙ ap (λ o. is_some (unwrap_or o (get (from_entries {R = g.K.Ord.cmp} c.args.values.now.entries) c.args.key.now))) (sym c.in-None.is ∙ c.copied.ensures ∙ c.get.ensures.value ∙ sym (found g.met.K.Ord.total c.args.found.now.entries c.args.key.now))
