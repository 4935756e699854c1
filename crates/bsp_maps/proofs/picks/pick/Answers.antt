use Rattle.std.proofs.Common.{sym, ap, ◌∙◌}
use Rattle.std.specs.FinMap.{from_entries}
use Rattle.bsp_maps.specs.Picks.{with_value}
use Rattle.bsp_maps.proofs.UndoLemmas.{written, found}
use Rattle.bsp_maps.proofs.PickLemmas.{passed, refused}
use Rattle.bsp_maps.proofs.picks.pick.Goals as goal

pub returns-in_ok-insert-in-Some : goal.returns-in_ok-insert-in-Some
returns-in_ok-insert-in-Some g c =
    written g.met.K.Ord.total c.requires c.args.found.now c.insert.new.self c.args.key c.in-Some.value.now c.in_ok-insert-in-Some.ensures.updates.0
    ∙ passed (g.T.Rule.holds c.args.rule.now) (from_entries c.args.entries.now.entries) (from_entries c.args.found.now.entries) c.args.key c.in-Some.value.now
    (found g.met.K.Ord.total c.args.entries.now.entries c.args.key ∙ sym c.in-Some.ensures.value) (sym c.holds.ensures ∙ c.if-holds.true)

pub returns-else-holds : goal.returns-else-holds
returns-else-holds g c =
    refused (g.T.Rule.holds c.args.rule.now) (from_entries c.args.entries.now.entries) (from_entries c.args.found.now.entries) c.args.key c.in-Some.value.now
    (found g.met.K.Ord.total c.args.entries.now.entries c.args.key ∙ sym c.in-Some.ensures.value) (sym c.holds.ensures ∙ c.if-holds.false)

pub returns-in-None : goal.returns-in-None
returns-in-None g c = ap (λ w. with_value (g.T.Rule.holds c.args.rule.now) c.args.key w (from_entries c.args.found.now.entries)) (c.in-None.ensures.value ∙ sym (found g.met.K.Ord.total c.args.entries.now.entries c.args.key))
