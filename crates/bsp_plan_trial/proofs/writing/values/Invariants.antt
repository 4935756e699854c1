use Rattle.std.proofs.Common.{◌≡◌, take, true}
use Rattle.std.specs.List.{list_all}
use Rattle.toml.specs.View.{items_view}
use Rattle.bsp_plan_trial.specs.Texts.{AreItemsOf}
use Rattle.bsp_plan_trial.proofs.writing.values.Given as goal

abbrev pub invariant-loop-entry : goal.invariant-loop-entry
invariant-loop-entry g l = list_all g.E.Entry.is_within l.entries ≡ true → AreItemsOf g.E.Entry.form (take l.entry-index l.entries) (items_view l.values.items)
