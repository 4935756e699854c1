use Rattle.std.proofs.Common.{◌∙◌, ap}
use Rattle.toml.specs.Data.{Data}
use Rattle.toml.specs.View.{items_view, table_view}
use Rattle.toml.proofs.Views.{view-Array}
use Rattle.bsp_plan_trial.specs.Texts.{put}
use Rattle.bsp_plan_trial.proofs.writing.put_list.Goals as goal

pub returns : goal.returns
returns g c = λ within. record {
  items = items_view c.in_ok-values.values.items;
  are = c.in_ok-values.ensures within;
  new_is = c.in_ok-put.ensures ∙ ap (λ (d : Data). put c.args.key.now d (table_view c.args.table.now)) (view-Array c.in_ok-values.values);
}
