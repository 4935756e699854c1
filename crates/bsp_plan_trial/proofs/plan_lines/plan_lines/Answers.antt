use Rattle.std.proofs.Common.{◌∙◌}
use Rattle.bsp_plan_trial.specs.PlanLines.{change_line, lines_beyond, lines_of, terms_lines}
use Rattle.bsp_plan_trial.proofs.Pieces.{three}
use Rattle.bsp_plan_trial.proofs.plan_lines.plan_lines.Goals as goal

pub returns : goal.returns
unfolding lines_of
returns c =
    let plan = c.args.plan.now in
    three (change_line c.args.change) (terms_lines plan.terms) (lines_beyond c.args.known plan) c.in_ok-text.text.items c.push_known_terms.new.text.items c.push_new.new.text.items
    (c.in_ok-text.ensures.items ∙ c.change_line.ensures) c.in_ok-push_known_terms.ensures c.in_ok-push_new.ensures
