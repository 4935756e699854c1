use Rattle.std.specs.List.{flat_map}
use Rattle.bsp_plan_trial.specs.PlanLines.{airline_line, lines_beyond, period_line, rate_line, tax_line}
use Rattle.std.proofs.Common.{drop}
use Rattle.bsp_plan_trial.proofs.Pieces.{pieces}
use Rattle.bsp_plan_trial.proofs.plan_lines.push_new.Goals as goal

pub returns : goal.returns
unfolding lines_beyond
returns c =
    let known = c.args.known in
    rw (c.airlines.ensures, c.rates.ensures, c.periods.ensures, c.commission_taxes.ensures) at
    (pieces c.push_beyond-4.result c.args.text.now.items (flat_map airline_line (drop known.airlines c.airlines.result.now)) (flat_map rate_line (drop known.rates c.rates.result.now))
    (flat_map period_line (drop known.periods c.periods.result.now)) (flat_map tax_line (drop known.commission_taxes c.commission_taxes.result.now))
    c.push_beyond.new.text.items c.push_beyond-2.new.text.items c.push_beyond-3.new.text.items c.push_beyond-4.new.text.items
    c.in_ok-push_beyond.ensures c.in_ok-push_beyond-2.ensures c.in_ok-push_beyond-3.ensures c.push_beyond-4.ensures)
