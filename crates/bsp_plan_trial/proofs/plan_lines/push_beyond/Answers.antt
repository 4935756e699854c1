use Rattle.std.proofs.Common.{List, ◌++◌, ◌∙◌, ap}
use Rattle.std.specs.List.{flat_map}
use Rattle.bsp_plan_trial.proofs.Pieces.{piece_all, piece_more}
use Rattle.bsp_plan_trial.proofs.plan_lines.push_beyond.Goals as goal

pub loop-entry-preserved : goal.loop-entry-preserved
loop-entry-preserved g c =
    let line = ap (λ (entry : g.row.E.Denot). c.loop-entry.text.items ++ g.E.Lined.line entry) c.entry-item.is in
    piece_more g.E.Lined.line c.beyond-behind.result.now c.loop-entry.entry-index c.entry-item.result c.args.text.now.items c.loop-entry.text.items c.push_line.new.text.items c.loop-entry-test.true c.loop-entry.invariant
    (c.in_ok-push_line.ensures ∙ line)

pub returns : goal.returns
returns g c =
    piece_all g.E.Lined.line c.beyond-behind.result.now c.loop-entry.entry-index c.args.text.now.items c.loop-entry.text.items c.loop-entry-test.false c.loop-entry.invariant
    ∙ ap (λ (xs : List g.row.E.Denot). c.args.text.now.items ++ flat_map g.E.Lined.line xs) c.beyond-behind.ensures
