use Rattle.std.proofs.Common.{◌≡◌, rules}
use Rattle.std.proofs.lemmas.Result.{on_ok_weaker}
use mir.Syntax.{w128}
use mir.Val.{of_z, to_z}
use Rattle.bsp_check.proofs.HotListLemmas.{amounts_are}
use Rattle.bsp_check.proofs.hot_lines.push_amounts.Goals as goal

pub returns : goal.returns
returns c =
    let s = c.args.totals.sums in
    let cash : to_z w128 (of_z w128 s.cash) ≡ s.cash = search rules in
    let credit : to_z w128 (of_z w128 s.credit) ≡ s.credit = search rules in
    let commission : to_z w128 (of_z w128 s.commission) ≡ s.commission = search rules in
    let tax : to_z w128 (of_z w128 s.tax) ≡ s.tax = search rules in
    let net : to_z w128 (of_z w128 c.args.totals.net) ≡ c.args.totals.net = search rules in
    on_ok_weaker
    c.push_all.result
    (amounts_are c.args.totals c.args.out.now.items c.push_named.new.out.items c.push_named-2.new.out.items c.push_named-3.new.out.items c.push_named-4.new.out.items c.push_named-5.new.out.items
    c.push_all.new.out.items (rw cash at c.in_ok-push_named.ensures) (rw credit at c.in_ok-push_named-2.ensures) (rw commission at c.in_ok-push_named-3.ensures)
    (rw tax at c.in_ok-push_named-4.ensures) (rw net at c.in_ok-push_named-5.ensures))
    c.push_all.ensures
