use Rattle.std.proofs.Common.{◌≡◌, ◌≤◌, ◌^◌, arith, ap, length, ◌∙◌}
use Rattle.std.specs.Prelude.{◌+ℤ◌}
use Rattle.std.proofs.lemmas.Int.{ints}
use mir.Syntax.{w128}
use mir.Val.{of_z, to_z}
use Rattle.bsp_statement.proofs.NetLemmas.{net_of_posting}
use Rattle.bsp_judge.proofs.JudgeLemmas.{net_next}
use Rattle.bsp_judge.proofs.owed.net_of.Goals as goal

pub loop-tally-preserved : goal.loop-tally-preserved
loop-tally-preserved c =
    let was = c.loop-tally.invariant in
    let few : length c.args.tallies.now ≤ 2 ^ 58 = c.requires in
    let before = to_z w128 c.loop-tally.net-bits in
    let after = to_z w128 (of_z w128 (before +ℤ to_z w128 (of_z w128 c.net-net.result))) in
    let sum : after ≡ before +ℤ c.net-net.result = omega (arith, ints, few, c.loop-tally-test.true, was.small, c.net-net.ensures.bound) in
    record {
      small = omega (arith, ints, sum, was.small, c.net-net.ensures.bound);
      sum = net_next c.args.tallies.now c.loop-tally.tally-index c.tally-item.result before after c.net-net.result c.loop-tally-test.true c.tally-item.is was.sum
          (c.net-net.ensures.value ∙ ap net_of_posting c.posting.ensures) sum;
    }
