use Rattle.std.proofs.Common.{◌≡◌, ◌≤◌, ◌^◌, arith, ap, length, ◌∙◌, sym}
use Rattle.std.specs.Prelude.{ℤ, ◌+ℤ◌, unsigned_abs}
use Rattle.std.specs.Int.{saturate_signed}
use Rattle.std.proofs.lemmas.Int.{ints}
use mir.Syntax.{w128}
use mir.Val.{to_z}
use Rattle.bsp_statement.proofs.NetLemmas.{net_of_posting}
use Rattle.bsp_statement.specs.Tallies.{tally_posting}
use Rattle.bsp_desk.proofs.Posted.{net_kept, net_more}
use Rattle.bsp_desk.proofs.periods.net_over.Goals as goal
use Rattle.bsp_desk.proofs.periods.net_over.Goals.{then-is_used_in, else-is_used_in}

-- a number that fits is its own nearest
nearest : (z : ℤ) → unsigned_abs z ≤ 2 ^ 80 → saturate_signed w128 z ≡ z
nearest z small = grind arith

pub loop-tally-preserved : goal.loop-tally-preserved
loop-tally-preserved c =
    let t = c.tally-item.result in
    let was = c.loop-tally.invariant in
    let before = to_z w128 c.loop-tally.net-bits in
    let after = to_z w128 c.if-is_used_in.net-bits in
    elim c.if-is_used_in.branch [
      | then-is_used_in w ↦
          let posted : w.net.result ≡ net_of_posting (tally_posting t) = w.net.ensures.value ∙ ap net_of_posting w.posting.ensures in
          let added : length c.args.tallies.now ≤ 1000 → w.saturating_add-net.result ≡ before +ℤ w.net.result = λ few.
          w.saturating_add-net.ensures
          ∙ (ap (saturate_signed w128) (omega (arith, ints))
          ∙ nearest (before +ℤ w.net.result) (omega (arith, ints, few, c.loop-tally-test.true, was.small few, w.net.ensures.bound))) in
          let then_is : length c.args.tallies.now ≤ 1000 → w.saturating_add-net.result ≡ before +ℤ w.net.result → after ≡ before +ℤ net_of_posting (tally_posting t) = λ few sum.
          let fits : after ≡ before +ℤ w.net.result = omega (arith, ints, few, c.loop-tally-test.true, sum, was.small few, w.net.ensures.bound, w.net-is) in
          fits ∙ ap (λ (n : ℤ). before +ℤ n) posted in
          record {
            small = λ few. omega (arith, ints, few, c.loop-tally-test.true, added few, was.small few, w.net.ensures.bound, w.net-is);
            sum = λ few. net_more c.args.period c.args.tallies.now c.loop-tally.tally-index t (omega arith) c.tally-item.is before after
                (sym c.is_used_in.ensures ∙ w.if-is_used_in.true) (was.sum few) (then_is few (added few));
          }
      | else-is_used_in w ↦ record {
        small = λ few. omega (arith, ints, was.small few, w.net-is);
        sum = λ few. net_kept c.args.period c.args.tallies.now c.loop-tally.tally-index t (omega arith) c.tally-item.is before after
            (sym c.is_used_in.ensures ∙ w.if-is_used_in.false) (was.sum few) w.net-is;
      }
    ]
