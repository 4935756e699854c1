use Rattle.std.proofs.Common.{◌+◌, cond, sym, ap, ◌∙◌, arith, Some, take}
use Rattle.bsp_rows.proofs.MapLemmas.{same_Some}
use Rattle.bsp_store_columns.specs.Airlines.{place_of}
use Rattle.bsp_store_columns.proofs.AirlineLemmas.{place_taken}
use Rattle.bsp_store_columns.proofs.airlines.place_of.Goals as goal
use Rattle.bsp_store_columns.proofs.airlines.place_of.Goals.{then-eq, else-eq}

pub loop-at-preserved : goal.loop-at-preserved
loop-at-preserved c =
    let i = c.loop-at in
    let all = c.args.published.now in
    let next = place_taken c.args.airline all i.at c.index-published-at.result c.loop-at-test.true c.index-published-at.is in
    let before = place_of c.args.airline (take i.at all) in
    elim c.if-eq.branch [
      | then-eq w ↦ record {
        value = w.place-is ∙ sym (next ∙ ap (λ b. cond b (Some (i.at + 1)) before) (sym c.eq.ensures ∙ w.if-eq.true));
        stored = λ x is. let same = same_Some _ x (sym w.place-is ∙ is) in omega arith;
      }
      | else-eq w ↦ record {
        value = w.place-is ∙ i.invariant.value ∙ sym (next ∙ ap (λ b. cond b (Some (i.at + 1)) before) (sym c.eq.ensures ∙ w.if-eq.false));
        stored = λ x is. i.invariant.stored x (sym w.place-is ∙ is);
      }
    ]
