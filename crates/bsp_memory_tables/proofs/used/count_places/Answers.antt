use Rattle.std.proofs.Common.{◌≡◌, ℕ, arith, ap, sym, ◌∙◌}
use Rattle.bsp_memory_tables.specs.Used.{agent_numbers, count_once, is_between}
use Rattle.bsp_memory_tables.proofs.UsedLemmas.{none_between, one_more_place}
use Rattle.bsp_memory_tables.proofs.used.count_places.Goals as goal

pub loop-place-init : goal.loop-place-init
loop-place-init c = record {
  counted = λ items are below. sym (none_between c.args.level c.args.from (agent_numbers c.args.agent items));
  behind = omega arith;
  up = c.requires;
}

pub loop-place-preserved : goal.loop-place-preserved
loop-place-preserved c =
    let before = c.loop-place.invariant.behind in
    let test = c.loop-place-test.true in
    record {
      counted = λ items are below.
          let step = one_more_place c.args.agent c.args.level c.args.from c.loop-place.place before (agent_numbers c.args.agent items) in
          let so_far = c.loop-place.invariant.counted items are below in
          let here = c.at.ensures ∙ are (record { agent = c.args.agent; level = c.args.level; place = c.loop-place.place }) below in
          let added = c.in_ok-count.ensures in
          omega (arith, step, so_far, here, added);
      behind = omega (arith, before);
      up = omega (arith, test);
    }

pub returns : goal.returns
returns c = λ items are below.
    let up = c.loop-place.invariant.up in
    let end = c.loop-place-test.false in
    let at : c.loop-place.place ≡ c.args.to = omega (arith, up, end) in
    c.loop-place.invariant.counted items are below ∙ ap (λ (p : ℕ). count_once (is_between c.args.level c.args.from p) (agent_numbers c.args.agent items)) at
