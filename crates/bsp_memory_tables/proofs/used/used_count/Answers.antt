use Rattle.std.proofs.Common.{◌≡◌, ◌+◌, ◌*◌, ◌<◌, ◌/◌, ℕ, arith, ap, sym, ◌∙◌}
use Rattle.bsp_maps.proofs.PickLemmas.{if_ok}
use Rattle.bsp_memory_tables.specs.Used.{agent_numbers, count_once, is_between}
use Rattle.bsp_memory_tables.proofs.UsedLemmas.{next_level, nothing_in, two_parts, whole_range}
use Rattle.bsp_memory_tables.proofs.used.used_count.Goals as goal

pub overflow_add-to : goal.overflow_add-to
overflow_add-to c = let most = c.number-to.ensures.ten_digits in omega (arith, most)

pub returns-then-to-from : goal.returns-then-to-from
returns-then-to-from c = λ items are.
    let first = c.number-from.ensures.value in
    let last = c.number-to.ensures.value in
    let test = c.if-to-from.true in
    sym (nothing_in c.args.range.now (agent_numbers c.args.agent items) (omega (arith, first, last, test)))

pub loop-level-init : goal.loop-level-init
loop-level-init c = record {
  counted = λ items are.
      let ns = agent_numbers c.args.agent items in
      let bounds = ap (λ (to : ℕ). count_once (is_between 0 c.number-from.result (to + 1)) ns) c.number-to.ensures.value
      ∙ ap (λ (from : ℕ). count_once (is_between 0 from (c.args.range.now.last + 1)) ns) c.number-from.ensures.value in
      let whole = whole_range c.args.range.now ns in
      omega (arith, bounds, whole);
  order = c.if-to-from.false;
}

pub count_places-requires : goal.count_places-requires
count_places-requires c = c.loop-level.invariant.order

pub returns-then-end-first : goal.returns-then-end-first
returns-then-end-first c = if_ok c.sum.result (λ v e items are.
    let test = c.loop-level-test.true in
    let rest = c.in_ok-count_places.ensures items are (omega (arith, test)) in
    let so_far = c.loop-level.invariant.counted items are in
    omega (arith, e, rest, so_far)) c.sum.ensures

pub loop-level-preserved : goal.loop-level-preserved
loop-level-preserved c =
    let level = c.loop-level.level in
    let from = c.loop-level.from in
    let to = c.loop-level.to in
    let first = c.first_whole-first.result in
    let end = to / 100 in
    let low = c.first_whole-first.ensures.least in
    let inner = c.if-end-first.false in
    record {
      counted = λ items are.
          let ns = agent_numbers c.args.agent items in
          let test = c.loop-level-test.true in
          let below : level < 5 = omega (arith, test) in
          let left = c.in_ok-count_places-2.ensures items are below in
          let right = c.in_ok-count_places-3.ensures items are below in
          let one = c.in_ok-count.ensures in
          let two = c.in_ok-count-2.ensures in
          let so_far = c.loop-level.invariant.counted items are in
          let first_part = two_parts level from (first * 100) to low (omega (arith, inner)) ns in
          let last_part = two_parts level (first * 100) (end * 100) to (omega (arith, inner)) (omega arith) ns in
          let whole = next_level level first end ns in
          omega (arith, left, right, one, two, so_far, first_part, last_part, whole);
      order = omega (arith, inner);
    }

pub count_places-requires-2 : goal.count_places-requires-2
count_places-requires-2 c = c.loop-level.invariant.order

pub returns : goal.returns
returns c = if_ok c.sum-2.result (λ v e items are.
    let end = c.loop-level-test.false in
    let most = c.loop-level.auto.level-end in
    let at : c.loop-level.level ≡ 4 = omega (arith, end, most) in
    let rest = c.in_ok-count_places-4.ensures items are (omega arith) in
    let so_far = c.loop-level.invariant.counted items are in
    let last = ap (λ (l : ℕ). count_once (is_between l c.loop-level.from c.loop-level.to) (agent_numbers c.args.agent items)) at in
    omega (arith, e, rest, so_far, last)) c.sum-2.ensures
