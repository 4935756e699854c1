use Rattle.std.proofs.Common.{◌≡◌, ◌+◌, ◌/◌, ℕ, arith, ap, refl, subst, sym, ◌∙◌, None}
use Rattle.std.specs.FinMap.{FinMap}
use Rattle.bsp_maps.specs.Counts.{IsRecounted, count_at, counted, ones}
use Rattle.bsp_maps.proofs.PlaceCountLemmas.{recounted}
use Rattle.bsp_memory_tables.specs.declared.used.Block.{Block}
use Rattle.bsp_memory_tables.specs.Used.{block_cmp, number_block}
use Rattle.bsp_memory_tables.proofs.UsedLemmas.{all_levels, block_exact, block_total, is_counted_below, none_below, one_level_more, shorter}
use Rattle.bsp_memory_tables.proofs.used.count_number.Goals as goal

pub loop-level-init : goal.loop-level-init
loop-level-init c =
    let k = c.args.key.now in
    let old = counted block_cmp c.args.counts.now in
    let own : Block = record { agent = k.agent; level = 0; place = c.number-own.result } in
    let moved = subst (IsRecounted block_cmp None own old) (sym (c.in_ok-is_first.ensures.first c.if-not-is_first.false)) (recounted block_cmp block_total block_exact None own old (λ place. omega arith)) in
    record {
      counted = λ block.
          let step = one_level_more k 0 c.number-own.result old (counted block_cmp c.count_first.new.self) c.number-own.ensures.value moved block in
          let none = none_below k block in
          omega (arith, step, none);
      place = ap (λ (n : ℕ). n / 100) c.number-own.ensures.value ∙ sym (shorter 0 k.number);
      before = c.count_first.ensures.before;
    }

pub returns-in_err-relocate-clause-before : goal.returns-in_err-relocate-clause-before
returns-in_err-relocate-clause-before c = c.relocate.ensures.before ∙ c.loop-level.invariant.before

pub loop-level-preserved : goal.loop-level-preserved
loop-level-preserved c =
    let at = c.loop-level.invariant.place in
    let moved = c.in_ok-relocate.ensures.ok (λ place. omega arith) in
    record {
      counted = λ block.
          let step = one_level_more c.args.key.now c.loop-level.level c.loop-level.place (counted block_cmp c.loop-level.counts) (counted block_cmp c.relocate.new.self) at moved block in
          let so_far = c.loop-level.invariant.counted block in
          omega (arith, step, so_far);
      place = ap (λ (n : ℕ). n / 100) at ∙ sym (shorter c.loop-level.level c.args.key.now.number);
      before = c.relocate.ensures.before ∙ c.loop-level.invariant.before;
    }

pub returns-clause-ok : goal.returns-clause-ok
returns-clause-ok c = λ block below.
    let end = c.loop-level-test.false in
    let most = c.loop-level.auto.level-end in
    let at : c.loop-level.level ≡ 5 = omega (arith, end, most) in
    let own = λ (n : ℕ). count_at (counted block_cmp c.args.counts.now) (record { agent = c.args.key.now.agent; level = 0; place = n }) in
    let none = sym (ap own c.number-own.ensures.value) ∙ c.in_ok-is_first.ensures.none.0 c.if-not-is_first.false in
    c.loop-level.invariant.counted block
    ∙ ap (λ (l : ℕ). count_at (counted block_cmp c.args.counts.now) block + ones (is_counted_below c.args.key.now l block)) at
    ∙ ap (λ b. count_at (counted block_cmp c.args.counts.now) block + ones b) (all_levels c.args.key.now block (count_at (counted block_cmp c.args.counts.now) (number_block c.args.key.now)) (omega (arith, none)) below)

pub returns-clause-before : goal.returns-clause-before
returns-clause-before c = c.loop-level.invariant.before
