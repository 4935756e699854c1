use Rattle.std.proofs.Common.{ℕ, ◌+◌, ◌≤◌, cond, refl, sym, ap, ◌∙◌, Option, Some, subst}
use Rattle.std.specs.Prelude.{count_by, drop, unwrap_or}
use Rattle.std.specs.Ordering.{eq_by_cmp}
use Rattle.std.specs.Cmp.{eq_by_cmp_equiv}
use Rattle.std.specs.BTreeMap.{get}
use Rattle.bsp_maps.proofs.CountLemmas.{next_count, raised, bounded, too_many, at_end, same_value_at, itself}
use Rattle.bsp_maps.proofs.counts.are_within.Goals as goal

pub returns-then-count-limit : goal.returns-then-count-limit
returns-then-count-limit g c =
    let R = g.K.Ord.cmp in
    let key = c.key-item.result in (
      (λ e. absurd (cc e)),
      (λ h. too_many (eq_by_cmp R key key) _ _ _ c.unwrap_or-count.result (unwrap_or (get R c.loop-key.counts key) 0) c.args.limit (itself R g.met.K.Ord.total key)
          (next_count R g.met.K.Ord.total key c.args.keys.now c.loop-key.key-index key c.loop-key-test.true c.key-item.is) (c.loop-key.invariant.counted key)
          (c.unwrap_or-count.ensures ∙ ap (λ (o : Option ℕ). unwrap_or o 0) (c.copied.ensures ∙ c.get.ensures.value)) c.if-count-limit.true (h key)),
    )

pub loop-key-preserved : goal.loop-key-preserved
loop-key-preserved g c =
    let R = g.K.Ord.cmp in
    let o = g.met.K.Ord.total in
    let key = c.key-item.result in
    let count = c.unwrap_or-count.result in
    let now = λ (q : g.row.K.Denot). c.in_ok-insert.ensures.updates.0 q ∙ ap (λ b. cond b (Some (count + 1)) (get R c.loop-key.counts q)) ((eq_by_cmp_equiv o).symm key q) in
    record {
      counted = λ q. ap (λ (w : Option ℕ). unwrap_or w 0 + count_by (eq_by_cmp R q) (drop (c.loop-key.key-index + 1) c.args.keys.now)) (now q)
          ∙ raised (eq_by_cmp R q key) (get R c.loop-key.counts q) (count_by (eq_by_cmp R q) (drop c.loop-key.key-index c.args.keys.now)) (count_by (eq_by_cmp R q) (drop (c.loop-key.key-index + 1) c.args.keys.now)) (count_by (eq_by_cmp R q) c.args.keys.now) count (get R c.loop-key.counts key)
          (c.unwrap_or-count.ensures ∙ ap (λ (w : Option ℕ). unwrap_or w 0) (c.copied.ensures ∙ c.get.ensures.value))
          (λ t. same_value_at R o q key t c.loop-key.counts)
          (next_count R o q c.args.keys.now c.loop-key.key-index key c.loop-key-test.true c.key-item.is) (c.loop-key.invariant.counted q);
      within = λ q. subst (λ (w : Option ℕ). unwrap_or w 0 ≤ c.args.limit) (sym (now q)) (bounded (eq_by_cmp R q key) (get R c.loop-key.counts q) count c.args.limit c.if-count-limit.false (c.loop-key.invariant.within q));
    }

pub returns : goal.returns
returns g c =
    let R = g.K.Ord.cmp in
    ((λ _ k. at_end (eq_by_cmp R k) c.args.keys.now c.loop-key.key-index (unwrap_or (get R c.loop-key.counts k) 0) c.args.limit c.loop-key-test.false (c.loop-key.invariant.counted k) (c.loop-key.invariant.within k)), (λ _. refl))
